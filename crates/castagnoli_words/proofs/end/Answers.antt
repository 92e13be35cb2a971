-- `castagnoli_words::end` meets its contract: two halves, one after the other.
-- Assumes nothing.
use mathlib.Core.Path.{ap, ◌∙◌}
use Prim.Native.Nat.{ℕ, ◌/◌, ◌%◌, ◌^◌}
use native.Mathlib.Nat.{mod-eq_of_lt}
use lib.Bits.{bit_xor}
use Rattle.castagnoli_words.specs.Words.{half}
use Rattle.castagnoli_words.proofs.Sparse.{rest_lt}
use Rattle.castagnoli_words.proofs.Ends.{ends}
use Rattle.castagnoli_words.proofs.end.Goals as goal

pub returns : goal.returns
returns c =
    let v = c.args.v in
    ap (λ (x : ℕ). x % 2 ^ 32) (c.half-2.ensures ∙ ap (λ (x : ℕ). half (bit_xor x (v / 2 ^ 32))) c.half.ensures ∙ ends v) ∙ mod-eq_of_lt (rest_lt v)
