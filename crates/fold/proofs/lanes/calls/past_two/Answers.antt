-- `fold::lanes::calls::past_two` meets its contract.
-- Assumes nothing.
use mathlib.Core.Path.{ap, ◌∙◌}
use Prim.Native.Nat.{ℕ}
use lib.Bits.{bit_xor}
use Rattle.words.specs.Words.{rest}
use Rattle.fold.proofs.Wordwise.{two_more}
use borrow.Author.Rules.{rules}
use Rattle.fold.proofs.lanes.calls.past_two.Goals as goal

pub returns : goal.returns
returns c =
    let a = c.args in
    c.left_of.ensures ∙ ap (λ (w : ℕ). rest (bit_xor a.register w)) c.from_be_bytes.ensures ∙ two_more a.register a.first a.second (search rules) (search rules) (search rules)
