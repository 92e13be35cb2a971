-- `fold::lanes::calls::past_one` meets its contract.
-- Assumes nothing.
use mathlib.Core.Path.{ap, ◌∙◌}
use Prim.Native.Nat.{ℕ, ◌*◌, ◌/◌, ◌%◌}
use lib.Bits.{bit_xor}
use Rattle.words.specs.Words.{rest}
use Rattle.fold.proofs.Wordwise.{one_more}
use borrow.Author.Rules.{rules}
use Rattle.fold.proofs.lanes.calls.past_one.Goals as goal

pub returns : goal.returns
returns c =
    let a = c.args in
    ap (bit_xor (a.register % 256 * 256)) (c.left_of.ensures ∙ ap (λ (b : ℕ). rest (bit_xor (a.register / 256) b)) c.from.ensures) ∙ one_more a.register a.byte (search rules) (search rules)
