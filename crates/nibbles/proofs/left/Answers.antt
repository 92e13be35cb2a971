-- `nibbles::left` meets its contract.
-- Assumes nothing.
use mathlib.Core.Path.{ap, ◌∙◌}
use Prim.Native.Nat.{ℕ, ◌%◌, ◌^◌}
use lib.Bits.{bit_xor}
use Rattle.words.specs.Words.{act}
use Rattle.nibbles.specs.Nibbles.{nearer}
use Rattle.nibbles.specs.Quotients.{multiple}
use Rattle.nibbles.proofs.Divided.{divided, leaves}
use borrow.Author.Rules.{rules}
use Rattle.nibbles.proofs.left.Goals as goal

pub returns : goal.returns
returns c =
    ap (λ (x : ℕ). bit_xor c.near-z.result x % 2 ^ 16) (c.generators.ensures ∙ ap (act multiple) c.times.ensures)
    ∙ ap divided (c.near-z.ensures ∙ ap (act nearer) c.moved.ensures) ∙ leaves c.args.v (search rules)
