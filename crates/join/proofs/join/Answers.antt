-- `join::join` meets its contract.
-- Assumes nothing.
use mathlib.Core.Path.{ap, ◌∙◌}
use Prim.Native.Nat.{ℕ}
use lib.Bits.{bit_xor}
use Rattle.join.specs.Joins.{join}
use Rattle.join.proofs.join.Goals as goal

pub returns : goal.returns
unfolding join
returns c = c.combine.ensures ∙ ap (λ (r : ℕ). bit_xor r c.args.b) c.add_zeros.ensures
