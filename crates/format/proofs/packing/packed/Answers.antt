-- `format::packing::packed` meets its contract. Assumes nothing.
use mathlib.Core.Path.{ap₂}
use Prim.Native.Nat.{ℕ, ◌+◌, ◌*◌}
use Rattle.format.specs.Packed.{packed}
use Rattle.format.proofs.packing.packed.Goals as goal

pub returns : goal.returns
unfolding packed
returns c = ap₂ (λ (v w : ℕ). v + 65536 * w) c.from.ensures c.from-2.ensures
