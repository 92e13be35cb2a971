-- `checksum::block` meets its contract. Assumes nothing.
use mathlib.Core.Path.{ap, ap₂, ◌∙◌}
use mathlib.Core.List.{List}
use Prim.Native.Nat.{ℕ, ◌+◌}
use native.Mathlib.Omega.{arith}
use Rattle.checksum.specs.Weights.{made, reduced}
use Rattle.checksum.specs.Lanes.{pairs}
use Rattle.checksum.proofs.Columns.{lanes_sums}
use Rattle.checksum.proofs.block.Goals as goal

pub returns : goal.returns
returns c =
    let a = c.args in
    c.reduce.ensures
    ∙ ap₂ (λ (s x : ℕ). reduced (s + x)) c.from.ensures (c.weight.ensures.0 ∙ ap (λ (l : List ℕ). made 0 (pairs l)) c.lanes-lanes.ensures)
    ∙ lanes_sums a.sum a.bytes.now (omega arith) (omega arith) c.fits-bytes
