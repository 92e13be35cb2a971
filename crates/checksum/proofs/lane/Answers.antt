-- `checksum::lane` meets its contract. Assumes nothing.
use native.Mathlib.Omega.{arith}
use Rattle.checksum.proofs.Columns.{lane_stack}
use Rattle.checksum.proofs.lane.Goals as goal

pub returns : goal.returns
returns c =
    let a = c.args in
    let e = lane_stack a.bytes.now a.at in
    omega (arith, e, c.four-4.ensures.0, c.four-3.ensures.0, c.four-2.ensures.0, c.four.ensures.0)
