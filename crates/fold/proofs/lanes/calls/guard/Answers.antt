-- `fold::lanes::calls::guard` meets its contract.
-- Assumes nothing.
use Rattle.crc.specs.Guard.{guard}
use Rattle.fold.proofs.lanes.calls.guard.Goals as goal

pub returns : goal.returns
unfolding guard
returns c = c.run.ensures
