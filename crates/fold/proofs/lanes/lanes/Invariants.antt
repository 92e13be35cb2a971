-- `fold::lanes::lanes` meets its contract. The invariant: the first l lanes are there.
-- Assumes nothing.
use mathlib.Core.Path.{◌≡◌}
use lib.ListN.{length}
use Rattle.fold.specs.Columns.{Laned}
use Rattle.fold.proofs.lanes.lanes.Given as goal

abbrev pub invariant-loop-l : goal.invariant-loop-l
invariant-loop-l l = (length l.out ≡ 4) × Laned l.register l.b l.out l.l
