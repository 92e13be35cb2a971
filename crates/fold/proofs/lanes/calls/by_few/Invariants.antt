-- `fold::lanes::calls::by_few` meets its contract. The invariant: the bytes still to come, from the register now, give what all give from
-- the first. Assumes nothing.
use mathlib.Core.Path.{◌≡◌}
use lib.ListN.{length}
use Rattle.crc.specs.Guard.{run}
use Rattle.fold.proofs.lanes.calls.by_few.Given as goal

abbrev pub invariant-loop-first : goal.invariant-loop-first
invariant-loop-first l = run l.after l.rest ≡ run l.register l.bytes

abbrev pub decreases-loop-first : goal.decreases-loop-first
decreases-loop-first l = length l.rest
