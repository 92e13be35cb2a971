-- `castagnoli::through` meets its contract. The invariant: the bytes still to come, from the register now, give what all give from the first.
-- Assumes nothing.
use mathlib.Core.Path.{◌≡◌}
use lib.ListN.{length}
use Rattle.castagnoli.specs.Tables.{look_run}
use Rattle.castagnoli.proofs.through.Given as goal

abbrev pub invariant-loop-left : goal.invariant-loop-left
invariant-loop-left l = look_run l.first l.last l.after l.left ≡ look_run l.first l.last l.register l.bytes

abbrev pub decreases-loop-left : goal.decreases-loop-left
decreases-loop-left l = length l.left
