-- `checksum::weight` meets its contract. The invariant: what is left, from the number now, makes what all makes. Assumes nothing.
use mathlib.Core.Path.{◌≡◌}
use lib.ListN.{length}
use Rattle.checksum.specs.Lanes.{pairs}
use Rattle.checksum.specs.Weights.{made}
use Rattle.checksum.proofs.weight.Given as goal

abbrev pub invariant-loop-high : goal.invariant-loop-high
invariant-loop-high l = made l.t (pairs l.rest) ≡ made 0 (pairs l.fn.lanes)

abbrev pub decreases-loop-high : goal.decreases-loop-high
decreases-loop-high l = length l.rest
