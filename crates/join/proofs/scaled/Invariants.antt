-- `join::scaled` meets its contract. The invariant: the factors still to come, from the register and the digits now, give the
-- result. Assumes nothing.
use mathlib.Core.Path.{◌≡◌}
use lib.ListN.{drop}
use Rattle.crc.specs.Guard.{generator}
use Rattle.join.specs.Remainders.{scaled}
use Rattle.join.proofs.scaled.Given as goal

abbrev pub invariant-loop-factor : goal.invariant-loop-factor
invariant-loop-factor l = scaled 16 generator (drop l.factor-index l.table) l.after l.left ≡ scaled 16 generator l.table l.register l.n
