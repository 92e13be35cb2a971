-- `crc::step` meets its contract. The invariant: the bits still to come, from the register now, give what all eight give from the first.
-- Assumes nothing.
use mathlib.Core.Path.{◌≡◌}
use mathlib.Core.List.{[], ◌∷◌}
use Rattle.crc.specs.Crc.{feed, bits}
use Rattle.crc.specs.Guard.{generator, run}
use Rattle.crc.proofs.step.Given as goal

abbrev pub invariant-loop-i : goal.invariant-loop-i
invariant-loop-i l = feed 16 generator l.after (bits l.i l.byte) ≡ run l.register (l.byte ∷ [])
