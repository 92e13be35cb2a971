-- `nibbles::look` meets its contract. The invariant: what was found is what the first i times four bits give.
-- Assumes nothing.
use mathlib.Core.Path.{◌≡◌}
use Rattle.nibbles.specs.Nibbles.{looked}
use Rattle.nibbles.proofs.look.Given as goal

abbrev pub invariant-loop-i : goal.invariant-loop-i
invariant-loop-i l = l.found ≡ looked l.i l.tables l.v
