-- `checksum::machine::by_words` meets its contract. The invariant: what is left, from the register now, gives what all gives from the first.
-- Assumes nothing.
use mathlib.Core.Path.{◌≡◌}
use lib.ListN.{length}
use Rattle.checksum.specs.Machine.{register_of, advance}
use Rattle.checksum.proofs.machine.by_words.Given as goal

abbrev pub invariant-loop-high : goal.invariant-loop-high
invariant-loop-high l = advance 0 (register_of l.value l.waiting) l.rest ≡ advance 0 (register_of l.sum l.before) l.bytes

abbrev pub decreases-loop-high : goal.decreases-loop-high
decreases-loop-high l = length l.rest
