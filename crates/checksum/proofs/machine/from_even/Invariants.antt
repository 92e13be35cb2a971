-- `checksum::machine::from_even` meets its contract. The invariant of both loops: what is left, from the register now, gives what all gives from
-- the first. Assumes nothing.
use mathlib.Core.Path.{◌≡◌}
use mathlib.Core.List.{List}
use Prim.Native.Nat.{ℕ}
use lib.ListN.{length}
use Rattle.checksum.specs.Machine.{register_of, advance}
use Rattle.checksum.proofs.machine.from_even.Given as goal

abbrev pub Left : ℕ → ℕ → List ℕ → ℕ → ℕ → List ℕ → Type 0
Left sum before bytes value waiting rest = advance 0 (register_of value waiting) rest ≡ advance 0 (register_of sum before) bytes

abbrev pub invariant-loop-first : goal.invariant-loop-first
invariant-loop-first l = Left l.sum l.before l.bytes l.value l.waiting l.rest

abbrev pub decreases-loop-first : goal.decreases-loop-first
decreases-loop-first l = length l.rest

abbrev pub invariant-loop-first-2 : goal.invariant-loop-first-2
invariant-loop-first-2 l = Left l.sum l.before l.bytes l.value l.waiting l.rest

abbrev pub decreases-loop-first-2 : goal.decreases-loop-first-2
decreases-loop-first-2 l = length l.rest
