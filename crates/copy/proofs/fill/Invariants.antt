-- `copy::fill` meets its contract. The invariant: what is left to write, over what is written, is the whole.
-- Assumes nothing.
use mathlib.Core.Path.{◌≡◌}
use Prim.Native.Nat.{◌+◌}
use lib.ListN.{length, drop}
use lib.Seq.{sets}
use Rattle.copy.proofs.fill.Given as goal

abbrev pub invariant-loop-i : goal.invariant-loop-i
invariant-loop-i l = (length l.dst ≡ length l.initial.dst) × (sets l.dst (l.at + l.i) (drop l.i l.src) ≡ sets l.initial.dst l.at l.src)
