-- `intent::many` meets its contract. The invariant: the count so far is that of the entries passed.
-- Assumes nothing.
use mathlib.Core.Path.{◌≡◌}
use Prim.Native.Nat.{◌≤◌}
use lib.ListN.{take}
use Rattle.intent.specs.Records.{many}
use Rattle.intent.proofs.many.Given as goal

abbrev pub invariant-loop-i : goal.invariant-loop-i
invariant-loop-i l = (l.count ≤ l.i) × (l.count ≡ many l.number (take l.i l.entries))
