-- `fold::lanes::calls::many::guards` meets its contract. The invariant: the first k guards are known, the others are 0, and what is left begins
-- with the next run. Assumes nothing.
use mathlib.Core.Path.{◌≡◌}
use Prim.Native.Nat.{ℕ, ◌*◌, ◌≤◌, ◌<◌}
use lib.ListN.{length, get_or, drop}
use Rattle.fold.specs.Many.{Known}
use Rattle.fold.proofs.lanes.calls.many.guards.Given as goal

abbrev pub invariant-loop-k : goal.invariant-loop-k
invariant-loop-k l =
    (length l.out ≡ 16) × Known l.stride l.bytes l.out l.k × ((j : ℕ) → l.k ≤ j → j < 16 → get_or l.out j 0 ≡ 0) × (l.rest ≡ drop (l.k * l.stride) l.bytes)
