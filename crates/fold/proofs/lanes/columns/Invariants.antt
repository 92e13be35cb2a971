-- `fold::lanes::columns` meets its contract. The invariant: the lanes of the first k blocks are there, and zeros behind them.
-- Assumes nothing.
use mathlib.Core.Path.{◌≡◌}
use mathlib.Core.List.{[], ◌∷◌}
use Prim.Native.Nat.{ℕ, ◌≤◌, ◌<◌}
use lib.ListN.{length, get_or}
use Rattle.fold.specs.Columns.{Come}
use Rattle.fold.proofs.lanes.columns.Given as goal

abbrev pub invariant-loop-k : goal.invariant-loop-k
invariant-loop-k l =
    (length l.out ≡ 16) × Come 0 l.stride l.b l.out l.k × ((j : ℕ) → l.k ≤ j → j < 16 → get_or l.out j [] ≡ 0 ∷ 0 ∷ 0 ∷ 0 ∷ [])
