-- `castagnoli_rows::below::tail_below` meets its contract. The invariant: what is written so far.
-- Assumes nothing.
use mathlib.Core.Path.{◌≡◌}
use Prim.Native.Nat.{ℕ, ◌+◌, ◌<◌}
use lib.ListN.{length, get_or}
use Rattle.castagnoli_rows.specs.Folds.{mix}
use Rattle.castagnoli_rows.proofs.below.tail_below.Given as goal

abbrev pub invariant-loop-j : goal.invariant-loop-j
invariant-loop-j g l = (length l.t ≡ g.row.N) × ((k : ℕ) → k < l.j → get_or l.t k 0 ≡ mix g.P.PlacesBelow.places (get_or l.b (g.row.M + k) 0) l.w (g.row.M + k))
