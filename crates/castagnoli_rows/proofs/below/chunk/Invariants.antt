-- `castagnoli_rows::below::chunk` meets its contract. The invariants: what is mixed so far, and then what of it is written; the rest of the
-- buffer stays. Assumes nothing.
use mathlib.Core.Path.{◌≡◌}
use Prim.Native.Nat.{ℕ, ◌+◌, ◌<◌}
use lib.ListN.{length, get_or}
use Rattle.castagnoli_rows.specs.Folds.{mix}
use Rattle.castagnoli_rows.proofs.Puts.{Written}
use Rattle.castagnoli_rows.proofs.below.chunk.Given as goal

abbrev pub invariant-loop-j : goal.invariant-loop-j
invariant-loop-j g l = (length l.x ≡ g.row.C) × ((k : ℕ) → k < l.j → get_or l.x k 0 ≡ mix g.P.PlacesBelow.places (get_or l.b (l.i + k) 0) l.w (l.i + k))

abbrev pub invariant-loop-j-2 : goal.invariant-loop-j-2
invariant-loop-j-2 g l = Written (λ m. get_or l.x m 0) g.row.C (l.i + g.row.N) l.initial.w l.w l.j
