-- `castagnoli_rows::below::take_below` meets its contract. The invariant: the bytes taken away so far.
-- Assumes nothing.
use mathlib.Core.Path.{◌≡◌}
use mathlib.Core.List.{List}
use Prim.Native.Nat.{ℕ, ◌+◌, ◌*◌}
use lib.ListN.{length}
use Rattle.castagnoli_rows.specs.Folds.{Ready, Taken}
use Rattle.castagnoli_rows.proofs.below.take_below.Given as goal

abbrev pub invariant-loop-k : goal.invariant-loop-k
invariant-loop-k g l =
    (length l.w ≡ g.row.N + g.row.M + g.row.N)
    × ((head : List ℕ) → Ready g.row.N g.row.M head l.initial.w → Taken g.P.PlacesBelow.places g.row.N g.row.M head l.b l.w (g.row.C * l.k))
