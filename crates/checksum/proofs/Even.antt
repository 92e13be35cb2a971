-- The checksum asked for by itself is told of runs of even length and of no others. Assumes nothing.
use mathlib.Core.Path.{◌≡◌, refl}
use mathlib.Core.Logic.{◌≢◌}
use mathlib.Core.List.{List, [], ◌∷◌}
use Prim.Native.Nat.{ℕ, ◌%◌}
use borrow.Author.Tests.{eq-eqb, ne_eqb}
use lib.ListN.{length, replicate}
use Rattle.checksum.specs.Checksum.{rotated, wrapped, taken, word, words, sums, checksum}
use Rattle.checksum.specs.Asked.{sum_numbers}

pub sum_even : (bytes : List ℕ) → length bytes % 2 ≡ 0 → sum_numbers bytes ≡ 1 ∷ 0 ∷ checksum bytes ∷ []
unfolding sum_numbers
sum_even bytes e = rw (eq-eqb (length bytes % 2) 0 e)

pub sum_odd : (bytes : List ℕ) → length bytes % 2 ≢ 0 → sum_numbers bytes ≡ 0 ∷ 6 ∷ 0 ∷ []
unfolding sum_numbers
sum_odd bytes e = rw (ne_eqb (length bytes % 2) 0 e)

pub figures : (sum_numbers [] ≡ 1 ∷ 0 ∷ 0xFFFF ∷ []) × (sum_numbers (0x12 ∷ 0x34 ∷ []) ≡ 1 ∷ 0 ∷ 0x1234 ∷ [])
    × (sum_numbers (0x12 ∷ []) ≡ 0 ∷ 6 ∷ 0 ∷ []) × (sum_numbers (replicate 511 0x00) ≡ 0 ∷ 6 ∷ 0 ∷ [])
unfolding sum_numbers checksum sums words word taken rotated wrapped
figures = (refl, refl, refl, refl)
