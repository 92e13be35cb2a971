-- A table's rule at each of its entries, from the table's own definition.
-- Assumes nothing.
use mathlib.Core.Path.{◌≡◌, ap, ◌∙◌}
use mathlib.Core.List.{[], ◌∷◌}
use Prim.Native.Nat.{ℕ, zero, suc, ◌+◌, ◌<◌}
use native.Mathlib.Nat.{zero-add, le_of_suc-le-suc, not-suc-le-zero}
use native.Mathlib.Omega.{arith}
use lib.ListN.{get_or}
use Rattle.crc.specs.Guard.{guard}
use Rattle.table.specs.Tables.{entries, lows, highs}

from : (f : ℕ → ℕ) (i n k : ℕ) → k < n → get_or (entries f i n) k 0 ≡ f (i + k)
from f i zero k h = absurd (not-suc-le-zero h)
from f i (suc n) zero h = let e : i ≡ i + 0 = omega arith in ap f e
from f i (suc n) (suc k) h = let e : suc i + k ≡ i + suc k = omega arith in from f (suc i) n k (le_of_suc-le-suc h) ∙ ap f e

pub entry : (f : ℕ → ℕ) (n k : ℕ) → k < n → get_or (entries f 0 n) k 0 ≡ f k
entry f n k h = from f 0 n k h ∙ ap f (zero-add k)

pub low_entry : (i : ℕ) → i < 256 → get_or lows i 0 ≡ guard (i ∷ [])
unfolding lows
low_entry i h = entry (λ (i : ℕ). guard (i ∷ [])) 256 i h

pub high_entry : (i : ℕ) → i < 256 → get_or highs i 0 ≡ guard (i ∷ 0 ∷ [])
unfolding highs
high_entry i h = entry (λ (i : ℕ). guard (i ∷ 0 ∷ [])) 256 i h
