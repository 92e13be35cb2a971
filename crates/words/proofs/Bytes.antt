-- A word turned: no two of its bytes meet, so that a sum does as well as exclusive-or.
-- Assumes nothing.
use mathlib.Core.Path.{◌≡◌, refl, sym, ap, ◌∙◌}
use mathlib.Core.List.{List, [], ◌∷◌}
use Prim.Native.Nat.{ℕ, ◌+◌, ◌*◌, ◌/◌, ◌%◌, ◌^◌, ◌≤◌, ◌<◌}
use native.Mathlib.Nat.{mod-lt, mod-eq_of_lt, lt_of_lt_of_le, le-add_left, add_comm}
use native.Mathlib.Omega.{arith}
use lib.ListN.{length}
use lib.Dec.{lit<, lit≤}
use lib.Pow.{pow_mono, shl_lt, shl_exact, shr_lt}
use lib.Bits.{bit_xor, xor_comm, xor_lt, xor_shifted}
use Rattle.std.specs.Int.{swap_bytes, w64}
use Rattle.words.specs.Words.{act}
use Rattle.words.specs.Steps.{turning}

-- a byte put above what is there
record Higher (k a y : ℕ) : Type 0 where
  same : a + y * 2 ^ k ≡ bit_xor a (y * 2 ^ k % 2 ^ 64)
  below : a + y * 2 ^ k < 2 ^ (8 + k)

higher : (k a y : ℕ) → a < 2 ^ k → y < 256 → 8 + k ≤ 64 → Higher k a y
higher k a y h g l =
    let e : y * 2 ^ k % 2 ^ 64 ≡ y * 2 ^ k = shl_exact {a = y} 8 k 64 g l in
    let s : bit_xor a (y * 2 ^ k) ≡ a + y * 2 ^ k = xor_comm a (y * 2 ^ k) ∙ xor_shifted y k a h ∙ add_comm (y * 2 ^ k) a in
    record {
      same = sym (ap (bit_xor a) e ∙ s);
      below = rw (← s) (xor_lt (8 + k) a (y * 2 ^ k) (lt_of_lt_of_le h (pow_mono (le-add_left k 8))) (shl_lt {a = y} 8 k g));
    }

-- a with the low bytes of some numbers put above it, 8 bits apart from the place k on: as a sum, and by exclusive-or
abbrev summed : ℕ → List ℕ → ℕ → ℕ
summed k [] a = a
summed k (d ∷ ds) a = summed (8 + k) ds (a + d % 2 ^ 8 * 2 ^ k)

abbrev stacked : ℕ → List ℕ → ℕ → ℕ
stacked k [] a = a
stacked k (d ∷ ds) a = stacked (8 + k) ds (bit_xor a (d % 2 ^ 8 * 2 ^ k % 2 ^ 64))

summed-stacked : (ds : List ℕ) (k a : ℕ) → a < 2 ^ k → k + 8 * length ds ≤ 64 → summed k ds a ≡ stacked k ds a
summed-stacked [] k a h l = refl
summed-stacked (d ∷ ds) k a h l =
    let next = higher k a (d % 2 ^ 8) h (mod-lt d (lit< tt)) (omega arith) in
    summed-stacked ds (8 + k) (a + d % 2 ^ 8 * 2 ^ k) next.below (omega arith) ∙ ap (stacked (8 + k) ds) next.same

-- eight bytes summed from either end
other_way : (a b c d e f g h : ℕ)
    → a * 2 ^ 56 + b * 2 ^ 48 + c * 2 ^ 40 + d * 2 ^ 32 + e * 2 ^ 24 + f * 2 ^ 16 + g * 2 ^ 8 + h
    ≡ h + g * 2 ^ 8 + f * 2 ^ 16 + e * 2 ^ 24 + d * 2 ^ 32 + c * 2 ^ 40 + b * 2 ^ 48 + a * 2 ^ 56
other_way a b c d e f g h = omega arith

pub turns : (v : ℕ) → v < 2 ^ 64 → swap_bytes w64 v ≡ act turning v
turns v h =
    other_way (v % 256) (v / 2 ^ 8 % 256) (v / 2 ^ 16 % 256) (v / 2 ^ 24 % 256) (v / 2 ^ 32 % 256) (v / 2 ^ 40 % 256) (v / 2 ^ 48 % 256) (v / 2 ^ 56 % 256)
    ∙ ap (summed 8 (v / 2 ^ 48 ∷ v / 2 ^ 40 ∷ v / 2 ^ 32 ∷ v / 2 ^ 24 ∷ v / 2 ^ 16 ∷ v / 2 ^ 8 ∷ v ∷ [])) (mod-eq_of_lt (shr_lt {n = v} 8 56 h))
    ∙ summed-stacked (v / 2 ^ 48 ∷ v / 2 ^ 40 ∷ v / 2 ^ 32 ∷ v / 2 ^ 24 ∷ v / 2 ^ 16 ∷ v / 2 ^ 8 ∷ v ∷ []) 8 (v / 2 ^ 56) (shr_lt {n = v} 8 56 h) (lit≤ tt)
