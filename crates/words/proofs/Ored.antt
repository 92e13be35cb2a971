-- A word turned by `or`: no two of its bytes meet, so that `or` does as well as exclusive-or.
-- Assumes nothing.
use mathlib.Core.Path.{◌≡◌, refl, sym, ap, ◌∙◌}
use mathlib.Core.List.{List, [], ◌∷◌}
use Prim.Native.Nat.{ℕ, ◌+◌, ◌*◌, ◌/◌, ◌%◌, ◌^◌, ◌≤◌, ◌<◌}
use native.Mathlib.Nat.{mod-lt, lt_of_lt_of_le, le-add_left}
use native.Mathlib.Omega.{arith}
use lib.ListN.{length}
use lib.Dec.{lit<, lit≤}
use lib.Pow.{pow_mono, shl_lt, shl_exact, shr_lt}
use lib.Bits.{bit_or, bit_xor, xor_comm, xor_lt, or_shifted_r, xor_shifted}
use Rattle.words.specs.Words.{act}
use Rattle.words.specs.Steps.{turning}

-- a byte put above what is there
record Higher (k a y : ℕ) : Type 0 where
  same : bit_or a (y * 2 ^ k % 2 ^ 64) ≡ bit_xor a (y * 2 ^ k % 2 ^ 64)
  below : bit_xor a (y * 2 ^ k % 2 ^ 64) < 2 ^ (8 + k)

higher : (k a y : ℕ) → a < 2 ^ k → y < 256 → 8 + k ≤ 64 → Higher k a y
higher k a y h g l =
    let e : y * 2 ^ k % 2 ^ 64 ≡ y * 2 ^ k = shl_exact {a = y} 8 k 64 g l in
    record {
      same = ap (bit_or a) e ∙ or_shifted_r y k a h ∙ sym (ap (bit_xor a) e ∙ xor_comm a (y * 2 ^ k) ∙ xor_shifted y k a h);
      below = xor_lt (8 + k) a (y * 2 ^ k % 2 ^ 64) (lt_of_lt_of_le h (pow_mono (le-add_left k 8))) (rw e (shl_lt {a = y} 8 k g));
    }

-- a with the low bytes of some numbers put above it, 8 bits apart from the place k on
abbrev stacked : (ℕ → ℕ → ℕ) → ℕ → List ℕ → ℕ → ℕ
stacked add k [] a = a
stacked add k (d ∷ ds) a = stacked add (8 + k) ds (add a (d % 2 ^ 8 * 2 ^ k % 2 ^ 64))

or-xor : (ds : List ℕ) (k a : ℕ) → a < 2 ^ k → k + 8 * length ds ≤ 64 → stacked bit_or k ds a ≡ stacked bit_xor k ds a
or-xor [] k a h l = refl
or-xor (d ∷ ds) k a h l =
    let next = higher k a (d % 2 ^ 8) h (mod-lt d (lit< tt)) (omega arith) in
    ap (stacked bit_or (8 + k) ds) next.same ∙ or-xor ds (8 + k) (bit_xor a (d % 2 ^ 8 * 2 ^ k % 2 ^ 64)) next.below (omega arith)

pub turn-or : (v : ℕ) → v < 2 ^ 64 → stacked bit_or 8 (v / 2 ^ 48 ∷ v / 2 ^ 40 ∷ v / 2 ^ 32 ∷ v / 2 ^ 24 ∷ v / 2 ^ 16 ∷ v / 2 ^ 8 ∷ v ∷ []) (v / 2 ^ 56) ≡ act turning v
turn-or v h = or-xor (v / 2 ^ 48 ∷ v / 2 ^ 40 ∷ v / 2 ^ 32 ∷ v / 2 ^ 24 ∷ v / 2 ^ 16 ∷ v / 2 ^ 8 ∷ v ∷ []) 8 (v / 2 ^ 56) (shr_lt {n = v} 8 56 h) (lit≤ tt)
