-- Laws of `count` and `lowest`: how many flags hold, and which is the first that does.
-- Assumes nothing.
use mathlib.Core.Path.{◌≡◌, refl, sym, ap, ◌∙◌}
use mathlib.Core.Bool.{Bool, true, false, not, cond}
use mathlib.Core.List.{List, [], ◌∷◌, ◌++◌, map}
use Rattle.std.specs.Prelude.{Option, Some, None}
use Rattle.std.specs.Option.{unwrap_or}
use Rattle.std.specs.List.{count_by, position, position_or_len}
use Rattle.std.proofs.lemmas.List.Sums.{prefix_len-le-length}
use borrow.Author.Tests.{ltb-true, ltb-false}
use lib.Dec.{ltb}
use Rattle.std.proofs.lemmas.List.Recursion.{is_count_by, is_position_or_len}
use Prim.Native.Nat.{ℕ, zero, suc, ◌+◌, ◌≤◌, ◌<◌, zero-le, suc-le-suc}
use native.Mathlib.Nat.{le_of_suc-le-suc, not-suc-le-zero, zero-lt-suc}
use native.Mathlib.Omega.{arith}
use lib.ListN.{length, get_or, drop, drop_of_length-le, length-map}
use lib.Seq.{drop-cons}
use Rattle.verdict.specs.Verdicts.{count, lowest}
use Rattle.verdict.specs.Flags.{NoFlag, First}

-- ---- the count

pub count_none : (flags : List Bool) → count flags ≡ 0 → NoFlag flags
count_none [] e i = refl
count_none (true ∷ flags) e i = absurd (omega arith)
count_none (false ∷ flags) e zero = refl
count_none (false ∷ flags) e (suc i) = count_none flags e i

pub none-count : (flags : List Bool) → NoFlag flags → count flags ≡ 0
none-count [] h = refl
none-count (true ∷ flags) h = let e : true ≡ false = h 0 in cc
none-count (false ∷ flags) h = none-count flags (λ i. h (suc i))

pub count_most : (flags : List Bool) → count flags ≤ length flags
count_most [] = zero-le
count_most (true ∷ flags) = suc-le-suc (count_most flags)
count_most (false ∷ flags) = omega (arith, count_most flags)

-- the count is the number of flags that hold: each adds 1 or nothing
pub count-cons : (flag : Bool) (flags : List Bool) → count (flag ∷ flags) ≡ cond flag 1 0 + count flags
count-cons true flags = omega arith
count-cons false flags = omega arith

pub count-append : (flags more : List Bool) → count (flags ++ more) ≡ count flags + count more
count-append [] more = omega arith
count-append (true ∷ flags) more = omega (arith, count-append flags more)
count-append (false ∷ flags) more = count-append flags more

flag-count : (flag : Bool) (flags : List Bool) → count (flag ∷ flags) ≡ cond flag (1 + count flags) (count flags)
flag-count true flags = omega arith
flag-count false flags = refl

-- as std counts
pub count-map : {X : Type 0} (p : X → Bool) (l : List X) → count (map p l) ≡ count_by p l
count-map p l = is_count_by (λ xs. count (map p xs)) p refl (λ x xs. flag-count (p x) (map p xs)) l

-- ---- the lowest

flag-lowest : (flag : Bool) (flags : List Bool) → lowest (flag ∷ flags) ≡ cond flag 0 (1 + lowest flags)
flag-lowest true flags = refl
flag-lowest false flags = omega arith

-- as std finds a place
pub lowest-map : {X : Type 0} (p : X → Bool) (l : List X) → lowest (map p l) ≡ position_or_len p l
lowest-map p l = is_position_or_len (λ xs. lowest (map p xs)) p refl (λ x xs. flag-lowest (p x) (map p xs)) l

first-later : (flags : List Bool) (at : ℕ) → First flags at → First (false ∷ flags) (suc at)
first-later flags at h =
    record { inside = suc-le-suc h.inside; holds = h.holds; none_below = below }
  where
    below : (i : ℕ) → i < suc at → get_or (false ∷ flags) i false ≡ false
    below zero l = refl
    below (suc i) l = h.none_below i (le_of_suc-le-suc l)

pub lowest-first : (flags : List Bool) → 0 < count flags → First flags (lowest flags)
lowest-first [] h = absurd (not-suc-le-zero h)
lowest-first (true ∷ flags) h = record { inside = zero-lt-suc (length flags); holds = refl; none_below = λ i l. absurd (not-suc-le-zero l) }
lowest-first (false ∷ flags) h = first-later flags (lowest flags) (lowest-first flags h)

pub first-lowest : (flags : List Bool) (at : ℕ) → First flags at → at ≡ lowest flags
first-lowest [] at h = absurd (not-suc-le-zero h.inside)
first-lowest (true ∷ flags) zero h = refl
first-lowest (true ∷ flags) (suc at) h = let e : true ≡ false = h.none_below 0 (zero-lt-suc at) in cc
first-lowest (false ∷ flags) zero h = let e : false ≡ true = h.holds in cc
first-lowest (false ∷ flags) (suc at) h =
    ap suc (first-lowest flags at (record { inside = le_of_suc-le-suc h.inside; holds = h.holds; none_below = λ i l. h.none_below (suc i) (suc-le-suc l) }))

pub first_counted : (flags : List Bool) (at : ℕ) → First flags at → 0 < count flags
first_counted [] at h = absurd (not-suc-le-zero h.inside)
first_counted (true ∷ flags) at h = zero-lt-suc (count flags)
first_counted (false ∷ flags) zero h = let e : false ≡ true = h.holds in let z : ◌≡◌ {A = ℕ} 0 1 = cc in omega arith
first_counted (false ∷ flags) (suc at) h =
    first_counted flags at (record { inside = le_of_suc-le-suc h.inside; holds = h.holds; none_below = λ i l. h.none_below (suc i) (suc-le-suc l) })

-- where none holds it is the length
pub lowest-none : (flags : List Bool) → count flags ≡ 0 → lowest flags ≡ length flags
lowest-none [] e = refl
lowest-none (true ∷ flags) e = absurd (omega arith)
lowest-none (false ∷ flags) e = ap suc (lowest-none flags e)

pub lowest-inside : (flags : List Bool) → lowest flags < length flags → 0 < count flags
lowest-inside [] h = h
lowest-inside (true ∷ flags) h = zero-lt-suc (count flags)
lowest-inside (false ∷ flags) h = lowest-inside flags (le_of_suc-le-suc h)

pub lowest-past : (flags : List Bool) → length flags ≤ lowest flags → count flags ≡ 0
lowest-past [] h = refl
lowest-past (true ∷ flags) h = absurd (not-suc-le-zero h)
lowest-past (false ∷ flags) h = lowest-past flags (le_of_suc-le-suc h)

-- std's answer: the place of the first, if it is one of these
pub place_or-length : {X : Type 0} (p : X → Bool) (l : List X) (found : Option ℕ) → found ≡ position p l → unwrap_or found (length l) ≡ lowest (map p l)
place_or-length p l found e = ap (λ (f : Option ℕ). unwrap_or f (length l)) e ∙ by_test (ltb (position_or_len p l) (length l)) refl ∙ sym (lowest-map p l)
  where
    by_test : (t : Bool) → ltb (position_or_len p l) (length l) ≡ t → unwrap_or (cond t (Some (position_or_len p l)) None) (length l) ≡ position_or_len p l
    by_test true q = refl
    by_test false q = omega (arith, ltb-false (position_or_len p l) (length l) q, prefix_len-le-length (λ x. not (p x)) l)

pub place-none : {X : Type 0} (p : X → Bool) (l : List X) → None ≡ position p l → count (map p l) ≡ 0
place-none p l e = by_test (ltb (position_or_len p l) (length l)) refl e
  where
    by_test : (t : Bool) → ltb (position_or_len p l) (length l) ≡ t → None ≡ cond t (Some (position_or_len p l)) None → count (map p l) ≡ 0
    by_test true q e = cc
    by_test false q e = lowest-past (map p l) (omega (arith, ltb-false (position_or_len p l) (length l) q, lowest-map p l, length-map l p))

pub place-some : {X : Type 0} (p : X → Bool) (l : List X) (i : ℕ) → Some i ≡ position p l → (i < length l) × (i ≡ lowest (map p l))
place-some p l i e = by_test (ltb (position_or_len p l) (length l)) refl e
  where
    by_test : (t : Bool) → ltb (position_or_len p l) (length l) ≡ t → Some i ≡ cond t (Some (position_or_len p l)) None → (i < length l) × (i ≡ lowest (map p l))
    by_test true q e = let same : i ≡ position_or_len p l = cc in (omega (arith, same, ltb-true (position_or_len p l) (length l) q), same ∙ sym (lowest-map p l))
    by_test false q e = cc

-- ---- the loop up the flags to the first that holds

pub lowest_miss : (flags : List Bool) (i : ℕ) → i < length flags → get_or flags i false ≡ false → i + 1 + lowest (drop (i + 1) flags) ≡ i + lowest (drop i flags)
lowest_miss flags i h e =
    let next : i + 1 ≡ suc i = omega arith in
    rw (next, drop-cons flags i false, e) (omega arith)

pub lowest_hit : (flags : List Bool) (i : ℕ) → i < length flags → get_or flags i false ≡ true → i ≡ i + lowest (drop i flags)
lowest_hit flags i h e = rw (drop-cons flags i false, e) (omega arith)

pub lowest_end : (flags : List Bool) (i : ℕ) → length flags ≤ i → i ≡ i + lowest (drop i flags)
lowest_end flags i h = rw (drop_of_length-le flags h) (omega arith)
