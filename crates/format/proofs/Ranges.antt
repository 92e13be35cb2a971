-- The bytes of a block by position, in any format: each range with its ends, and what follows for the data still to come at a position
-- and for a tag byte's place. Assumes nothing.
use mathlib.Core.Path.{◌≡◌, refl, sym}
use Prim.Native.Nat.{ℕ, ◌+◌, ◌-◌, ◌*◌, ◌≤◌, ◌<◌, min}
use native.Mathlib.Decide.{dec_lt}
use native.Mathlib.Omega.{arith}
use borrow.Author.Tests.{lt-ltb, le-ltb}
use Rattle.format.specs.declared.Part.{Part}
use Rattle.format.specs.declared.Part.TheVariants.{Data, Guard, Application, Reference, Past}
use Rattle.format.specs.Formats.{Format}
use Rattle.format.specs.Methods.{format_of}
use Rattle.format.specs.Positions.{part_at}

module _ (F : Format) where
  -- what a part says of the data still to come, and of a tag byte's place
  abbrev pub room_of : Part → ℕ
  room_of (Data at) = F.data_length - at
  room_of (Guard at) = 0
  room_of (Application at) = 0
  room_of (Reference at) = 0
  room_of Past = 0

  abbrev pub tag_place_of : Part → ℕ
  tag_place_of (Data at) = 0
  tag_place_of (Guard at) = at
  tag_place_of (Application at) = F.quarter + at
  tag_place_of (Reference at) = 2 * F.quarter + at
  tag_place_of Past = F.tag_length

-- the place within the data
abbrev data_place_of : Part → ℕ
data_place_of (Data at) = at
data_place_of (Guard at) = 0
data_place_of (Application at) = 0
data_place_of (Reference at) = 0
data_place_of Past = 0

-- the place within the part
abbrev place_of : Part → ℕ
place_of (Data at) = at
place_of (Guard at) = at
place_of (Application at) = at
place_of (Reference at) = at
place_of Past = 0

module _ (F : Format) (p : ℕ) where
  data_range : p < F.data_length → part_at F p ≡ Data p
  unfolding part_at
  data_range h = rw (lt-ltb p F.data_length h)

  guard_range : F.data_length ≤ p → p < F.data_length + F.quarter → part_at F p ≡ Guard (p - F.data_length)
  unfolding part_at
  guard_range l h = rw (le-ltb p F.data_length l, lt-ltb p (F.data_length + F.quarter) h)

  application_range : F.data_length + F.quarter ≤ p → p < F.data_length + 2 * F.quarter
      → part_at F p ≡ Application (p - (F.data_length + F.quarter))
  unfolding part_at
  application_range l h =
      let a : F.data_length ≤ p = omega arith in
      rw (le-ltb p F.data_length a, le-ltb p (F.data_length + F.quarter) l, lt-ltb p (F.data_length + 2 * F.quarter) h)

  reference_range : F.data_length + 2 * F.quarter ≤ p → p < F.block_length → part_at F p ≡ Reference (p - (F.data_length + 2 * F.quarter))
  unfolding part_at
  reference_range l h =
      let a : F.data_length ≤ p = omega arith in
      let b : F.data_length + F.quarter ≤ p = omega arith in
      rw (
        le-ltb p F.data_length a,
        le-ltb p (F.data_length + F.quarter) b,
        le-ltb p (F.data_length + 2 * F.quarter) l,
        lt-ltb p F.block_length h,
      )

  past_range : F.block_length ≤ p → part_at F p ≡ Past
  unfolding part_at
  past_range l =
      let a : F.data_length ≤ p = omega arith in
      let b : F.data_length + F.quarter ≤ p = omega arith in
      let c : F.data_length + 2 * F.quarter ≤ p = omega arith in
      rw (
        le-ltb p F.data_length a,
        le-ltb p (F.data_length + F.quarter) b,
        le-ltb p (F.data_length + 2 * F.quarter) c,
        le-ltb p F.block_length l,
      )

  -- what holds of each range holds of the position
  by_range : (P : Part → Type 0) → (p < F.data_length → P (Data p))
      → (F.data_length ≤ p → p < F.data_length + F.quarter → P (Guard (p - F.data_length)))
      → (F.data_length + F.quarter ≤ p → p < F.data_length + 2 * F.quarter → P (Application (p - (F.data_length + F.quarter))))
      → (F.data_length + 2 * F.quarter ≤ p → p < F.block_length → P (Reference (p - (F.data_length + 2 * F.quarter))))
      → (F.block_length ≤ p → P Past) → P (part_at F p)
  by_range P in-data in-guard in-application in-reference past =
      go (dec_lt p F.data_length) (dec_lt p (F.data_length + F.quarter)) (dec_lt p (F.data_length + 2 * F.quarter)) (dec_lt p F.block_length)
    where
      go : Dec (p < F.data_length) → Dec (p < F.data_length + F.quarter) → Dec (p < F.data_length + 2 * F.quarter) → Dec (p < F.block_length)
          → P (part_at F p)
      go (yes a) b d e = rw (data_range a) (in-data a)
      go (no a) (yes b) d e = rw (guard_range (omega arith) b) (in-guard (omega arith) b)
      go (no a) (no b) (yes d) e = rw (application_range (omega arith) d) (in-application (omega arith) d)
      go (no a) (no b) (no d) (yes e) = rw (reference_range (omega arith) e) (in-reference (omega arith) e)
      go (no a) (no b) (no d) (no e) = rw (past_range (omega arith)) (past (omega arith))

  pub room_of_lem : room_of F (part_at F p) ≡ F.data_length - p
  room_of_lem =
      by_range (λ x. room_of F x ≡ F.data_length - p) (λ h. refl) (λ l h. omega arith) (λ l h. omega arith) (λ l h. omega arith) (λ l. omega arith)

  pub tag-place_of : tag_place_of F (part_at F p) ≡ min (p - F.data_length) F.tag_length
  tag-place_of =
      by_range (λ x. tag_place_of F x ≡ min (p - F.data_length) F.tag_length) (λ h. omega arith) (λ l h. omega arith) (λ l h. omega arith)
      (λ l h. omega arith) (λ l. omega arith)

  pub place_small : (x : Part) → x ≡ part_at F p → place_of x ≤ F.data_length + F.tag_length
  place_small x e =
      rw e
      (by_range (λ x. place_of x ≤ F.data_length + F.tag_length) (λ h. omega arith) (λ l h. omega arith) (λ l h. omega arith) (λ l h. omega arith) (λ l. omega arith))

  -- the place of a data byte is among the data
  pub data_place : (at : ℕ) → Data at ≡ part_at F p → at ≤ F.data_length
  data_place at e =
      let among : data_place_of (part_at F p) ≤ F.data_length = by_range (λ x. data_place_of x ≤ F.data_length) (λ h. omega arith) (λ l h. omega arith) (λ l h. omega arith) (λ l h. omega arith) (λ l. omega arith) in
      rw (sym e) at among

-- the first and the last position of each range, in the format of method 1
pub ends : (part_at (format_of 1) 0 ≡ Data 0) × (part_at (format_of 1) 511 ≡ Data 511) × (part_at (format_of 1) 512 ≡ Guard 0)
    × (part_at (format_of 1) 513 ≡ Guard 1) × (part_at (format_of 1) 514 ≡ Application 0) × (part_at (format_of 1) 515 ≡ Application 1)
    × (part_at (format_of 1) 516 ≡ Reference 0) × (part_at (format_of 1) 519 ≡ Reference 3) × (part_at (format_of 1) 520 ≡ Past)
unfolding part_at format_of
ends = (refl, refl, refl, refl, refl, refl, refl, refl, refl)
