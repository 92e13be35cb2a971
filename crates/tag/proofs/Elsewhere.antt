-- A block that is good at one place, looked at where it does not belong: at another place of the array its guard fits and its reference tag
-- tells, unless it is the same there, with the application tag where a parity and a block of data are exchanged; in an array of another
-- volume the application tag alone.
-- Assumes nothing.
use mathlib.Core.Path.{◌≡◌, refl, sym, ap, ◌∙◌}
use mathlib.Core.Bool.{Bool, true, false, cond, ◌&&◌}
use mathlib.Core.List.{List}
use mathlib.Core.Logic.{◌≢◌, ◌↔◌}
use Prim.Native.Nat.{ℕ, ◌+◌, ◌*◌, ◌<◌}
use native.Mathlib.Nat.{eq_of_mul-eq-mul_right, zero-add}
use native.Mathlib.Omega.{arith}
use borrow.Author.Tests.{eq-eqb, ne_eqb}
use lib.Dec.{eqb}
use Rattle.format.specs.Formats.{guard, reference_of}
use Rattle.format.proofs.Sizes.{scale-some}
use Rattle.layout.specs.Arrays.{array_of}
use Rattle.layout.specs.Places.{is_parity}
use Rattle.layout.specs.declared.Array.{Array}
use Rattle.layout.proofs.Volumes.{parity_any_volume, named_any_volume}
use Rattle.tag.specs.Blocks.{format_at, data_of}
use Rattle.tag.specs.Tags.{application_due, reference_due, carried, guard_due, due, faults, exempt, standing, found_in, standing_at, good}
use Rattle.tag.specs.declared.Fields.{Fields}
use Rattle.tag.proofs.Fits.{faults_by, application_alone}
use Rattle.tag.proofs.Guards.{guard-carried}
use Rattle.tag.proofs.Cases.{standing-faults, good-fields, good-guard, good-due, good_checked}
use Rattle.tag.proofs.OnePlace.{marks, good-kind}

module _ (a : Array) (s m t k : ℕ) (block : List ℕ) (h : good a s m block ≡ true) where
  -- the guard that stands in it, that of its data, and the one due there
  abbrev stored : ℕ
  stored = (found_in a block).guard

  abbrev data_guard : ℕ
  data_guard = guard (format_at a) (data_of (format_at a) block)

  abbrev due_there : ℕ
  due_there = guard_due a t k stored data_guard

  -- how it stands there, by what is due here and there
  stands-there : standing_at a t k block ≡ faults (due a s m stored) (due a t k due_there)
  unfolding standing_at
  stands-there =
      ap (λ (f : Fields). standing (format_at a) f (due a t k due_there)) (good-due a s m block h)
      ∙ standing-faults (format_at a) (due a s m stored) (due a t k due_there) (ap (exempt (format_at a)) (sym (good-due a s m block h) ∙ good-fields a s m block h) ∙ good_checked a s m block h)

  -- its guard fits there, if it is that of its data, or if one is carried there
  fits-own : carried a s m ≡ false → stored ≡ due_there
  unfolding guard_due
  fits-own own = by_case (carried a t k)
    where
      by_case : (c : Bool) → stored ≡ cond c stored data_guard
      by_case true = refl
      by_case false = good-guard a s m block own h

  fits-carried : carried a t k ≡ true → stored ≡ due_there
  fits-carried c = sym (guard-carried a t k stored data_guard c)

  alike : is_parity a s m ≡ is_parity a t k → stored ≡ due_there
  alike kind = by_case (carried a s m) refl
    where
      by_case : (c : Bool) → carried a s m ≡ c → stored ≡ due_there
      by_case true e = fits-carried (ap (λ (x : Bool). (format_at a).carries && x) (sym kind) ∙ e)
      by_case false e = fits-own e

  -- at another place of its kind: the reference tag alone, or nothing
  pub other_place : is_parity a s m ≡ is_parity a t k → standing_at a t k block ≡ cond (eqb (reference_due a s m) (reference_due a t k)) 0 1
  unfolding due application_due
  other_place kind =
      let mark = ap (λ (x : Bool). (cond x 0x8000 0 + a.volume) * (format_at a).scale) kind in
      stands-there
      ∙ faults_by (due a s m stored) (due a t k due_there) true true (eqb (reference_due a s m) (reference_due a t k))
      (eq-eqb stored due_there (alike kind)) (eq-eqb (application_due a s m) (application_due a t k) mark) refl
      ∙ zero-add (cond (eqb (reference_due a s m) (reference_due a t k)) 0 1)

  -- so it is good exactly at the places of its kind with its reference tag
  pub good_where : (good a t k block ≡ true) ↔ ((is_parity a s m ≡ is_parity a t k) × (reference_due a s m ≡ reference_due a t k))
  good_where = (
    good-kind a s m t k block h,
    λ same. eq-eqb (standing_at a t k block) 0 (other_place same.0 ∙ rw (eq-eqb (reference_due a s m) (reference_due a t k) same.1)),
  )

  -- a parity where data belong, or data where the parity does: the application tag, and the reference tag unless it is the same; and the
  -- guard, where a carried one is not by chance that of the parity's own data
  pub other_kind : is_parity a s m ≢ is_parity a t k
      → standing_at a t k block ≡ cond (eqb stored due_there) 0 4 + 2 + cond (eqb (reference_due a s m) (reference_due a t k)) 0 1
  unfolding due application_due
  other_kind differ =
      stands-there
      ∙ faults_by (due a s m stored) (due a t k due_there) (eqb stored due_there) false (eqb (reference_due a s m) (reference_due a t k)) refl
      (ne_eqb (application_due a s m) (application_due a t k) (λ e. differ (marks (is_parity a s m) (is_parity a t k) a.volume (format_at a).scale (scale-some (format_at a)) e)))
      refl

  -- a guard that is not carried fits everywhere
  pub other_kind-own : carried a s m ≡ false → is_parity a s m ≢ is_parity a t k → standing_at a t k block ≡ 2 + cond (eqb (reference_due a s m) (reference_due a t k)) 0 1
  other_kind-own own differ =
      other_kind differ ∙ ap (λ (x : Bool). cond x 0 4 + 2 + cond (eqb (reference_due a s m) (reference_due a t k)) 0 1) (eq-eqb stored due_there (fits-own own))

-- at its own place in an array of another volume: the application tag alone
pub other_volume : (members stripes v w method row s m : ℕ) (block : List ℕ) → v ≢ w → good (array_of members stripes v method row) s m block ≡ true → standing_at (array_of members stripes w method row) s m block ≡ 2
unfolding standing_at due application_due reference_due guard_due
other_volume members stripes v w method row s m block other h =
    let a = array_of members stripes v method row in
    let b = array_of members stripes w method row in
    let stored = (found_in a block).guard in
    let own = guard (format_at a) (data_of (format_at a) block) in
    let g = guard_due b s m stored own in
    let same : guard_due a s m stored own ≡ g =
    ap (λ (x : Bool). cond ((format_at a).carries && x) stored own) (parity_any_volume members stripes v w method row s m) in
    ap (λ (f : Fields). standing (format_at a) f (due b s m g)) (good-fields a s m block h ∙ ap (due a s m) same)
    ∙ standing-faults (format_at a) (due a s m g) (due b s m g) (ap (λ (x : ℕ). exempt (format_at a) (due a s m x)) (sym same) ∙ good_checked a s m block h)
    ∙ application_alone (due a s m g) (due b s m g) refl
    (λ e. other (volumes (is_parity a s m) v w (format_at a).scale (scale-some (format_at a)) (e ∙ ap (λ (x : Bool). (cond x 0x8000 0 + w) * (format_at a).scale) (sym (parity_any_volume members stripes v w method row s m)))))
    (ap (reference_of (format_at a)) (named_any_volume members stripes v w method row s m))
  where
    volumes : (x : Bool) (v w scale : ℕ) → 0 < scale → (cond x 0x8000 0 + v) * scale ≡ (cond x 0x8000 0 + w) * scale → v ≡ w
    volumes true v w scale p e = omega (arith, eq_of_mul-eq-mul_right scale p (0x8000 + v) (0x8000 + w) e)
    volumes false v w scale p e = omega (arith, eq_of_mul-eq-mul_right scale p (0 + v) (0 + w) e)
