-- How a block stands at a place: good, bad or unchecked, exactly one of them. A good block is one whose tag is due there and is not the
-- mark of a block that is not to be checked; no tag that is due is that mark. Assumes nothing.
use mathlib.Core.Path.{◌≡◌, refl, sym, ap, ◌∙◌}
use mathlib.Core.Bool.{Bool, true, false, cond, ◌&&◌}
use mathlib.Core.List.{List}
use mathlib.Core.Logic.{◌≢◌, ◌↔◌}
use Prim.Native.Nat.{ℕ, ◌+◌, ◌*◌, ◌/◌, ◌≤◌, ◌<◌}
use native.Mathlib.Decide.{ℕ_discrete}
use native.Mathlib.Nat.{mul-div_cancel}
use native.Mathlib.Omega.{arith}
use borrow.Author.Tests.{eqb-true, eq-eqb, ne_eqb, le-leb, leb-true}
use lib.Dec.{eqb, leb}
use Rattle.format.specs.Formats.{Format, guard}
use Rattle.format.proofs.Sizes.{scale-some}
use Rattle.layout.specs.Places.{is_parity}
use Rattle.layout.specs.declared.Array.{Array}
use Rattle.tag.specs.Blocks.{format_at, data_of, tag_of}
use Rattle.tag.specs.Tags.{carried, found, due, application_due, faults, exempt, standing, found_in, expected_at, standing_at, is_bad, good, bad, unchecked, kind_of}
use Rattle.tag.specs.declared.Fields.{Fields}
use Rattle.tag.proofs.Fits.{fields_eq, faults-few, faults-none, none-faults}
use Rattle.tag.proofs.Guards.{guard-own}

-- ---- by the fields found and due

module _ (F : Format) (f e : Fields) where
  pub standing-exempt : exempt F f ≡ true → standing F f e ≡ 8
  unfolding standing
  standing-exempt h = rw h

  pub standing-faults : exempt F f ≡ false → standing F f e ≡ faults f e
  unfolding standing
  standing-faults h = rw h

  -- good exactly where the tag is the one due and no mark
  pub standing-good : standing F f e ≡ 0 → (exempt F f ≡ false) × (f ≡ e)
  unfolding standing
  standing-good = by_mark (exempt F f) refl
    where
      by_mark : (x : Bool) → exempt F f ≡ x → ◌≡◌ {A = ℕ} (cond x 8 (faults f e)) 0 → (exempt F f ≡ false) × (f ≡ e)
      by_mark true p h = absurd (omega arith)
      by_mark false p h = (p, faults-none f e h)

  pub good-standing : exempt F f ≡ false → f ≡ e → standing F f e ≡ 0
  good-standing h same = standing-faults h ∙ none-faults f e same

  pub standing-unchecked : standing F f e ≡ 8 → exempt F f ≡ true
  unfolding standing
  standing-unchecked = by_mark (exempt F f) refl
    where
      by_mark : (x : Bool) → exempt F f ≡ x → ◌≡◌ {A = ℕ} (cond x 8 (faults f e)) 8 → exempt F f ≡ true
      by_mark true p h = p
      by_mark false p h = absurd (omega (arith, faults-few f e))

  -- there is no fourth way
  pub standing-few : standing F f e ≤ 8
  unfolding standing
  standing-few = by_mark (exempt F f)
    where
      by_mark : (x : Bool) → cond x 8 (faults f e) ≤ 8
      by_mark true = omega arith
      by_mark false = omega (arith, faults-few f e)

-- which of the three a number is, and its kind
pub bad_between : (how : ℕ) → how ≢ 0 → how ≢ 8 → how ≤ 8 → is_bad how ≡ true
bad_between how z e few = rw (le-leb 1 how (omega arith), le-leb how 7 (omega arith))

pub bad_range : (how : ℕ) → is_bad how ≡ true → (1 ≤ how) × (how ≤ 7)
bad_range how h = let b = both (leb 1 how) (leb how 7) h in (leb-true 1 how b.0, leb-true how 7 b.1)
  where
    both : (s t : Bool) → (s && t) ≡ true → (s ≡ true) × (t ≡ true)
    both true t b = (refl, b)
    both false t b = (b, (cc))

-- fields that are told are good or bad
pub kind_of_faults : (f e : Fields) → kind_of (faults f e) ≡ cond (eqb (faults f e) 0) 0 1
kind_of_faults f e = rw (ne_eqb (faults f e) 8 (λ h. omega (arith, faults-few f e)))

-- ---- of a block at a place

-- one of three flags holds, and no other
pub data OneOf : Bool → Bool → Bool → Type 0 where
  first : OneOf true false false
  second : OneOf false true false
  third : OneOf false false true

module _ (a : Array) (stripe member : ℕ) (block : List ℕ) where
  pub stands-few : standing_at a stripe member block ≤ 8
  unfolding standing_at
  stands-few = standing-few (format_at a) (found_in a block) (expected_at a stripe member block)

  -- neither bad nor unchecked is good
  pub good_else : (how : ℕ) → how ≡ standing_at a stripe member block → is_bad how ≡ false → how ≢ 8 → standing_at a stripe member block ≡ 0
  good_else how e b u = sym e ∙ by_dec (ℕ_discrete how 0)
    where
      by_dec : Dec (how ≡ 0) → how ≡ 0
      by_dec (yes z) = z
      by_dec (no z) = let t : true ≡ false = sym (bad_between how z u (omega (arith, e, stands-few))) ∙ b in let o : ◌≡◌ {A = ℕ} 0 1 = cc in absurd (omega arith)

  pub one-standing : OneOf (good a stripe member block) (bad a stripe member block) (unchecked a stripe member block)
  one-standing = by_dec (standing_at a stripe member block) stands-few (ℕ_discrete (standing_at a stripe member block) 0) (ℕ_discrete (standing_at a stripe member block) 8)
    where
      by_dec : (k : ℕ) → k ≤ 8 → Dec (k ≡ 0) → Dec (k ≡ 8) → OneOf (eqb k 0) (is_bad k) (eqb k 8)
      by_dec k h (yes z) e = rw z first
      by_dec k h (no z) (yes e) = rw e third
      by_dec k h (no z) (no e) = rw (ne_eqb k 0 z, bad_between k z e h, ne_eqb k 8 e) second

  pub good_otherwise : good a stripe member block ≡ true → (bad a stripe member block ≡ false) × (unchecked a stripe member block ≡ false)
  good_otherwise h = let k = eqb-true (standing_at a stripe member block) 0 h in (ap is_bad k, ap (λ (x : ℕ). eqb x 8) k)

  pub good-fields : good a stripe member block ≡ true → found_in a block ≡ expected_at a stripe member block
  unfolding standing_at
  good-fields h = (standing-good (format_at a) _ _ (eqb-true _ 0 h)).1

  -- and what is due to it is no mark
  pub good_checked : good a stripe member block ≡ true → exempt (format_at a) (expected_at a stripe member block) ≡ false
  unfolding standing_at
  good_checked h =
      let k = standing-good (format_at a) (found_in a block) (expected_at a stripe member block) (eqb-true _ 0 h) in
      ap (exempt (format_at a)) (sym k.1) ∙ k.0

  -- its guard is that of its data, unless it is carried
  pub good-guard : carried a stripe member ≡ false → good a stripe member block ≡ true → (found_in a block).guard ≡ guard (format_at a) (data_of (format_at a) block)
  unfolding due
  good-guard own h =
      ap (λ (f : Fields). f.guard) (good-fields h) ∙ guard-own a stripe member (found_in a block).guard (guard (format_at a) (data_of (format_at a) block)) own

  -- the other two fields are those due
  pub good-due : good a stripe member block ≡ true → found_in a block ≡ due a stripe member (found_in a block).guard
  unfolding due
  good-due h =
      let e = good-fields h in
      fields_eq (found_in a block) (due a stripe member (found_in a block).guard) refl (ap (λ (f : Fields). f.application) e) (ap (λ (f : Fields). f.reference) e)

  pub unchecked-exempt : (unchecked a stripe member block ≡ true) ↔ (exempt (format_at a) (found (format_at a) (tag_of (format_at a) block)) ≡ true)
  unfolding standing_at
  unchecked-exempt = (λ h. standing-unchecked (format_at a) _ _ (eqb-true _ 8 h), λ h. eq-eqb _ 8 (standing-exempt (format_at a) _ _ h))

-- ---- what is due is no mark: a volume is one byte

pub due_checked : (a : Array) (stripe member g : ℕ) → a.volume < 256 → exempt (format_at a) (due a stripe member g) ≡ false
unfolding exempt due application_due
due_checked a stripe member g volume =
    ne_eqb ((cond (is_parity a stripe member) 0x8000 0 + a.volume) * (format_at a).scale / (format_at a).scale) 0xFFFF
    (λ e. by_mark (is_parity a stripe member) (sym (mul-div_cancel (cond (is_parity a stripe member) 0x8000 0 + a.volume) (scale-some (format_at a))) ∙ e))
  where
    by_mark : (t : Bool) → cond t 0x8000 0 + a.volume ≢ 0xFFFF
    by_mark true h = omega arith
    by_mark false h = omega arith

pub fields-good : (a : Array) (stripe member : ℕ) (block : List ℕ) → a.volume < 256
    → found_in a block ≡ expected_at a stripe member block → good a stripe member block ≡ true
unfolding standing_at
fields-good a stripe member block volume h =
    eq-eqb _ 0 (good-standing (format_at a) _ _ (ap (exempt (format_at a)) h ∙ due_checked a stripe member _ volume) h)
