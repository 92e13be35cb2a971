-- What a check answers: when it is refused, and that it says good exactly of a good block, and unchecked exactly of an unchecked one.
-- Assumes nothing.
use mathlib.Core.Path.{◌≡◌, refl, sym, ap, ap₂, ◌∙◌}
use mathlib.Core.Bool.{Bool, true, false, cond, not}
use mathlib.Core.List.{List, ◌∷◌, map}
use mathlib.Core.Logic.{◌≢◌, ◌↔◌}
use Prim.Native.Nat.{ℕ, zero, suc, ◌-◌, ◌≤◌}
use native.Mathlib.Omega.{arith}
use borrow.Author.Tests.{eqb-true, eqb-false, eq-eqb, ne_eqb}
use lib.Dec.{eqb}
use lib.ListN.{length, get_or, take, drop, replicate, length-drop}
use lib.Seq.{take_all}
use Rattle.format.specs.Formats.{Format, guard}
use Rattle.layout.specs.Answers.{refuse, after}
use Rattle.layout.specs.Places.{owner_refusal}
use Rattle.layout.specs.declared.Array.{Array}
use Rattle.layout.proofs.Answers.{after_refused, answer_refused, refuse-none, refuse-last}
use Rattle.layout.proofs.Ranges.{owner_else}
use Rattle.tag.specs.Blocks.{format_at, data_of, tag_of}
use Rattle.tag.specs.Tags.{found, due_at, guard_due, expected, faults, exempt, standing, found_in, expected_at, standing_at, good, unchecked, kind_of, side_by_side, told, check_refusal, check_numbers}
use Rattle.tag.specs.declared.Fields.{Fields}
use Rattle.tag.proofs.Owed.{due_somewhere}
use Rattle.tag.proofs.Cases.{standing-exempt, standing-faults}

-- ---- what is told by the fields found and due

module _ (F : Format) (f e : Fields) where
  pub told-exempt : exempt F f ≡ true → told F f e ≡ 2 ∷ replicate 9 0
  unfolding told
  told-exempt h = rw (h, standing-exempt F f e h)

  pub told_checked : exempt F f ≡ false → told F f e ≡ kind_of (faults f e) ∷ side_by_side f e
  unfolding told
  told_checked h = rw (h, standing-faults F f e h)

  told_refused : map (λ (v : ℕ). zero) (told F f e) ≡ replicate 10 0
  unfolding told
  told_refused = by_test (exempt F f)
    where
      by_test : (x : Bool) → map (λ (v : ℕ). zero) (kind_of (standing F f e) ∷ cond x (replicate 9 0) (side_by_side f e)) ≡ replicate 10 0
      by_test true = refl
      by_test false = refl

kind-good : (how : ℕ) → kind_of how ≡ 0 → eqb how 0 ≡ true
kind-good how = by_tests (eqb how 0) (eqb how 8) refl
  where
    by_tests : (z e : Bool) → eqb how 0 ≡ z → ◌≡◌ {A = ℕ} (cond z 0 (cond e 2 1)) 0 → eqb how 0 ≡ true
    by_tests true e p h = p
    by_tests false true p h = absurd (omega arith)
    by_tests false false p h = absurd (omega arith)

kind-unchecked : (how : ℕ) → kind_of how ≡ 2 → eqb how 8 ≡ true
kind-unchecked how = by_tests (eqb how 0) (eqb how 8) refl
  where
    by_tests : (z e : Bool) → eqb how 8 ≡ e → ◌≡◌ {A = ℕ} (cond z 0 (cond e 2 1)) 2 → eqb how 8 ≡ true
    by_tests true e p h = absurd (omega arith)
    by_tests false true p h = p
    by_tests false false p h = absurd (omega arith)

module _ (a : Array) (stripe member : ℕ) where
  -- ---- refused

  pub check_sound : (n : ℕ) → check_refusal a stripe member n ≡ 0 → (owner_refusal a stripe member ≡ 0) × (n ≡ (format_at a).block_length)
  unfolding check_refusal
  check_sound n = by_earlier (owner_refusal a stripe member)
    where
      by_earlier : (k : ℕ) → after k (refuse (not (eqb n (format_at a).block_length)) 6 0) ≡ 0 → (k ≡ 0) × (n ≡ (format_at a).block_length)
      by_earlier zero e = (refl, eqb-true n (format_at a).block_length (refuse-none (eqb n (format_at a).block_length) 5 0 e).0)
      by_earlier (suc k) e = absurd (omega arith)

  pub sound_check : (n : ℕ) → owner_refusal a stripe member ≡ 0 → n ≡ (format_at a).block_length → check_refusal a stripe member n ≡ 0
  unfolding check_refusal
  sound_check n e l = rw (e, eq-eqb n (format_at a).block_length l)

  pub place_refused : (n : ℕ) → owner_refusal a stripe member ≢ 0 → check_refusal a stripe member n ≡ owner_refusal a stripe member
  unfolding check_refusal
  place_refused n e = after_refused (owner_refusal a stripe member) (refuse (not (eqb n (format_at a).block_length)) 6 0) e

  -- 6 exactly where the place is one and the block has another length
  pub length_refused : (n : ℕ) → (check_refusal a stripe member n ≡ 6) ↔ ((owner_refusal a stripe member ≡ 0) × (n ≢ (format_at a).block_length))
  unfolding check_refusal
  length_refused n = (
    by_earlier (owner_refusal a stripe member) (owner_else a stripe member 6 (omega arith) (omega arith)),
    λ h. rw (h.0, ne_eqb n (format_at a).block_length h.1),
  )
    where
      by_earlier : (k : ℕ) → k ≢ 6 → after k (refuse (not (eqb n (format_at a).block_length)) 6 0) ≡ 6 → (k ≡ 0) × (n ≢ (format_at a).block_length)
      by_earlier zero h e = (refl, eqb-false n (format_at a).block_length (refuse-last (eqb n (format_at a).block_length) 5 e))
      by_earlier (suc k) h e = absurd (h e)

  -- ---- the numbers

  module _ (block : List ℕ) where
    pub check_refused : check_refusal a stripe member (length block) ≢ 0 →
        check_numbers a stripe member block ≡ 0 ∷ check_refusal a stripe member (length block) ∷ replicate 10 0
    unfolding check_numbers
    check_refused h =
        answer_refused (check_refusal a stripe member (length block)) (told (format_at a) (found_in a block) (expected_at a stripe member block)) h
        ∙ ap (λ (l : List ℕ). 0 ∷ check_refusal a stripe member (length block) ∷ l) (told_refused (format_at a) (found_in a block) (expected_at a stripe member block))

    pub check_answered : check_refusal a stripe member (length block) ≡ 0 →
        check_numbers a stripe member block ≡ 1 ∷ 0 ∷ told (format_at a) (found_in a block) (expected_at a stripe member block)
    unfolding check_numbers
    check_answered e = rw e

    -- the kind that is told is how the block stands
    pub check_kind : check_refusal a stripe member (length block) ≡ 0 → get_or (check_numbers a stripe member block) 2 0 ≡ kind_of (standing_at a stripe member block)
    unfolding check_numbers told standing_at
    check_kind e = rw e

    pub check_good : check_refusal a stripe member (length block) ≡ 0 → (good a stripe member block ≡ true) ↔ (get_or (check_numbers a stripe member block) 2 0 ≡ 0)
    check_good sound = (
      λ h. check_kind sound ∙ ap kind_of (eqb-true (standing_at a stripe member block) 0 h),
      λ h. kind-good (standing_at a stripe member block) (sym (check_kind sound) ∙ h),
    )

    pub check_unchecked : check_refusal a stripe member (length block) ≡ 0 → (unchecked a stripe member block ≡ true) ↔ (get_or (check_numbers a stripe member block) 2 0 ≡ 2)
    check_unchecked sound = (
      λ h. check_kind sound ∙ ap kind_of (eqb-true (standing_at a stripe member block) 8 h),
      λ h. kind-unchecked (standing_at a stripe member block) (sym (check_kind sound) ∙ h),
    )

    -- the same by steps, as the code goes
    pub check_by_steps : check_refusal a stripe member (length block) ≡ 0 → (d g : ℕ) (e f : Fields) → d ≡ (format_at a).data_length →
        g ≡ guard (format_at a) (take (d - 0) block) → f ≡ found (format_at a) (take (format_at a).tag_length (drop d block)) → e ≡ due_at a stripe member (guard_due a stripe member f.guard g) →
        1 ∷ 0 ∷ told (format_at a) f e ≡ check_numbers a stripe member block
    unfolding data_of tag_of
    check_by_steps sound d g e f ed of_data read due-there =
        let F = format_at a in
        let here = check_sound (length block) sound in
        let first : d - 0 ≡ F.data_length = omega arith in
        let short : length (drop F.data_length block) ≤ F.tag_length = rw (length-drop F.data_length block) (omega (arith, F.block_parts)) in
        let whole : take F.tag_length (drop d block) ≡ drop F.data_length block =
        ap (λ (k : ℕ). take F.tag_length (drop k block)) ed ∙ take_all F.tag_length (drop F.data_length block) short in
        let is : f ≡ found_in a block = read ∙ ap (found F) whole in
        let own : g ≡ guard F (data_of F block) = of_data ∙ ap (λ (k : ℕ). guard F (take k block)) first in
        let right : e ≡ expected_at a stripe member block =
        due-there ∙ due_somewhere a stripe member (guard_due a stripe member f.guard g) here.0
        ∙ ap₂ (λ (x : Fields) (y : ℕ). expected a stripe member x y) is own in
        ap₂ (λ (x y : Fields). 1 ∷ 0 ∷ told F x y) is right ∙ sym (check_answered sound)
