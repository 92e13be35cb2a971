-- An update does not build on a stripe whose guards tell that it is torn. It asks what the quick scrub asks; a clean stripe always passes; one
-- torn within as many successive bits as a guard reaches over never does; and what is still taken is what was taken without the rule, with
-- the same bytes. Assumes nothing.
use mathlib.Core.Path.{◌≡◌, refl, sym, ap, ◌∙◌}
use mathlib.Core.Logic.{◌≢◌, ◌↔◌}
use mathlib.Core.Bool.{Bool, true, false, not, ◌&&◌}
use mathlib.Core.List.{List, [], ◌∷◌}
use Prim.Native.Nat.{ℕ}
use native.Mathlib.Omega.{arith}
use borrow.Author.Tests.{eqb-true, eq-eqb}
use lib.Dec.{eqb}
use lib.ListN.{length, get_or}
use Rattle.layout.specs.Answers.{refuse, after}
use Rattle.layout.specs.Arrays.{block_refusal}
use Rattle.layout.specs.Places.{parity_member, stripe_of, member_of}
use Rattle.layout.specs.Ranges.{Sound}
use Rattle.layout.specs.declared.Array.{Array}
use Rattle.layout.proofs.Bijection.{place-refusal}
use Rattle.layout.proofs.Ranges.{place_sound}
use Rattle.format.specs.Formats.{settled}
use Rattle.tag.specs.Blocks.{format_at}
use Rattle.verdict.specs.Verdicts.{says_clean, combined_guards, quick_refusal}
use Rattle.verdict.proofs.Quick.{sound_quick, compared_fits, compared_differs}
use Rattle.stripe.specs.Stripes.{stripe_length, block_of, stored_guard, stored_guards}
use Rattle.stripe.specs.Jobs.{unless_refused, stored_good, guards_agree, replaced, update_refusal, update_bytes}
use Rattle.stripe.specs.Verdicts.{scrub_numbers, clean, quick_of}
use Rattle.stripe.proofs.Tables.{length-table}
use Rattle.stripe.proofs.Scrubs.{scrub_clean}
use Rattle.stripe.proofs.ScrubTaken.{scrub_taken}
use Rattle.stripe.proofs.CombinedGuards.{clean_agrees}
use Rattle.stripe.proofs.Updates.{parity_sound, replaceable, replace_never, replace_taken}
use Rattle.stripe.proofs.Updated.{refusals, as_replaced}

-- ---- the rule is the quick scrub's

module _ (a : Array) (bytes : List ℕ) (sound : Sound a) where
  abbrev stored : List ℕ
  stored = stored_guards (format_at a) a.members bytes

  enough : quick_refusal (length stored) ≡ 0
  enough = ap quick_refusal (length-table a.members (λ m. stored_guard (format_at a) (block_of (format_at a) bytes m))) ∙ sound_quick a.members sound.few sound.many

  agree_by : (t : Bool) → eqb (combined_guards stored) (settled (format_at a) a.members) ≡ t
      → (t ≡ true) ↔ (quick_of a stored ≡ 1 ∷ 0 ∷ 0 ∷ 0 ∷ [])
  agree_by true e = (λ _. compared_fits (settled (format_at a) a.members) stored enough (eqb-true (combined_guards stored) (settled (format_at a) a.members) e), λ _. refl)
  agree_by false e = (
    λ f. let o : ◌≡◌ {A = ℕ} 0 1 = cc in absurd (omega arith),
    λ q. let o : ◌≡◌ {A = ℕ} 1 0 = ap (λ (l : List ℕ). get_or l 2 0) (sym (compared_differs (settled (format_at a) a.members) stored enough off) ∙ q) in absurd (omega arith),
  )
    where
      off : combined_guards stored ≢ settled (format_at a) a.members
      off s = let o : true ≡ false = sym (eq-eqb (combined_guards stored) (settled (format_at a) a.members) s) ∙ e in let z : ◌≡◌ {A = ℕ} 0 1 = cc in omega arith

  -- the guards agree exactly if the quick scrub of them fits
  pub agree-fits : (guards_agree a bytes ≡ true) ↔ (quick_of a stored ≡ 1 ∷ 0 ∷ 0 ∷ 0 ∷ [])
  unfolding guards_agree
  agree-fits = agree_by (eqb (combined_guards stored) (settled (format_at a) a.members)) refl

-- ---- what it refuses

-- a block of the array, data of the right length, and a stripe in memory of the right length
pub record Asked (a : Array) (block newBytes : ℕ) (bytes : List ℕ) : Type 0 where
  pub there : block_refusal a block ≡ 0
  pub long : length bytes ≡ stripe_length a
  pub size : newBytes ≡ (format_at a).data_length

module _ (a : Array) (block newBytes : ℕ) (bytes : List ℕ) (asked : Asked a block newBytes bytes) where
  -- guards that do not agree, whatever else is right or wrong
  pub unsettled_refused : guards_agree a bytes ≡ false → update_refusal a block newBytes bytes ≡ 9
  unfolding update_refusal
  unsettled_refused h = rw asked.there (sym (replace_never a (stripe_of a block) (member_of a block) newBytes bytes asked.long asked.size h))

  -- a clean stripe is always updated
  pub clean-taken : scrub_numbers a (stripe_of a block) bytes ≡ clean → update_refusal a block newBytes bytes ≡ 0
  unfolding update_refusal
  clean-taken is-clean =
      let s = stripe_of a block in
      let m = member_of a block in
      let good = ((scrub_clean a s bytes (scrub_taken a s bytes (0 ∷ says_clean) is-clean)).0 is-clean).0 in
      let place = place-refusal a block asked.there in
      rw asked.there
      (sym (replace_taken a s m newBytes bytes asked.long asked.size (good m (place_sound a s m place).here)
      (good (parity_member a s) (place_sound a s (parity_member a s) (parity_sound a s m place)).here) (clean_agrees a s bytes is-clean)))

-- ---- nothing accepted is new: the update as it was before the rule, and what is taken now

-- refusals 6 and 9 where only the block and the parity are asked for
abbrev pub replace_refusal_before : Array → ℕ → ℕ → ℕ → List ℕ → ℕ
replace_refusal_before a stripe member newBytes bytes =
    refuse (not (eqb (length bytes) (stripe_length a) && eqb newBytes (format_at a).data_length)) 6
    (refuse (not (stored_good a stripe member bytes && stored_good a stripe (parity_member a stripe) bytes)) 9 0)

abbrev pub update_refusal_before : Array → ℕ → ℕ → List ℕ → ℕ
update_refusal_before a block newBytes bytes = after (block_refusal a block) (replace_refusal_before a (stripe_of a block) (member_of a block) newBytes bytes)

abbrev pub update_bytes_before : Array → ℕ → List ℕ → List ℕ → List ℕ
update_bytes_before a block new bytes =
    unless_refused (update_refusal_before a block (length new) bytes) (replaced a (stripe_of a block) (member_of a block) new bytes) bytes

module _ (a : Array) (block : ℕ) (new bytes : List ℕ) (done : update_refusal a block (length new) bytes ≡ 0) where
  pub accepted-before : update_refusal_before a block (length new) bytes ≡ 0
  accepted-before =
      let r = refusals a block new bytes done in
      let f = replaceable a (stripe_of a block) (member_of a block) (length new) bytes r.1 in
      rw (r.0, eq-eqb (length bytes) (stripe_length a) f.long, eq-eqb (length new) (format_at a).data_length f.size, f.own-good, f.parity-good)

  pub bytes_as_before : update_bytes a block new bytes ≡ update_bytes_before a block new bytes
  bytes_as_before = as_replaced a block new bytes done ∙ sym (rw (eq-eqb (update_refusal_before a block (length new) bytes) 0 accepted-before) refl)
