-- What a rebuild leaves scrubs clean: the others are good, the block that is made is good, and its data are what the others lack of zero.
-- So it is even where the stripe was torn before.
-- Assumes nothing.
use mathlib.Core.Path.{◌≡◌, refl, sym, ap, ◌∙◌}
use mathlib.Core.Bool.{Bool, true, false}
use mathlib.Core.List.{List, ◌∷◌}
use Prim.Native.Nat.{ℕ, ◌<◌}
use native.Mathlib.Decide.{ℕ_discrete}
use borrow.Author.Tests.{eqb-true}
use lib.ListN.{length}
use Rattle.format.specs.Formats.{guard}
use Rattle.layout.specs.Places.{parity_member}
use Rattle.layout.specs.declared.Array.{Array}
use Rattle.layout.proofs.Ranges.{place_sound, sound_stripe}
use Rattle.tag.specs.Blocks.{format_at, data_of}
use Rattle.tag.specs.Tags.{good, tagged}
use Rattle.tag.proofs.Guards.{own_data, carried-parity, guard-carried}
use Rattle.tag.proofs.Tagged.{guard_of_tagged, own_of_tagged}
use Rattle.verdict.specs.Verdicts.{says_torn}
use Rattle.stripe.specs.Stripes.{block_of, others_data, stored_guard, stored_guards, others_guards, guards_fit, Parity, Settled}
use Rattle.stripe.specs.Accepted.{Sources}
use Rattle.stripe.specs.Jobs.{rebuilt, rebuild_refusal, rebuild_bytes}
use Rattle.stripe.specs.Verdicts.{scrub_numbers, clean}
use Rattle.stripe.proofs.Others.{others_are_good, good_others}
use Rattle.stripe.proofs.Parity.{one_is_others, others_ext}
use Rattle.stripe.proofs.Rebuilds.{sources_rebuild, rebuild_sources, rebuild-done}
use Rattle.stripe.proofs.Rows.{length-others_data}
use Rattle.stripe.proofs.Carried.{left_plain, left-carried, one-leaves-none, others-guards_ext, others_small, fit_data}
use Rattle.stripe.proofs.Restores.{rebuilt-block, rebuilt_data, rebuilt-others, length-rebuilt, rebuilt-good}
use Rattle.stripe.proofs.Scrubs.{scrub_sound, sound_scrub, member_place, scrub_clean, scrub_torn}
use Rattle.stripe.proofs.ScrubTaken.{scrub_taken}

module _ (a : Array) (stripe member : ℕ) (bytes : List ℕ) (from : Sources a stripe member bytes) where
  all-good : a.volume < 256 → (m : ℕ) → m < a.members → good a stripe m (block_of (format_at a) (rebuilt a stripe member bytes) m) ≡ true
  all-good small m here = by_member (ℕ_discrete m member)
    where
      by_member : Dec (m ≡ member) → good a stripe m (block_of (format_at a) (rebuilt a stripe member bytes) m) ≡ true
      by_member (yes e) = rw e (rebuilt-good a stripe member bytes from.place from.long small)
      by_member (no ne) =
          ap (good a stripe m) (rebuilt-others a stripe member bytes from.place from.long m ne)
          ∙ others_are_good a stripe member bytes from.others m here ne

  parity-made : Parity (format_at a) a.members (rebuilt a stripe member bytes)
  parity-made =
      one_is_others (format_at a) a.members member (rebuilt a stripe member bytes) (place_sound a stripe member from.place).here
      (others_ext (format_at a) a.members member (rebuilt a stripe member bytes) bytes
      (λ m here ne. ap (data_of (format_at a)) (rebuilt-others a stripe member bytes from.place from.long m ne))
      ∙ sym (rebuilt_data a stripe member bytes from.place from.long))

  -- the guard that is made is what the others' leave, where one is carried
  settled-made : a.volume < 256 → Settled (format_at a) a.members (rebuilt a stripe member bytes)
  settled-made small = by_case (format_at a).carries refl (ℕ_discrete member (parity_member a stripe))
    where
      left : List ℕ
      left = rebuilt a stripe member bytes

      made : List ℕ
      made = others_data (format_at a) a.members member bytes

      guards : ℕ
      guards = others_guards (format_at a) a.members member bytes

      here : member < a.members
      here = (place_sound a stripe member from.place).here

      same : others_guards (format_at a) a.members member left ≡ guards
      same = others-guards_ext (format_at a) a.members member left bytes (λ k h ne. rebuilt-others a stripe member bytes from.place from.long k ne)

      settles : (format_at a).carries ≡ true → stored_guard (format_at a) (tagged a stripe member guards made) ≡ guards → Settled (format_at a) a.members left
      settles e is =
          left-carried (format_at a) (stored_guards (format_at a) a.members left) e
          ∙ one-leaves-none (format_at a) a.members member left here (same ∙ sym (ap (stored_guard (format_at a)) (rebuilt-block a stripe member bytes from.place from.long) ∙ is))

      by_case : (c : Bool) → (format_at a).carries ≡ c → Dec (member ≡ parity_member a stripe) → Settled (format_at a) a.members left
      by_case false e p = left_plain (format_at a) (stored_guards (format_at a) a.members left) e
      by_case true e (yes p) =
          let due_is = guard-carried a stripe member guards (guard (format_at a) made) (carried-parity a stripe member e p) in
          settles e
          (guard_of_tagged a stripe member guards made (length-others_data (format_at a) a.members member bytes) from.place small (rw due_is (others_small a stripe member bytes from.others here p)) ∙ due_is)
      by_case true e (no p) =
          settles e
          (own_of_tagged a stripe member guards made (length-others_data (format_at a) a.members member bytes) from.place small (own_data a stripe member p)
          ∙ sym (eqb-true guards (guard (format_at a) made) (sym (fit_data a stripe member bytes (guard (format_at a) made) e p) ∙ from.fits)))

-- where a rebuild is done the stripe scrubs clean afterwards, whatever it was before
pub rebuild-clean : (a : Array) (stripe member : ℕ) (bytes : List ℕ) → rebuild_refusal a stripe member bytes ≡ 0 → a.volume < 256
    → scrub_numbers a stripe (rebuild_bytes a stripe member bytes) ≡ clean
rebuild-clean a stripe member bytes done small =
    let from = rebuild_sources a stripe member bytes done in
    let left = rebuilt a stripe member bytes in
    let taken = sound_scrub a stripe (length left) (sound_stripe a stripe (place_sound a stripe member from.place).stripe) (length-rebuilt a stripe member bytes from.place from.long) in
    ap (scrub_numbers a stripe) (sym (rebuild-done a stripe member bytes done))
    ∙ (scrub_clean a stripe left taken).1 (all-good a stripe member bytes from small, parity-made a stripe member bytes from, settled-made a stripe member bytes from small)

-- a torn stripe too: unless the guards do not fit, a rebuild of any member is done, and hides that it was torn
pub torn_rebuilds_clean : (a : Array) (stripe member place : ℕ) (bytes : List ℕ) → scrub_numbers a stripe bytes ≡ 1 ∷ 0 ∷ says_torn place
    → member < a.members → a.volume < 256
    → guards_fit a stripe member bytes (guard (format_at a) (others_data (format_at a) a.members member bytes)) ≡ true
    → (rebuild_refusal a stripe member bytes ≡ 0) × (scrub_numbers a stripe (rebuild_bytes a stripe member bytes) ≡ clean)
torn_rebuilds_clean a stripe member place bytes torn here small fits =
    let taken = scrub_taken a stripe bytes (0 ∷ says_torn place) torn in
    let every = ((scrub_torn a stripe bytes taken place).0 torn).0 in
    let done =
    sources_rebuild a stripe member bytes
    (record { place = member_place a stripe (length bytes) member taken here; long = (scrub_sound a stripe (length bytes) taken).1; others = good_others a stripe member bytes (λ m h ne. every m h); fits = fits }) in
    (done, rebuild-clean a stripe member bytes done small)
