-- What a rebuild gives back. Where the data of all members combined to zero before a block was lost, and the guards that are carried did, and
-- all were good, the lost data come back, whatever stands in their place, and the whole stripe with them. Where the data did not (01 calls such
-- a stripe torn), the rebuilt block is another one, and its tag fits all the same; where guards are carried it is made only if they fit it.
-- Assumes nothing.
use mathlib.Core.Path.{◌≡◌, refl, sym, ap, ◌∙◌}
use mathlib.Core.Logic.{◌≢◌}
use mathlib.Core.Bool.{Bool, true, false}
use mathlib.Core.List.{List, [], ◌∷◌}
use Prim.Native.Nat.{ℕ, ◌*◌, ◌<◌}
use native.Mathlib.Decide.{ℕ_discrete}
use native.Mathlib.Omega.{arith}
use lib.ListN.{length}
use lib.Seq.{length-sets}
use Rattle.crc.specs.Crc.{Bytes}
use Rattle.layout.specs.Arrays.{block_refusal}
use Rattle.layout.specs.Places.{parity_member, stripe_of, member_of, owner_refusal}
use Rattle.layout.specs.declared.Array.{Array}
use Rattle.layout.proofs.Ranges.{place_sound}
use Rattle.layout.proofs.Bijection.{place-refusal}
use Rattle.format.specs.Formats.{guard}
use Rattle.format.proofs.Sizes.{times-next}
use Rattle.tag.specs.Blocks.{format_at, data_of}
use Rattle.tag.specs.Tags.{carried, good, bad, tagged}
use Rattle.tag.proofs.Guards.{carried-carries, own_data}
use Rattle.tag.proofs.Tagged.{length-tagged, data_of_tagged, tagged-good, good-tagged, tagged-own}
use Rattle.stripe.specs.Stripes.{stripe_length, block_of, others_data, others_good, stored_guard, stored_guards, others_guards, guards_fit, Parity, Settled}
use Rattle.stripe.specs.Jobs.{rebuilt, rebuild_refusal, rebuild_bytes, Reads}
use Rattle.stripe.proofs.Rows.{length-others_data, length-span}
use Rattle.stripe.proofs.Blocks.{block_written, block-kept, same_blocks}
use Rattle.stripe.proofs.Others.{good_others}
use Rattle.stripe.proofs.Rebuilds.{sources_rebuild, rebuild-fits, rebuild-done}
use Rattle.stripe.proofs.Carried.{left-carried, others_leave_one, others-guards_ext, stored-own, fit_plain, fit-parity, fit_same}
use Rattle.stripe.proofs.Served.{read-rebuilt}
use Rattle.stripe.proofs.Parity.{others_are_one, one_is_others, others_ext}

module _ (a : Array) (stripe member : ℕ) (bytes : List ℕ) (place : owner_refusal a stripe member ≡ 0) (long : length bytes ≡ stripe_length a) where
  here : member < a.members
  here = (place_sound a stripe member place).here

  made : List ℕ
  made = tagged a stripe member (others_guards (format_at a) a.members member bytes) (others_data (format_at a) a.members member bytes)

  length-made : length made ≡ (format_at a).block_length
  unfolding made
  length-made = length-tagged a stripe member (others_guards (format_at a) a.members member bytes) (others_data (format_at a) a.members member bytes) (length-others_data (format_at a) a.members member bytes)

  -- the block that is made, and the others
  pub rebuilt-block : block_of (format_at a) (rebuilt a stripe member bytes) member ≡ tagged a stripe member (others_guards (format_at a) a.members member bytes) (others_data (format_at a) a.members member bytes)
  unfolding rebuilt made
  rebuilt-block = block_written (format_at a) bytes member made length-made (omega (arith, times-next (format_at a).block_length member a.members here))

  pub rebuilt_data : data_of (format_at a) (block_of (format_at a) (rebuilt a stripe member bytes) member) ≡ others_data (format_at a) a.members member bytes
  rebuilt_data = ap (data_of (format_at a)) rebuilt-block ∙ data_of_tagged a stripe member (others_guards (format_at a) a.members member bytes) (others_data (format_at a) a.members member bytes) (length-others_data (format_at a) a.members member bytes)

  pub rebuilt-others : (k : ℕ) → k ≢ member → block_of (format_at a) (rebuilt a stripe member bytes) k ≡ block_of (format_at a) bytes k
  unfolding rebuilt made
  rebuilt-others k ne = block-kept (format_at a) bytes member k made length-made ne

  pub length-rebuilt : length (rebuilt a stripe member bytes) ≡ stripe_length a
  unfolding rebuilt
  length-rebuilt = length-sets bytes ((format_at a).block_length * member) (tagged a stripe member (others_guards (format_at a) a.members member bytes) (others_data (format_at a) a.members member bytes)) ∙ long

  -- its tag fits, whatever the others hold
  pub rebuilt-good : a.volume < 256 → good a stripe member (block_of (format_at a) (rebuilt a stripe member bytes) member) ≡ true
  rebuilt-good small =
      ap (good a stripe member) rebuilt-block
      ∙ tagged-good a stripe member (others_guards (format_at a) a.members member bytes) (others_data (format_at a) a.members member bytes) (length-others_data (format_at a) a.members member bytes) place small

-- a stripe before a loss, and after it: anything may stand at the lost member
module _ (a : Array) (stripe member : ℕ) (before damaged : List ℕ) (place : owner_refusal a stripe member ≡ 0)
    (long : length before ≡ stripe_length a) (as_long : length damaged ≡ stripe_length a)
    (kept : (k : ℕ) → k < a.members → k ≢ member → block_of (format_at a) damaged k ≡ block_of (format_at a) before k)
    (good-before : (k : ℕ) → k < a.members → k ≢ member → good a stripe k (block_of (format_at a) before k) ≡ true) where
  pub sources_good : others_good a stripe member damaged ≡ true
  sources_good = good_others a stripe member damaged (λ k h ne. ap (good a stripe k) (kept k h ne) ∙ good-before k h ne)

  -- a rebuild is refused exactly where the guards do not fit what the others make
  pub rebuild-accepted : guards_fit a stripe member damaged (guard (format_at a) (others_data (format_at a) a.members member damaged)) ≡ true → rebuild_refusal a stripe member damaged ≡ 0
  rebuild-accepted fits = sources_rebuild a stripe member damaged (record { place = place; long = as_long; others = sources_good; fits = fits })

  pub rebuild-unfit : guards_fit a stripe member damaged (guard (format_at a) (others_data (format_at a) a.members member damaged)) ≡ false → rebuild_refusal a stripe member damaged ≡ 9
  rebuild-unfit unfit = rebuild-fits a stripe member damaged (record { place = place; long = as_long; others = sources_good }) false unfit

  here_too : member < a.members
  here_too = (place_sound a stripe member place).here

  same-others : others_data (format_at a) a.members member damaged ≡ others_data (format_at a) a.members member before
  same-others = others_ext (format_at a) a.members member damaged before (λ k h ne. ap (data_of (format_at a)) (kept k h ne))

  same-guards : others_guards (format_at a) a.members member damaged ≡ others_guards (format_at a) a.members member before
  same-guards = others-guards_ext (format_at a) a.members member damaged before kept

  -- the others' data are the lost ones exactly where parity was right
  pub lost_data_lem : Parity (format_at a) a.members before → others_data (format_at a) a.members member damaged ≡ data_of (format_at a) (block_of (format_at a) before member)
  lost_data_lem parity = same-others ∙ others_are_one (format_at a) a.members member before here_too (omega arith) parity

  pub torn_data : (Parity (format_at a) a.members before → ⊥) → others_data (format_at a) a.members member damaged ≢ data_of (format_at a) (block_of (format_at a) before member)
  torn_data torn e = torn (one_is_others (format_at a) a.members member before here_too (sym same-others ∙ e))

  -- and the others' guards leave the lost one where those that are carried were right
  lost-guard : (format_at a).carries ≡ true → Settled (format_at a) a.members before
      → others_guards (format_at a) a.members member damaged ≡ stored_guard (format_at a) (block_of (format_at a) before member)
  lost-guard carrying settled =
      same-guards
      ∙ others_leave_one (format_at a) a.members member before here_too (sym (left-carried (format_at a) (stored_guards (format_at a) a.members before) carrying) ∙ settled)

  module _ (parity : Parity (format_at a) a.members before) (settled : Settled (format_at a) a.members before)
      (was-good : good a stripe member (block_of (format_at a) before member) ≡ true) where
    -- so they fit
    pub guards-fitting : guards_fit a stripe member damaged (guard (format_at a) (others_data (format_at a) a.members member damaged)) ≡ true
    guards-fitting = by_case (format_at a).carries refl (ℕ_discrete member (parity_member a stripe))
      where
        made-guard : ℕ
        made-guard = guard (format_at a) (others_data (format_at a) a.members member damaged)

        by_case : (c : Bool) → (format_at a).carries ≡ c → Dec (member ≡ parity_member a stripe) → guards_fit a stripe member damaged made-guard ≡ true
        by_case false e p = fit_plain a stripe member damaged made-guard e
        by_case true e (yes p) = fit-parity a stripe member damaged made-guard p
        by_case true e (no p) =
            fit_same a stripe member damaged made-guard
            (lost-guard e settled ∙ stored-own a stripe member before (own_data a stripe member p) was-good ∙ ap (guard (format_at a)) (sym (lost_data_lem parity)))

    -- the block that is made is the lost one
    made_again : Bytes (block_of (format_at a) before member)
        → tagged a stripe member (others_guards (format_at a) a.members member damaged) (others_data (format_at a) a.members member damaged) ≡ block_of (format_at a) before member
    made_again bytes =
        ap (tagged a stripe member (others_guards (format_at a) a.members member damaged)) (lost_data_lem parity)
        ∙ by_case (carried a stripe member) refl
        ∙ sym (good-tagged a stripe member (block_of (format_at a) before member) size bytes was-good)
      where
        size : length (block_of (format_at a) before member) ≡ (format_at a).block_length
        size = length-span ((format_at a).block_length * member) (format_at a).block_length before (omega (arith, times-next (format_at a).block_length member a.members here_too))

        content : List ℕ
        content = data_of (format_at a) (block_of (format_at a) before member)

        by_case : (c : Bool) → carried a stripe member ≡ c
            → tagged a stripe member (others_guards (format_at a) a.members member damaged) content ≡ tagged a stripe member (stored_guard (format_at a) (block_of (format_at a) before member)) content
        by_case true e = ap (λ (g : ℕ). tagged a stripe member g content) (lost-guard (carried-carries a stripe member e) settled)
        by_case false e = tagged-own a stripe member (others_guards (format_at a) a.members member damaged) (stored_guard (format_at a) (block_of (format_at a) before member)) content e

    -- the rebuilt stripe is the one before the loss
    pub rebuild_restores : Bytes (block_of (format_at a) before member) → rebuild_bytes a stripe member damaged ≡ before
    rebuild_restores bytes =
        sym (rebuild-done a stripe member damaged (rebuild-accepted guards-fitting))
        ∙ same_blocks (format_at a) a.members (rebuilt a stripe member damaged) before (length-rebuilt a stripe member damaged place as_long) long (λ k h. at k h (ℕ_discrete k member))
      where
        at : (k : ℕ) → k < a.members → Dec (k ≡ member) → block_of (format_at a) (rebuilt a stripe member damaged) k ≡ block_of (format_at a) before k
        at k h (yes e) = rw e (rebuilt-block a stripe member damaged place as_long ∙ made_again bytes)
        at k h (no ne) = rebuilt-others a stripe member damaged place as_long k ne ∙ kept k h ne

  -- of a torn one the rebuilt block is another, though it is good, if the guards fit what the others make
  pub torn_rebuilds_another : guards_fit a stripe member damaged (guard (format_at a) (others_data (format_at a) a.members member damaged)) ≡ true
      → (Parity (format_at a) a.members before → ⊥) → a.volume < 256
      → (data_of (format_at a) (block_of (format_at a) (rebuild_bytes a stripe member damaged) member) ≢ data_of (format_at a) (block_of (format_at a) before member))
      × (good a stripe member (block_of (format_at a) (rebuild_bytes a stripe member damaged) member) ≡ true)
  torn_rebuilds_another fits torn small =
      let done = rebuild-done a stripe member damaged (rebuild-accepted fits) in (
        λ e. torn_data torn (sym (rebuilt_data a stripe member damaged place as_long) ∙ ap (λ (x : List ℕ). data_of (format_at a) (block_of (format_at a) x member)) done ∙ e),
        ap (λ (x : List ℕ). good a stripe member (block_of (format_at a) x member)) (sym done) ∙ rebuilt-good a stripe member damaged place as_long small,
      )

-- a read whose block was lost serves the lost data too, where parity, and what it carries, was right and all were good
pub read_restores : (a : Array) (block : ℕ) (before damaged out : List ℕ) → block_refusal a block ≡ 0
    → length before ≡ stripe_length a → length damaged ≡ stripe_length a → length out ≡ (format_at a).data_length
    → ((k : ℕ) → k < a.members → k ≢ member_of a block → block_of (format_at a) damaged k ≡ block_of (format_at a) before k)
    → ((k : ℕ) → k < a.members → good a (stripe_of a block) k (block_of (format_at a) before k) ≡ true)
    → bad a (stripe_of a block) (member_of a block) (block_of (format_at a) damaged (member_of a block)) ≡ true
    → Parity (format_at a) a.members before → Settled (format_at a) a.members before
    → Reads a block damaged out (1 ∷ 0 ∷ 1 ∷ []) (data_of (format_at a) (block_of (format_at a) before (member_of a block)))
read_restores a block before damaged out taken long as_long room kept good-before lost parity settled =
    let s = stripe_of a block in
    let m = member_of a block in
    let place = place-refusal a block taken in
    let others : (k : ℕ) → k < a.members → k ≢ m → good a s k (block_of (format_at a) before k) ≡ true = λ k h ne. good-before k h in
    let fits = guards-fitting a s m before damaged place long as_long kept others parity settled (good-before m (place_sound a s m place).here) in
    let read = read-rebuilt a block damaged out taken as_long room lost (λ k h ne. ap (good a s k) (kept k h ne) ∙ good-before k h) fits in
    (read.0, sym (lost_data_lem a s m before damaged place long as_long kept others parity) ∙ read.1)
