-- An update of a sealed stripe leaves the sealed stripe of the new content, byte for byte. Block by block it holds of any stripe in which
-- the block and the parity are as sealed, whatever the other members are. Assumes nothing.
use mathlib.Core.Path.{◌≡◌, refl, sym, ap, ap₂, ◌∙◌, subst}
use mathlib.Core.Logic.{◌≢◌}
use mathlib.Core.Bool.{Bool, true, false}
use mathlib.Core.List.{List}
use Prim.Native.Nat.{ℕ, ◌*◌, ◌<◌}
use native.Mathlib.Decide.{ℕ_discrete}
use native.Mathlib.Omega.{arith}
use borrow.Author.Tests.{eq-eqb, ne_eqb}
use lib.Bits.{bit_xor}
use lib.ListN.{length}
use lib.Seq.{length-sets}
use Rattle.xor.specs.Xors.{xors}
use Rattle.layout.specs.Arrays.{data_members}
use Rattle.layout.specs.Places.{parity_member, stripe_of, index_of, member_of, member_at, index_at}
use Rattle.layout.specs.Ranges.{SoundStripe, SoundBlock}
use Rattle.layout.specs.declared.Array.{Array}
use Rattle.layout.proofs.Ranges.{sound_block}
use Rattle.layout.proofs.Members.{parity-below, member_below, index_of_member, member_of_index}
use Rattle.layout.proofs.Blocks.{index_in_stripe, stripe_in_array}
use Rattle.layout.proofs.Bijection.{parity_no_block}
use Rattle.format.specs.Formats.{guard}
use Rattle.format.proofs.Sizes.{times-next}
use Rattle.tag.specs.Blocks.{format_at, data_of}
use Rattle.tag.specs.Tags.{carried, tagged}
use Rattle.tag.proofs.Guards.{carried-parity, carried-carries, own_data as own-holds, guard-own, guard-carried}
use Rattle.tag.proofs.Tagged.{tagged-own}
use Rattle.verdict.specs.Verdicts.{combined_guards}
use Rattle.stripe.specs.Tables.{table, part}
use Rattle.stripe.specs.Stripes.{block_of, stored_guard}
use Rattle.stripe.specs.Jobs.{parity_of, guard_of_parts, sealed_data, sealed, update_refusal, update_bytes}
use Rattle.stripe.proofs.Blocks.{same_blocks}
use Rattle.stripe.proofs.Seals.{length-sealed, block_of_sealed}
use Rattle.stripe.proofs.Sealed.{sealed-good, sealed_data_lem, sealed-guard}
use Rattle.stripe.proofs.Updates.{replace_taken, moved_guard}
use Rattle.stripe.proofs.Tables.{length-table, get_or-table}
use Rattle.stripe.proofs.OneEntry.{one_entry_set}
use Rattle.stripe.proofs.Carried.{guards-set}
use Rattle.stripe.proofs.CombinedGuards.{clean_agrees}
use Rattle.stripe.proofs.Clean.{sealed-clean}
use Rattle.stripe.proofs.Updated.{moved_data, update_keeps_length, update-own, update-parity, update_keeps_others}
use Rattle.stripe.proofs.Contents.{with_part, part-new, part-kept, parity-moved}

-- the content with the block's part replaced
abbrev pub updated_content : Array → ℕ → List ℕ → List ℕ → List ℕ
updated_content a block content new = with_part (format_at a).data_length content (index_of a block) new

module _ (a : Array) (block : ℕ) (content new : List ℕ) (sound : SoundBlock a block)
    (long : length content ≡ (format_at a).data_length * data_members a) (size : length new ≡ (format_at a).data_length) where
  abbrev stripe : ℕ
  stripe = stripe_of a block

  abbrev own : ℕ
  own = member_of a block

  abbrev parity : ℕ
  parity = parity_member a stripe

  abbrev later : List ℕ
  later = updated_content a block content new

  in_array : SoundStripe a stripe
  in_array = record { array = sound.array; here = stripe_in_array a block sound }

  index_in : index_of a block < data_members a
  index_in = index_in_stripe a block sound.array

  own_in : own < a.members
  own_in = member_below a stripe (index_of a block) index_in

  parity_in : parity < a.members
  parity_in = parity-below a stripe (omega (arith, sound.array.few))

  still_long : length later ≡ (format_at a).data_length * data_members a
  still_long = length-sets content ((format_at a).data_length * index_of a block) new ∙ long

  -- ---- the data that sealing gives each member, from the old content and from the new

  own_data : (c : List ℕ) → sealed_data a stripe c own ≡ part (format_at a).data_length c (index_of a block)
  own_data c = rw (ne_eqb own parity (parity_no_block a block)) (ap (part (format_at a).data_length c) (index_of_member a stripe (index_of a block)))

  parity_data : (c : List ℕ) → sealed_data a stripe c parity ≡ parity_of a c
  parity_data c = rw (eq-eqb parity parity refl)

  own_new : sealed_data a stripe later own ≡ new
  own_new = own_data later ∙ part-new (format_at a).data_length content (index_of a block) new size (omega (arith, times-next (format_at a).data_length (index_of a block) (data_members a) index_in))

  parity-new : sealed_data a stripe later parity ≡ xors (xors (sealed_data a stripe content parity) (sealed_data a stripe content own)) new
  parity-new =
      parity_data later ∙ parity-moved a content (index_of a block) new long size index_in
      ∙ sym (ap₂ (λ (x y : List ℕ). xors (xors x y) new) (parity_data content) (own_data content))

  other_kept : (m : ℕ) → m ≢ own → m ≢ parity → sealed_data a stripe later m ≡ sealed_data a stripe content m
  other_kept m ne np =
      rw (ne_eqb m parity np)
      (part-kept (format_at a).data_length content (index_of a block) new size (index_at a stripe m) (λ e. ne (sym (member_of_index a stripe m np) ∙ ap (member_at a stripe) e)))

  -- ---- block by block

  module _ (bytes : List ℕ) (done : update_refusal a block (length new) bytes ≡ 0)
      (own-sealed : block_of (format_at a) bytes own ≡ block_of (format_at a) (sealed a stripe content) own)
      (parity-sealed : block_of (format_at a) bytes parity ≡ block_of (format_at a) (sealed a stripe content) parity) (small : a.volume < 256) where
    -- what the parity carries is what the new parts' guards combine to
    guards-moved : (format_at a).carries ≡ true → moved_guard a stripe own new bytes ≡ guard_of_parts a later
    guards-moved carrying =
        let F = format_at a in
        let i = index_of a block in
        let type_size = F.data_length in
        let before : ℕ → ℕ = λ k. guard F (part type_size content k) in
        let now : ℕ → ℕ = λ k. guard F (part type_size later k) in
        let carried-guard : stored_guard F (block_of F bytes parity) ≡ guard_of_parts a content =
        ap (stored_guard F) parity-sealed ∙ sealed-guard a stripe content in_array long small parity parity_in
        ∙ guard-carried a stripe parity (guard_of_parts a content) (guard F (sealed_data a stripe content parity)) (carried-parity a stripe parity carrying refl) in
        let own-guard : stored_guard F (block_of F bytes own) ≡ before i =
        ap (stored_guard F) own-sealed ∙ sealed-guard a stripe content in_array long small own own_in
        ∙ guard-own a stripe own (guard_of_parts a content) (guard F (sealed_data a stripe content own)) (own-holds a stripe own (parity_no_block a block)) ∙ ap (guard F) (own_data content) in
        let moved-part : now i ≡ guard F new =
        ap (guard F) (part-new type_size content i new size (omega (arith, times-next type_size i (data_members a) index_in))) in
        ap₂ (λ (x y : ℕ). bit_xor (bit_xor x y) (guard F new)) carried-guard own-guard
        ∙ sym (ap combined_guards (one_entry_set (data_members a) i now before index_in (λ k h ne. ap (guard F) (part-kept type_size content i new size k ne)))
        ∙ guards-set (table (data_members a) before) i (now i) (rw length-table index_in)
        ∙ ap₂ (λ (x y : ℕ). bit_xor (bit_xor (combined_guards (table (data_members a) before)) x) y) (get_or-table (data_members a) before 0 i index_in) moved-part)

    -- a tag of the new content, whatever is combined in it, unless that is carried
    retagged : (k x : ℕ) (l : List ℕ) → (carried a stripe k ≡ true → x ≡ guard_of_parts a later) → tagged a stripe k x l ≡ tagged a stripe k (guard_of_parts a later) l
    retagged k x l h = by_case (carried a stripe k) refl
      where
        by_case : (c : Bool) → carried a stripe k ≡ c → tagged a stripe k x l ≡ tagged a stripe k (guard_of_parts a later) l
        by_case true e = ap (λ (g : ℕ). tagged a stripe k g l) (h e)
        by_case false e = tagged-own a stripe k x (guard_of_parts a later) l e

    not_carried : (k : ℕ) → k ≢ parity → (x : ℕ) → carried a stripe k ≡ true → x ≡ guard_of_parts a later
    not_carried k ne x e = let z : true ≡ false = sym e ∙ own-holds a stripe k ne in let o : ◌≡◌ {A = ℕ} 0 1 = cc in absurd (omega arith)

    data_sealed : (m : ℕ) → m < a.members → block_of (format_at a) bytes m ≡ block_of (format_at a) (sealed a stripe content) m
        → data_of (format_at a) (block_of (format_at a) bytes m) ≡ sealed_data a stripe content m
    data_sealed m here same = ap (data_of (format_at a)) same ∙ sealed_data_lem a stripe content in_array long m here

    -- a member that is as sealed is as sealed from the new content afterwards
    pub update_keeps_sealed : (m : ℕ) → m < a.members → block_of (format_at a) bytes m ≡ block_of (format_at a) (sealed a stripe content) m
        → block_of (format_at a) (update_bytes a block new bytes) m ≡ block_of (format_at a) (sealed a stripe later) m
    update_keeps_sealed m here same = by_member (ℕ_discrete m own) (ℕ_discrete m parity) ∙ sym (block_of_sealed a stripe later in_array still_long m here)
      where
        AsSealed : ℕ → Type 0
        AsSealed k = block_of (format_at a) (update_bytes a block new bytes) k ≡ tagged a stripe k (guard_of_parts a later) (sealed_data a stripe later k)

        by_member : Dec (m ≡ own) → Dec (m ≡ parity) → AsSealed m
        by_member (yes e) p =
            subst AsSealed (sym e)
            (update-own a block new bytes done ∙ retagged own (moved_guard a stripe own new bytes) new (not_carried own (parity_no_block a block) (moved_guard a stripe own new bytes))
            ∙ ap (tagged a stripe own (guard_of_parts a later)) (sym own_new))
        by_member (no o) (yes e) =
            subst AsSealed (sym e)
            (update-parity a block new bytes done
            ∙ retagged parity (moved_guard a stripe own new bytes) (moved_data a stripe own new bytes) (λ c. guards-moved (carried-carries a stripe parity c))
            ∙ ap (tagged a stripe parity (guard_of_parts a later))
            (ap₂ (λ (x y : List ℕ). xors (xors x y) new) (data_sealed parity parity_in parity-sealed) (data_sealed own own_in own-sealed) ∙ sym parity-new))
        by_member (no o) (no p) =
            update_keeps_others a block new bytes done m o p ∙ same ∙ block_of_sealed a stripe content in_array long m here
            ∙ retagged m (guard_of_parts a content) (sealed_data a stripe content m) (not_carried m p (guard_of_parts a content))
            ∙ ap (tagged a stripe m (guard_of_parts a later)) (sym (other_kept m o p))

-- ---- the sealed stripe: an update of it is done, and leaves the sealed stripe of the new content

module _ (a : Array) (block : ℕ) (content new : List ℕ) (sound : SoundBlock a block) (small : a.volume < 256)
    (long : length content ≡ (format_at a).data_length * data_members a) (size : length new ≡ (format_at a).data_length) where
  pub sealed_takes_update : update_refusal a block (length new) (sealed a (stripe_of a block) content) ≡ 0
  unfolding update_refusal
  sealed_takes_update =
      let s = stripe_of a block in
      let whole = in_array a block content new sound long size in
      let good = sealed-good a s content whole long small in
      rw (sound_block a block sound)
      (sym (replace_taken a s (member_of a block) (length new) (sealed a s content) (length-sealed a s content whole long) size
      (good (member_of a block) (own_in a block content new sound long size)) (good (parity_member a s) (parity_in a block content new sound long size))
      (clean_agrees a s (sealed a s content) (sealed-clean a s content whole long small))))

  pub update_of_sealed : update_bytes a block new (sealed a (stripe_of a block) content) ≡ sealed a (stripe_of a block) (updated_content a block content new)
  update_of_sealed =
      let s = stripe_of a block in
      let whole = in_array a block content new sound long size in
      let before = sealed a s content in
      let later = updated_content a block content new in
      same_blocks (format_at a) a.members (update_bytes a block new before) (sealed a s later)
      (update_keeps_length a block new before sealed_takes_update ∙ length-sealed a s content whole long)
      (length-sealed a s later whole (still_long a block content new sound long size))
      (λ m here. update_keeps_sealed a block content new sound long size before sealed_takes_update refl refl small m here refl)
