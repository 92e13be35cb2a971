-- A sealed stripe: every member good, the data combine to zero, and each block holds what was sealed.
-- Assumes nothing.
use mathlib.Core.Path.{◌≡◌, refl, sym, ap, ◌∙◌}
use mathlib.Core.Bool.{Bool, true, false}
use mathlib.Core.List.{List, [], ◌∷◌}
use Prim.Native.Nat.{ℕ, ◌*◌, ◌^◌, ◌<◌}
use native.Mathlib.Omega.{arith}
use borrow.Author.Tests.{eq-eqb, ne_eqb}
use lib.ListN.{length}
use Rattle.layout.specs.Arrays.{data_members}
use Rattle.layout.specs.Places.{parity_member, stripe_of, index_of, member_of}
use Rattle.layout.specs.Ranges.{SoundStripe, SoundBlock}
use Rattle.layout.specs.declared.Array.{Array}
use Rattle.layout.proofs.Ranges.{sound_place, sound_block}
use Rattle.layout.proofs.Members.{parity-below, member_below, index_of_member}
use Rattle.layout.proofs.Blocks.{index_in_stripe, stripe_in_array}
use Rattle.layout.proofs.Bijection.{parity_no_block}
use Rattle.tag.specs.Blocks.{format_at, data_of}
use Rattle.format.specs.Formats.{guard}
use Rattle.format.proofs.Sizes.{guard-fits}
use Rattle.tag.specs.Tags.{guard_due, good}
use Rattle.tag.proofs.Guards.{own_data, carried-parity, guard-own, guard-carried, guard-due_small}
use Rattle.tag.proofs.Tagged.{data_of_tagged, guard_of_tagged, tagged-good}
use Rattle.verdict.specs.Verdicts.{combined_guards}
use Rattle.stripe.specs.Tables.{table, part}
use Rattle.stripe.specs.Stripes.{block_of, stored_guard, stored_guards, others_guards, Parity, Settled}
use Rattle.stripe.specs.Jobs.{guard_of_parts, sealed_data, sealed, Reads}
use Rattle.stripe.proofs.Seals.{length-sealed, length-sealed_data, block_of_sealed, others_of_parity, parity_by_data}
use Rattle.stripe.proofs.Tables.{length-table, get_or-table}
use Rattle.stripe.proofs.Carried.{left_plain, left-carried, combined_small, one-leaves-none}
use Rattle.stripe.proofs.Parity.{one_is_others}
use Rattle.stripe.proofs.Served.{read-stored}

module _ (a : Array) (stripe : ℕ) (content : List ℕ) (sound : SoundStripe a stripe) (long : length content ≡ (format_at a).data_length * data_members a) where
  pub sealed-good : a.volume < 256 → (m : ℕ) → m < a.members → good a stripe m (block_of (format_at a) (sealed a stripe content) m) ≡ true
  sealed-good small m h =
      ap (good a stripe m) (block_of_sealed a stripe content sound long m h)
      ∙ tagged-good a stripe m (guard_of_parts a content) (sealed_data a stripe content m) (length-sealed_data a stripe content sound long m h) (sound_place a stripe m (record { stripe = sound; here = h })) small

  pub sealed_data_lem : (m : ℕ) → m < a.members → data_of (format_at a) (block_of (format_at a) (sealed a stripe content) m) ≡ sealed_data a stripe content m
  sealed_data_lem m h =
      ap (data_of (format_at a)) (block_of_sealed a stripe content sound long m h)
      ∙ data_of_tagged a stripe m (guard_of_parts a content) (sealed_data a stripe content m) (length-sealed_data a stripe content sound long m h)

  pub sealed-parity : Parity (format_at a) a.members (sealed a stripe content)
  sealed-parity =
      let p = parity_member a stripe in
      let below : p < a.members = parity-below a stripe (omega (arith, sound.array.few)) in
      one_is_others (format_at a) a.members p (sealed a stripe content) below
      (parity_by_data a stripe content sound long (sealed a stripe content) (λ m h ne. sealed_data_lem m h ∙ rw (ne_eqb m p ne)) ∙ sym (sealed_data_lem p below ∙ rw (eq-eqb p p refl)))

  -- ---- the guards in the tags: of the parts, and, carried, what these combine to

  parts_small : guard_of_parts a content < 256 ^ (format_at a).quarter
  parts_small =
      let parts : ℕ → ℕ = λ i. guard (format_at a) (part (format_at a).data_length content i) in
      combined_small (format_at a).quarter (table (data_members a) parts)
      (λ i h. let here : i < data_members a = rw length-table at h in rw (get_or-table (data_members a) parts 0 i here) (guard-fits (format_at a) (part (format_at a).data_length content i)))

  module _ (small : a.volume < 256) where
    pub sealed-guard : (m : ℕ) → m < a.members
        → stored_guard (format_at a) (block_of (format_at a) (sealed a stripe content) m) ≡ guard_due a stripe m (guard_of_parts a content) (guard (format_at a) (sealed_data a stripe content m))
    sealed-guard m h =
        ap (stored_guard (format_at a)) (block_of_sealed a stripe content sound long m h)
        ∙ guard_of_tagged a stripe m (guard_of_parts a content) (sealed_data a stripe content m) (length-sealed_data a stripe content sound long m h) (sound_place a stripe m (record { stripe = sound; here = h })) small
        (guard-due_small a stripe m (guard_of_parts a content) (guard (format_at a) (sealed_data a stripe content m)) (256 ^ (format_at a).quarter) parts_small (guard-fits (format_at a) (sealed_data a stripe content m)))

    pub sealed-settled : Settled (format_at a) a.members (sealed a stripe content)
    unfolding others_guards
    sealed-settled = by_case (format_at a).carries refl
      where
        below : parity_member a stripe < a.members
        below = parity-below a stripe (omega (arith, sound.array.few))

        by_case : (c : Bool) → (format_at a).carries ≡ c → Settled (format_at a) a.members (sealed a stripe content)
        by_case false e = left_plain (format_at a) (stored_guards (format_at a) a.members (sealed a stripe content)) e
        by_case true e =
            left-carried (format_at a) (stored_guards (format_at a) a.members (sealed a stripe content)) e
            ∙ one-leaves-none (format_at a) a.members (parity_member a stripe) (sealed a stripe content) below
            (ap combined_guards
            (others_of_parity a stripe content sound long (λ m. stored_guard (format_at a) (block_of (format_at a) (sealed a stripe content) m)) (λ i. guard (format_at a) (part (format_at a).data_length content i))
            (λ m h ne. sealed-guard m h ∙ guard-own a stripe m (guard_of_parts a content) (guard (format_at a) (sealed_data a stripe content m)) (own_data a stripe m ne)
            ∙ ap (guard (format_at a)) (rw (ne_eqb m (parity_member a stripe) ne))))
            ∙ sym (sealed-guard (parity_member a stripe) below ∙ guard-carried a stripe (parity_member a stripe) (guard_of_parts a content) (guard (format_at a) (sealed_data a stripe content (parity_member a stripe))) (carried-parity a stripe (parity_member a stripe) e refl)))

-- a block's data are its part of what was sealed
pub sealed-block : (a : Array) (block : ℕ) (content : List ℕ) (sound : SoundBlock a block) (whole : SoundStripe a (stripe_of a block)) (long : length content ≡ (format_at a).data_length * data_members a)
    → data_of (format_at a) (block_of (format_at a) (sealed a (stripe_of a block) content) (member_of a block)) ≡ part (format_at a).data_length content (index_of a block)
sealed-block a block content sound whole long =
    let s = stripe_of a block in
    sealed_data_lem a s content whole long (member_of a block) (member_below a s (index_of a block) (index_in_stripe a block sound.array))
    ∙ rw (ne_eqb (member_of a block) (parity_member a s) (parity_no_block a block)) (ap (part (format_at a).data_length content) (index_of_member a s (index_of a block)))

-- and reads back as stored, equal to it, out of any stripe that holds it sealed
pub sealed-reads : (a : Array) (block : ℕ) (content out : List ℕ) → SoundBlock a block → a.volume < 256 → length content ≡ (format_at a).data_length * data_members a → length out ≡ (format_at a).data_length
    → Reads a block (sealed a (stripe_of a block) content) out (1 ∷ 0 ∷ 0 ∷ []) (part (format_at a).data_length content (index_of a block))
sealed-reads a block content out sound small long room =
    let s = stripe_of a block in
    let whole : SoundStripe a s = record { array = sound.array; here = stripe_in_array a block sound } in
    let here = member_below a s (index_of a block) (index_in_stripe a block sound.array) in
    let read = read-stored a block (sealed a s content) out (sound_block a block sound) (length-sealed a s content whole long) room (sealed-good a s content whole long small (member_of a block) here) in
    (read.0, sym (sealed-block a block content sound whole long) ∙ read.1)
