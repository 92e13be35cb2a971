-- A rebuild gives the sealed stripe back, byte for byte: where every member but one is as sealed, that one's rebuild is done, whatever stands
-- in its place, and leaves the whole stripe as sealed. Assumes nothing.
use mathlib.Core.Path.{◌≡◌, refl, sym, ap, ◌∙◌}
use mathlib.Core.Logic.{◌≢◌}
use mathlib.Core.Bool.{Bool, true, false}
use mathlib.Core.List.{List}
use Prim.Native.Nat.{ℕ, ◌*◌, ◌<◌}
use native.Mathlib.Decide.{ℕ_discrete}
use lib.ListN.{length}
use Rattle.layout.specs.Arrays.{data_members}
use Rattle.layout.specs.Places.{owner_refusal}
use Rattle.layout.specs.Ranges.{SoundStripe}
use Rattle.layout.specs.declared.Array.{Array}
use Rattle.layout.proofs.Ranges.{sound_place}
use Rattle.format.specs.Formats.{guard}
use Rattle.tag.specs.Blocks.{format_at}
use Rattle.tag.specs.Tags.{carried, good, tagged}
use Rattle.tag.proofs.Guards.{carried-carries, guard-carried}
use Rattle.tag.proofs.Tagged.{tagged-own}
use Rattle.stripe.specs.Stripes.{stripe_length, block_of, others_data, stored_guards, others_guards}
use Rattle.stripe.specs.Jobs.{guard_of_parts, sealed_data, sealed, rebuilt, rebuild_refusal, rebuild_bytes}
use Rattle.stripe.proofs.Blocks.{same_blocks}
use Rattle.stripe.proofs.Carried.{left-carried, others_leave_one, others-guards_ext}
use Rattle.stripe.proofs.Rebuilds.{rebuild-done}
use Rattle.stripe.proofs.Restores.{rebuilt-block, rebuilt-others, length-rebuilt, rebuild-accepted, lost_data_lem, guards-fitting}
use Rattle.stripe.proofs.Seals.{length-sealed, block_of_sealed}
use Rattle.stripe.proofs.Sealed.{sealed-good, sealed_data_lem, sealed-parity, sealed-guard, sealed-settled}

module _ (a : Array) (stripe member : ℕ) (content bytes : List ℕ) (sound : SoundStripe a stripe) (whole : length content ≡ (format_at a).data_length * data_members a)
    (small : a.volume < 256) (here : member < a.members) (long : length bytes ≡ stripe_length a)
    (others-sealed : (k : ℕ) → k < a.members → k ≢ member → block_of (format_at a) bytes k ≡ block_of (format_at a) (sealed a stripe content) k) where
  place : owner_refusal a stripe member ≡ 0
  place = sound_place a stripe member (record { stripe = sound; here = here })

  sealed-long : length (sealed a stripe content) ≡ stripe_length a
  sealed-long = length-sealed a stripe content sound whole

  every_good : (k : ℕ) → k < a.members → good a stripe k (block_of (format_at a) (sealed a stripe content) k) ≡ true
  every_good = sealed-good a stripe content sound whole small

  pub sealed_rebuilds : rebuild_refusal a stripe member bytes ≡ 0
  sealed_rebuilds =
      let before = sealed a stripe content in
      rebuild-accepted a stripe member before bytes place sealed-long long others-sealed (λ k h ne. every_good k h)
      (guards-fitting a stripe member before bytes place sealed-long long others-sealed (λ k h ne. every_good k h)
      (sealed-parity a stripe content sound whole) (sealed-settled a stripe content sound whole small) (every_good member here))

  -- the others' guards leave what is carried
  carried_again : carried a stripe member ≡ true → others_guards (format_at a) a.members member bytes ≡ guard_of_parts a content
  carried_again e =
      let F = format_at a in
      let n = a.members in
      let before = sealed a stripe content in
      others-guards_ext F n member bytes before others-sealed
      ∙ others_leave_one F n member before here (sym (left-carried F (stored_guards F n before) (carried-carries a stripe member e)) ∙ sealed-settled a stripe content sound whole small)
      ∙ sealed-guard a stripe content sound whole small member here
      ∙ guard-carried a stripe member (guard_of_parts a content) (guard F (sealed_data a stripe content member)) e

  -- the block that is made is the sealed one
  made_as_sealed : tagged a stripe member (others_guards (format_at a) a.members member bytes) (others_data (format_at a) a.members member bytes) ≡ block_of (format_at a) (sealed a stripe content) member
  made_as_sealed =
      let F = format_at a in
      ap (tagged a stripe member (others_guards F a.members member bytes))
      (lost_data_lem a stripe member (sealed a stripe content) bytes place sealed-long long others-sealed (λ k h ne. every_good k h) (sealed-parity a stripe content sound whole)
      ∙ sealed_data_lem a stripe content sound whole member here)
      ∙ by_case (carried a stripe member) refl
      ∙ sym (block_of_sealed a stripe content sound whole member here)
    where
      by_case : (c : Bool) → carried a stripe member ≡ c
          → tagged a stripe member (others_guards (format_at a) a.members member bytes) (sealed_data a stripe content member) ≡ tagged a stripe member (guard_of_parts a content) (sealed_data a stripe content member)
      by_case true e = ap (λ (g : ℕ). tagged a stripe member g (sealed_data a stripe content member)) (carried_again e)
      by_case false e = tagged-own a stripe member (others_guards (format_at a) a.members member bytes) (guard_of_parts a content) (sealed_data a stripe content member) e

  pub rebuild_of_sealed : rebuild_bytes a stripe member bytes ≡ sealed a stripe content
  rebuild_of_sealed =
      sym (rebuild-done a stripe member bytes sealed_rebuilds)
      ∙ same_blocks (format_at a) a.members (rebuilt a stripe member bytes) (sealed a stripe content) (length-rebuilt a stripe member bytes place long) sealed-long (λ k h. at k h (ℕ_discrete k member))
    where
      at : (k : ℕ) → k < a.members → Dec (k ≡ member) → block_of (format_at a) (rebuilt a stripe member bytes) k ≡ block_of (format_at a) (sealed a stripe content) k
      at k h (yes e) = rw e (rebuilt-block a stripe member bytes place long ∙ made_as_sealed)
      at k h (no ne) = rebuilt-others a stripe member bytes place long k ne ∙ others-sealed k h ne
