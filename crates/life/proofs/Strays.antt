-- A loss to try lives with: a data member's block under the parity's tag, its guard still that of its data. It checks bad there, and the guards
-- in the stripe's tags are as they were. Assumes nothing.
use mathlib.Core.Path.{◌≡◌, refl, sym, ap, ◌∙◌}
use mathlib.Core.Logic.{◌≢◌}
use mathlib.Core.Bool.{Bool, true, false, cond}
use mathlib.Core.List.{List}
use Prim.Native.Nat.{ℕ, ◌+◌, ◌*◌, ◌<◌}
use native.Mathlib.Decide.{ℕ_discrete}
use native.Mathlib.Omega.{arith}
use borrow.Author.Tests.{eq-eqb, ne_eqb}
use lib.Dec.{eqb}
use lib.ListN.{length}
use Rattle.format.specs.Formats.{guard}
use Rattle.format.proofs.Sizes.{times-next, guard-fits}
use Rattle.layout.specs.Arrays.{data_members}
use Rattle.layout.specs.Places.{parity_member, is_parity, owner_refusal}
use Rattle.layout.specs.Ranges.{SoundStripe}
use Rattle.layout.specs.declared.Array.{Array}
use Rattle.layout.proofs.Ranges.{sound_place}
use Rattle.layout.proofs.Members.{parity-below}
use Rattle.tag.specs.Blocks.{format_at, data_of}
use Rattle.tag.specs.Tags.{carried, guard_due, reference_due, found_in, is_bad, bad, tagged}
use Rattle.tag.proofs.Guards.{own_data, guard-carried, guard-own}
use Rattle.tag.proofs.Tagged.{length-tagged, guard_of_tagged, tagged-good}
use Rattle.tag.proofs.Elsewhere.{other_kind}
use Rattle.stripe.specs.Stripes.{block_of, stored_guard, stored_guards}
use Rattle.stripe.specs.Jobs.{with_block, guard_of_parts, sealed_data, sealed}
use Rattle.stripe.proofs.Tables.{table_ext}
use Rattle.stripe.proofs.Blocks.{block_written, block-kept}
use Rattle.stripe.proofs.Seals.{length-sealed}
use Rattle.stripe.proofs.Sealed.{sealed-guard}

abbrev pub stray : Array → ℕ → List ℕ → List ℕ
stray a stripe content = tagged a stripe (parity_member a stripe) (guard (format_at a) content) content

-- a fault of the application tag is enough
marked_bad : (how : ℕ) (g r : Bool) → how ≡ cond g 0 4 + 2 + cond r 0 1 → is_bad how ≡ true
marked_bad how true true e = ap is_bad e
marked_bad how true false e = ap is_bad e
marked_bad how false true e = ap is_bad e
marked_bad how false false e = ap is_bad e

module _ (a : Array) (stripe : ℕ) (sound : SoundStripe a stripe) (small : a.volume < 256) (content : List ℕ) (size : length content ≡ (format_at a).data_length) where
  abbrev parity : ℕ
  parity = parity_member a stripe

  parity-place : owner_refusal a stripe parity ≡ 0
  parity-place = sound_place a stripe parity (record { stripe = sound; here = parity-below a stripe (omega (arith, sound.array.few)) })

  pub length-stray : length (stray a stripe content) ≡ (format_at a).block_length
  length-stray = length-tagged a stripe parity (guard (format_at a) content) content size

  pub stray-bad : (m : ℕ) → m ≢ parity → bad a stripe m (stray a stripe content) ≡ true
  stray-bad m apart =
      let block = stray a stripe content in
      let stored = (found_in a block).guard in
      let due-there = guard_due a stripe m stored (guard (format_at a) (data_of (format_at a) block)) in
      marked_bad _ (eqb stored due-there) (eqb (reference_due a stripe parity) (reference_due a stripe m))
      (other_kind a stripe parity stripe m block (tagged-good a stripe parity (guard (format_at a) content) content size parity-place small) kinds)
    where
      kinds : is_parity a stripe parity ≢ is_parity a stripe m
      kinds e = let z : true ≡ false = sym (eq-eqb parity parity refl) ∙ e ∙ ne_eqb m parity apart in let o : ◌≡◌ {A = ℕ} 0 1 = cc in omega arith

  pub stray-guard : stored_guard (format_at a) (stray a stripe content) ≡ guard (format_at a) content
  stray-guard =
      let g = guard (format_at a) content in
      guard_of_tagged a stripe parity g content size parity-place small (rw (alike (carried a stripe parity) refl) (guard-fits (format_at a) content)) ∙ alike (carried a stripe parity) refl
    where
      alike : (c : Bool) → carried a stripe parity ≡ c → guard_due a stripe parity (guard (format_at a) content) (guard (format_at a) content) ≡ guard (format_at a) content
      alike true e = guard-carried a stripe parity (guard (format_at a) content) (guard (format_at a) content) e
      alike false e = guard-own a stripe parity (guard (format_at a) content) (guard (format_at a) content) e

-- a sealed stripe with a data member's block so lost: the guards in the tags are those of the sealed one
pub stray-guards : (a : Array) (stripe m : ℕ) (content : List ℕ) → SoundStripe a stripe → a.volume < 256 → length content ≡ (format_at a).data_length * data_members a
    → m < a.members → m ≢ parity_member a stripe → length (sealed_data a stripe content m) ≡ (format_at a).data_length
    → stored_guards (format_at a) a.members (with_block (format_at a) (sealed a stripe content) m (stray a stripe (sealed_data a stripe content m)))
    ≡ stored_guards (format_at a) a.members (sealed a stripe content)
stray-guards a stripe m content sound small long here apart size =
    table_ext a.members (λ k. stored_guard (format_at a) (block_of (format_at a) (with_block (format_at a) before m lost) k)) (λ k. stored_guard (format_at a) (block_of (format_at a) before k)) (λ k h. at k (ℕ_discrete k m))
  where
    before : List ℕ
    before = sealed a stripe content

    lost : List ℕ
    lost = stray a stripe (sealed_data a stripe content m)

    lost-long : length lost ≡ (format_at a).block_length
    lost-long = length-stray a stripe sound small (sealed_data a stripe content m) size

    at : (k : ℕ) → Dec (k ≡ m) → stored_guard (format_at a) (block_of (format_at a) (with_block (format_at a) before m lost) k) ≡ stored_guard (format_at a) (block_of (format_at a) before k)
    at k (no ne) = ap (stored_guard (format_at a)) (block-kept (format_at a) before m k lost lost-long ne)
    at k (yes e) =
        rw e
        (ap (stored_guard (format_at a)) (block_written (format_at a) before m lost lost-long (omega (arith, length-sealed a stripe content sound long, times-next (format_at a).block_length m a.members here)))
        ∙ stray-guard a stripe sound small (sealed_data a stripe content m) size
        ∙ sym (sealed-guard a stripe content sound long small m here
        ∙ guard-own a stripe m (guard_of_parts a content) (guard (format_at a) (sealed_data a stripe content m)) (own_data a stripe m apart)))
