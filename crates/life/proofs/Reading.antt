-- A read at any time answers as the ledger says. Assumes nothing.
use mathlib.Core.Path.{◌≡◌, refl, sym, ap, ◌∙◌}
use mathlib.Core.Bool.{Bool, true, false, cond}
use mathlib.Core.List.{List, [], ◌∷◌}
use Prim.Native.Nat.{ℕ, ◌<◌}
use native.Mathlib.Decide.{ℕ_discrete}
use borrow.Author.Tests.{eq-eqb, ne_eqb}
use lib.ListN.{length, get_or}
use Rattle.layout.specs.Arrays.{data_members, block_refusal}
use Rattle.layout.specs.Places.{stripe_of, index_of, member_of}
use Rattle.layout.specs.Ranges.{SoundStripe, SoundBlock}
use Rattle.layout.specs.declared.Array.{Array}
use Rattle.layout.proofs.Ranges.{sound_block}
use Rattle.layout.proofs.Members.{member_below}
use Rattle.layout.proofs.Blocks.{index_in_stripe, block_in_array, block_of_parts}
use Rattle.tag.specs.Blocks.{format_at, data_of}
use Rattle.stripe.specs.Tables.{part}
use Rattle.stripe.specs.Stripes.{block_of}
use Rattle.stripe.specs.Jobs.{sealed, Reads}
use Rattle.stripe.proofs.Tables.{get_or-table}
use Rattle.stripe.proofs.Seals.{length-sealed}
use Rattle.stripe.proofs.Sealed.{sealed-good, sealed-parity, sealed-settled, sealed-block}
use Rattle.stripe.proofs.Served.{read-stored, read-served, serve_other_out}
use Rattle.stripe.proofs.Restores.{read_restores}
use Rattle.life.specs.Ledger.{Standing, is_lost, read_kept}
use Rattle.life.proofs.Stands.{Stands, others-there, lost-alone, there-good}

-- a block of a stripe of the array is one of the array's, and lies on a member
module _ (a : Array) (block : ℕ) (sound : SoundStripe a (stripe_of a block)) where
  pub own_block : SoundBlock a block
  own_block =
      record { array = sound.array; here = rw block_of_parts at (block_in_array a (stripe_of a block) (index_of a block) sound (index_in_stripe a block sound.array)) }

  pub own_below : member_of a block < a.members
  own_below = member_below a (stripe_of a block) (index_of a block) (index_in_stripe a block sound.array)

module _ (a : Array) (block : ℕ) (sound : SoundStripe a (stripe_of a block)) (small : a.volume < 256) {contents : List (List ℕ)} {s : Standing} {bytes : List ℕ}
    (st : Stands a (stripe_of a block) contents s bytes) (out : List ℕ) where
  taken : block_refusal a block ≡ 0
  taken = sound_block a block (own_block a block sound)

  -- the sealed stripe holds what is kept
  sealed-kept : data_of (format_at a) (block_of (format_at a) (sealed a (stripe_of a block) st.content) (member_of a block)) ≡ get_or contents (index_of a block) []
  sealed-kept =
      sealed-block a block st.content (own_block a block sound) sound st.content_long
      ∙ sym (ap (λ (l : List (List ℕ)). get_or l (index_of a block) []) st.kept
      ∙ get_or-table (data_members a) (part (format_at a).data_length st.content) [] (index_of a block) (index_in_stripe a block sound.array))

  served : length out ≡ (format_at a).data_length → (f : Bool) → is_lost s (member_of a block) ≡ f
      → Reads a block bytes out (1 ∷ 0 ∷ cond f 1 0 ∷ []) (get_or contents (index_of a block) [])
  served room false e =
      let m = member_of a block in
      let h = own_below a block sound in
      let r = read-stored a block bytes out taken st.long room (there-good a (stripe_of a block) st sound small m h e) in
      (r.0, sym (ap (data_of (format_at a)) (st.there m h e) ∙ sealed-kept) ∙ r.1)
  served room true e =
      let k = stripe_of a block in
      let m = member_of a block in
      let before = sealed a k st.content in
      let r =
      read_restores a block before bytes out taken (length-sealed a k st.content sound st.content_long) st.long room
      (λ j h ne. st.there j h (others-there s m (lost-alone s m e) j ne)) (sealed-good a k st.content sound st.content_long small) (st.lost-bad m e)
      (sealed-parity a k st.content sound st.content_long) (sealed-settled a k st.content sound st.content_long small) in
      (r.0, sym sealed-kept ∙ r.1)

  pub read_as_kept : Reads a block bytes out (read_kept a contents s block out).numbers (read_kept a contents s block out).left
  read_as_kept = by_room (ℕ_discrete (length out) (format_at a).data_length)
    where
      by_room : Dec (length out ≡ (format_at a).data_length) → Reads a block bytes out (read_kept a contents s block out).numbers (read_kept a contents s block out).left
      by_room (yes room) = rw (eq-eqb (length out) (format_at a).data_length room) (served room (is_lost s (member_of a block)) refl)
      by_room (no other) =
          rw (ne_eqb (length out) (format_at a).data_length other)
          (read-served a block bytes out (stripe_of a block) (member_of a block) (0 ∷ 6 ∷ 0 ∷ []) out (record { taken = taken; in_stripe_lem = refl; on_member = refl })
          (serve_other_out a (stripe_of a block) (member_of a block) bytes out st.long other))
