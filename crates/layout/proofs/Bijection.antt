-- Blocks and places: there and back, both ways. Every place of a stripe is its parity's or exactly one block's, and what lies at a place
-- tells the place. Assumes nothing.
use Rattle.std.proofs.Common.{◌≡◌, ℕ, ◌+◌, ◌%◌, ◌<◌, ◌≤◌, Bool, true, false, cond, eqb, ◌≢◌, ◌⊎◌, ◌↔◌, [], ◌∷◌, sym, ap, ◌∙◌, inl, inr, eq-eqb, ne_eqb}
use native.Mathlib.Decide.{ℕ_discrete}
use Rattle.layout.specs.Arrays.{data_members, block_count, block_refusal}
use Rattle.layout.specs.Places.{parity_member, lowest_block, block_at, index_beside, stripe_of, index_of, index_at, member_of, is_parity, block_named, place_numbers, owner_refusal, owner_numbers, OneBlock, Held}
use Rattle.layout.specs.Ranges.{Sound, SoundBlock}
use Rattle.layout.specs.declared.Array.{Array}
use Rattle.layout.proofs.Ranges.{block_sound, sound_block, place_sound, sound_place}
use Rattle.layout.proofs.Members.{member_below, member_not-parity, index_of_member, member_of_index, index_below}
use Rattle.layout.proofs.Blocks.{stripe_of_block, index_of_block, block_of_parts, index_in_stripe, stripe_in_array, block_in_array, lowest_sound, stripe_by_lowest, row_parity, row_lowest, row_block}
use Rattle.layout.proofs.Numbers.{place-numbers, owner_of_parity, owner_of_data, owner_by_name}

module _ (a : Array) where
  -- the block numbers that the stripes hold are exactly 0 .. S x d - 1
  pub held_exactly : Sound a → (block : ℕ) → (block < block_count a) ↔ Held a block
  held_exactly h block = (
    λ l. record {
      stripe = stripe_of a block;
      index = index_of a block;
      in_array = stripe_in_array a block (record { array = h; here = l });
      of_data = index_in_stripe a block h;
      this = block_of_parts a block;
    },
    λ w. rw w.this at (block_in_array a w.stripe w.index (record { array = h; here = w.in_array }) w.of_data),
  )

  -- ---- there and back

  -- a block's place is a place of the array, and not the parity's
  pub place-refusal : (block : ℕ) → block_refusal a block ≡ 0 → owner_refusal a (stripe_of a block) (member_of a block) ≡ 0
  place-refusal block e =
      let b = block_sound a block e in
      let s = stripe_of a block in
      sound_place a s (member_of a block)
      (record {
        stripe = record { array = b.array; here = stripe_in_array a block b };
        here = member_below a s (index_of a block) (index_in_stripe a block b.array);
      })

  pub parity_no_block : (block : ℕ) → member_of a block ≢ parity_member a (stripe_of a block)
  parity_no_block block = member_not-parity a (stripe_of a block) (index_of a block)

  -- the block that a block's place gives is that block
  pub block_of_place : (block : ℕ) → block_at a (stripe_of a block) (index_at a (stripe_of a block) (member_of a block)) ≡ block
  block_of_place block = rw (index_of_member a (stripe_of a block) (index_of a block)) (block_of_parts a block)

  pub owner_of_place : (block : ℕ) → block_refusal a block ≡ 0 → owner_numbers a (stripe_of a block) (member_of a block) ≡ 1 ∷ 0 ∷ 0 ∷ block ∷ []
  owner_of_place block e =
      owner_of_data a (stripe_of a block) (member_of a block) (place-refusal block e) (parity_no_block block)
      ∙ ap (λ (b : ℕ). 1 ∷ 0 ∷ 0 ∷ b ∷ []) (block_of_place block)

  -- ---- back and there

  module _ (stripe member : ℕ) (good : owner_refusal a stripe member ≡ 0) (other : member ≢ parity_member a stripe) where
    index-good : index_at a stripe member < data_members a
    index-good = index_below a stripe member (place_sound a stripe member good).here other

    row_good : 1 ≤ a.row
    row_good = (place_sound a stripe member good).stripe.array.row_some

    pub owned_sound : SoundBlock a (block_at a stripe (index_at a stripe member))
    owned_sound =
        let s = (place_sound a stripe member good).stripe in
        record { array = s.array; here = block_in_array a stripe (index_at a stripe member) s index-good }

    pub owned_refusal : block_refusal a (block_at a stripe (index_at a stripe member)) ≡ 0
    owned_refusal = sound_block a (block_at a stripe (index_at a stripe member)) owned_sound

    pub stripe_of_owned : stripe_of a (block_at a stripe (index_at a stripe member)) ≡ stripe
    stripe_of_owned = stripe_of_block a stripe (index_at a stripe member) row_good index-good

    pub member_of_owned : member_of a (block_at a stripe (index_at a stripe member)) ≡ member
    member_of_owned = rw (stripe_of_owned, index_of_block a stripe (index_at a stripe member) row_good index-good) (member_of_index a stripe member other)

    pub place_of_owner : place_numbers a (block_at a stripe (index_at a stripe member)) ≡ 1 ∷ 0 ∷ stripe ∷ member ∷ []
    place_of_owner = rw (place-numbers a (block_at a stripe (index_at a stripe member)) owned_refusal, member_of_owned, stripe_of_owned)

  -- ---- what lies at a place tells the place, and the place of a block tells the block

  pub block_by_place : (block other : ℕ) → stripe_of a block ≡ stripe_of a other → member_of a block ≡ member_of a other → block ≡ other
  block_by_place block other s m = cc (block_of_place block, block_of_place other)

  pub place_injective : (block other : ℕ) → block_refusal a block ≡ 0 → block_refusal a other ≡ 0 →
      place_numbers a block ≡ place_numbers a other → block ≡ other
  place_injective block other e f same =
      let h = sym (place-numbers a block e) ∙ same ∙ place-numbers a other f in
      block_by_place block other (cc) (cc)

  pub place_filled : (stripe member : ℕ) → owner_refusal a stripe member ≡ 0 → (member ≡ parity_member a stripe) ⊎ OneBlock a stripe member
  place_filled stripe member e = by_kind (ℕ_discrete member (parity_member a stripe))
    where
      by_kind : Dec (member ≡ parity_member a stripe) → (member ≡ parity_member a stripe) ⊎ OneBlock a stripe member
      by_kind (yes p) = inl p
      by_kind (no o) =
          let s = stripe_of_owned stripe member e o in
          let m = member_of_owned stripe member e o in
          let b = block_at a stripe (index_at a stripe member) in
          inr (record {
            block = b;
            good = owned_refusal stripe member e o;
            in_stripe_lem = s;
            on_member = m;
            only = λ other t k. block_by_place other b (t ∙ sym s) (k ∙ sym m);
          })

  pub owner_injective : (stripe member stripe' member' : ℕ) → owner_refusal a stripe member ≡ 0 → owner_refusal a stripe' member' ≡ 0 →
      owner_numbers a stripe member ≡ owner_numbers a stripe' member' → (stripe ≡ stripe') × (member ≡ member')
  owner_injective s m t k e f same = by_kind (ℕ_discrete m (parity_member a s)) (ℕ_discrete k (parity_member a t))
    where
      by_kind : Dec (m ≡ parity_member a s) → Dec (k ≡ parity_member a t) → (s ≡ t) × (m ≡ k)
      by_kind (yes p) (yes q) =
          let h = sym (owner_of_parity a s m e p) ∙ same ∙ owner_of_parity a t k f q in
          let st : s ≡ t = stripe_by_lowest a s t (place_sound a s m e).stripe.array (cc) in
          (st, (cc))
      by_kind (yes p) (no q) = let h = sym (owner_of_parity a s m e p) ∙ same ∙ owner_of_data a t k f q in ((cc), (cc))
      by_kind (no p) (yes q) = let h = sym (owner_of_data a s m e p) ∙ same ∙ owner_of_parity a t k f q in ((cc), (cc))
      by_kind (no p) (no q) =
          let h = sym (owner_of_data a s m e p) ∙ same ∙ owner_of_data a t k f q in
          let b : block_at a s (index_at a s m) ≡ block_at a t (index_at a t k) = cc in (
            sym (stripe_of_owned s m e p) ∙ ap (stripe_of a) b ∙ stripe_of_owned t k f q,
            sym (member_of_owned s m e p) ∙ ap (member_of a) b ∙ member_of_owned t k f q,
          )

  -- the block that a place is named by is one of the array; with the kind of the place it tells the place
  pub named_sound : (stripe member : ℕ) → owner_refusal a stripe member ≡ 0 → SoundBlock a (block_named a stripe member)
  unfolding block_named
  named_sound stripe member e = by_kind (ℕ_discrete member (parity_member a stripe))
    where
      by_kind : Dec (member ≡ parity_member a stripe) → SoundBlock a (block_named a stripe member)
      by_kind (yes p) = rw (eq-eqb member (parity_member a stripe) p) (lowest_sound a stripe (place_sound a stripe member e).stripe)
      by_kind (no o) = rw (ne_eqb member (parity_member a stripe) o) (owned_sound stripe member e o)

  pub named_injective : (stripe member stripe' member' : ℕ) → owner_refusal a stripe member ≡ 0 → owner_refusal a stripe' member' ≡ 0 →
      is_parity a stripe member ≡ is_parity a stripe' member' → block_named a stripe member ≡ block_named a stripe' member' →
      (stripe ≡ stripe') × (member ≡ member')
  named_injective s m t k e f kind name =
      owner_injective s m t k e f (rw (owner_by_name a s m e, owner_by_name a t k f, kind, name))

  -- in a row the next stripe holds on every member the next block, and the parity of the next
  pub row_in_order : (stripe k member : ℕ) → stripe % a.row + k < a.row → block_named a (stripe + k) member ≡ block_named a stripe member + k
  unfolding block_named index_at
  row_in_order stripe k member h = rw (row_parity a stripe k h) (go (eqb member (parity_member a stripe)))
    where
      index : ℕ
      index = index_beside (parity_member a stripe) member

      go : (t : Bool) → cond t (lowest_block a (stripe + k)) (block_at a (stripe + k) index) ≡ cond t (lowest_block a stripe) (block_at a stripe index) + k
      go true = row_lowest a stripe k h
      go false = row_block a stripe k h index
