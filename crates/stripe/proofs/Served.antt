-- A verified read: what it answers and leaves in the buffer in each case, first of the block at a place, then of a block of the array.
-- The last four laws are what a reader of the array relies on. Assumes nothing.
use mathlib.Core.Path.{◌≡◌, refl, sym, ap, ap₂, ◌∙◌}
use mathlib.Core.Logic.{◌≢◌}
use mathlib.Core.Bool.{Bool, true, false}
use mathlib.Core.List.{List, [], ◌∷◌}
use Prim.Native.Nat.{ℕ, zero, suc, ◌+◌, ◌-◌, ◌*◌, ◌≤◌, ◌<◌}
use native.Mathlib.Omega.{arith}
use borrow.Author.Tests.{eqb-true, eq-eqb, ne_eqb}
use lib.ListN.{length, take, drop}
use lib.Seq.{sets}
use Rattle.layout.specs.Answers.{answer}
use Rattle.layout.specs.Arrays.{block_refusal}
use Rattle.layout.specs.Places.{stripe_of, member_of, place_numbers, owner_refusal}
use Rattle.layout.specs.declared.Array.{Array}
use Rattle.layout.proofs.Bijection.{place-refusal}
use Rattle.format.specs.Formats.{Format, guard}
use Rattle.tag.specs.Blocks.{format_at, data_of}
use Rattle.tag.specs.Tags.{standing_at, is_bad, unchecked, kind_of}
use Rattle.tag.proofs.Cases.{bad_range}
use Rattle.stripe.specs.Tables.{span}
use Rattle.stripe.specs.Stripes.{stripe_length, block_of, others_good, others_data, guards_fit, recoverable}
use Rattle.stripe.specs.Jobs.{unless_refused, stored_good, stored_bad, serve_refusal, served_data, read_refusal, read_numbers, read_out, Reads}
use Rattle.stripe.specs.Steps.{fitting}
use Rattle.tag.proofs.Tagged.{length_data}
use Rattle.stripe.proofs.Rows.{lent-span, length-span}
use Rattle.stripe.proofs.Guards.{data_span}
use Rattle.stripe.proofs.Pieces.{sets-whole}
use Rattle.stripe.proofs.Others.{others_are_good, good_others}

-- ---- a buffer filled whole

-- the data of a block, lent out of its stripe
pub lent_data : (F : Format) (member from size : ℕ) (bytes : List ℕ) → from ≡ F.block_length * member → size ≡ F.data_length
    → take (from + size - from) (drop from bytes) ≡ data_of F (block_of F bytes member)
lent_data F member from size bytes here same = lent-span from size bytes ∙ ap₂ (λ (k n : ℕ). span k n bytes) here same ∙ data_span F bytes member

-- a buffer filled with what a part of a stripe, or a run, holds
pub filled_with_data : (F : Format) (member from size : ℕ) (bytes out left : List ℕ) → from ≡ F.block_length * member → size ≡ F.data_length
    → F.block_length * member + F.block_length ≤ length bytes → length out ≡ F.data_length
    → left ≡ sets out 0 (take (from + size - from) (drop from bytes)) → left ≡ data_of F (block_of F bytes member)
filled_with_data F member from size bytes out left here same h room e =
    e ∙ ap (sets out 0) (lent_data F member from size bytes here same)
    ∙ sets-whole out (data_of F (block_of F bytes member)) (room ∙ sym (length_data F (block_of F bytes member) (length-span (F.block_length * member) F.block_length bytes h)))

-- one member that is not good is enough
pub bad_other : (a : Array) (stripe skip : ℕ) (bytes : List ℕ) (k : ℕ) → k < a.members → k ≢ skip → stored_good a stripe k bytes ≡ false → others_good a stripe skip bytes ≡ false
bad_other a stripe skip bytes k h other bad = by_flag (others_good a stripe skip bytes) refl
  where
    by_flag : (f : Bool) → others_good a stripe skip bytes ≡ f → f ≡ false
    by_flag true e = let good = others_are_good a stripe skip bytes e k h other in cc
    by_flag false e = refl

-- whether a block can be made again, by its two tests
module _ (a : Array) (stripe member : ℕ) (bytes : List ℕ) where
  pub cannot_good : others_good a stripe member bytes ≡ false → recoverable a stripe member bytes ≡ false
  unfolding recoverable
  cannot_good g = rw g

  pub serve_by_fit : others_good a stripe member bytes ≡ true → recoverable a stripe member bytes ≡ fitting a stripe member bytes
  unfolding recoverable
  serve_by_fit g = rw g

-- ---- the block at a place

module _ (a : Array) (stripe member : ℕ) (bytes out : List ℕ) where
  -- the answer of a read there, and what it leaves in the buffer
  abbrev pub Serves : List ℕ → List ℕ → Type 0
  Serves numbers left =
      (numbers ≡ answer (serve_refusal a stripe member bytes (length out)) (kind_of (standing_at a stripe member (block_of (format_at a) bytes member)) ∷ []))
      × (left ≡ unless_refused (serve_refusal a stripe member bytes (length out)) (served_data a stripe member bytes) out)

  serve_refused : (n : ℕ) → serve_refusal a stripe member bytes (length out) ≡ suc n → Serves (0 ∷ suc n ∷ 0 ∷ []) out
  serve_refused n e = (rw e, rw (e, ne_eqb (suc n) 0 (omega arith)))

  pub serve_other_stripe : length bytes ≢ stripe_length a → Serves (0 ∷ 6 ∷ 0 ∷ []) out
  unfolding serve_refusal
  serve_other_stripe h = serve_refused 5 (rw (ne_eqb (length bytes) (stripe_length a) h))

  module _ (long : length bytes ≡ stripe_length a) where
    pub serve_other_out : length out ≢ (format_at a).data_length → Serves (0 ∷ 6 ∷ 0 ∷ []) out
    unfolding serve_refusal
    serve_other_out h = serve_refused 5 (rw (eq-eqb (length bytes) (stripe_length a) long, ne_eqb (length out) (format_at a).data_length h))

    module _ (room : length out ≡ (format_at a).data_length) where
      -- a block that is not bad is served as it stands
      pub serve_stored : (left : List ℕ) (how : ℕ) → standing_at a stripe member (block_of (format_at a) bytes member) ≡ how → is_bad how ≡ false
          → left ≡ data_of (format_at a) (block_of (format_at a) bytes member) → Serves (1 ∷ 0 ∷ kind_of how ∷ []) left
      unfolding serve_refusal served_data
      serve_stored left how stands fine e =
          let l = eq-eqb (length bytes) (stripe_length a) long in
          let r = eq-eqb (length out) (format_at a).data_length room in
          (rw (l, r, stands, fine), rw (l, r, stands, fine) e)

      module _ (bad : stored_bad a stripe member bytes ≡ true) where
        kind-one : kind_of (standing_at a stripe member (block_of (format_at a) bytes member)) ≡ 1
        kind-one =
            let how = standing_at a stripe member (block_of (format_at a) bytes member) in
            let range = bad_range how bad in
            rw (ne_eqb how 0 (λ z. omega (arith, z, range.0)), ne_eqb how 8 (λ z. omega (arith, z, range.1)))

        pub serve_rebuilt : (left : List ℕ) → recoverable a stripe member bytes ≡ true → left ≡ others_data (format_at a) a.members member bytes → Serves (1 ∷ 0 ∷ 1 ∷ []) left
        unfolding serve_refusal served_data
        serve_rebuilt left good e =
            let l = eq-eqb (length bytes) (stripe_length a) long in
            let r = eq-eqb (length out) (format_at a).data_length room in
            (rw (l, r, bad, good, kind-one), rw (l, r, bad, good) e)

        pub serve_damaged : recoverable a stripe member bytes ≡ false → Serves (0 ∷ 9 ∷ 0 ∷ []) out
        unfolding serve_refusal
        serve_damaged others = serve_refused 8 (rw (eq-eqb (length bytes) (stripe_length a) long, eq-eqb (length out) (format_at a).data_length room, bad, others))

-- ---- from the answer of `place`

-- a refusal in numbers tells the refusal number, and a place the place
pub refused_by_place : (a : Array) (block number : ℕ) → 0 ∷ number ∷ 0 ∷ 0 ∷ [] ≡ place_numbers a block → (block_refusal a block ≡ number) × (number ≢ 0)
unfolding place_numbers
refused_by_place a block number e = by_refusal (block_refusal a block) e
  where
    by_refusal : (n : ℕ) → 0 ∷ number ∷ 0 ∷ 0 ∷ [] ≡ answer n (stripe_of a block ∷ member_of a block ∷ []) → (n ≡ number) × (number ≢ 0)
    by_refusal zero e = let z : ◌≡◌ {A = ℕ} 0 1 = cc in absurd (omega arith)
    by_refusal (suc n) e = let same : number ≡ suc n = cc in (sym same, omega arith)

pub record PlacedAt (a : Array) (block stripe member : ℕ) : Type 0 where
  pub taken : block_refusal a block ≡ 0
  pub in_stripe_lem : stripe ≡ stripe_of a block
  pub on_member : member ≡ member_of a block

pub placed_at : (a : Array) (block stripe member : ℕ) → 1 ∷ 0 ∷ stripe ∷ member ∷ [] ≡ place_numbers a block → PlacedAt a block stripe member
unfolding place_numbers
placed_at a block stripe member e = by_refusal (block_refusal a block) refl e
  where
    by_refusal : (n : ℕ) → block_refusal a block ≡ n → 1 ∷ 0 ∷ stripe ∷ member ∷ [] ≡ answer n (stripe_of a block ∷ member_of a block ∷ []) → PlacedAt a block stripe member
    by_refusal zero r e = record { taken = r; in_stripe_lem = cc; on_member = cc }
    by_refusal (suc n) r e = let z : ◌≡◌ {A = ℕ} 1 0 = cc in absurd (omega arith)

pub placed_sound : (a : Array) (block stripe member : ℕ) → PlacedAt a block stripe member → owner_refusal a stripe member ≡ 0
placed_sound a block stripe member p = ap₂ (owner_refusal a) p.in_stripe_lem p.on_member ∙ place-refusal a block p.taken

-- ---- a block of the array

module _ (a : Array) (block : ℕ) (bytes out : List ℕ) where
  pub read_refused : (number : ℕ) → 0 ∷ number ∷ 0 ∷ 0 ∷ [] ≡ place_numbers a block → Reads a block bytes out (0 ∷ number ∷ 0 ∷ []) out
  unfolding read_refusal read_numbers read_out
  read_refused number e = let h = refused_by_place a block number e in by_number number h.0 h.1
    where
      by_number : (n : ℕ) → block_refusal a block ≡ n → n ≢ 0 → Reads a block bytes out (0 ∷ n ∷ 0 ∷ []) out
      by_number zero r h = absurd (h refl)
      by_number (suc n) r h = (rw r, rw (r, ne_eqb (suc n) 0 h))

  pub read-served : (stripe member : ℕ) (numbers left : List ℕ) → PlacedAt a block stripe member → Serves a stripe member bytes out numbers left → Reads a block bytes out numbers left
  unfolding read_refusal read_numbers read_out
  read-served stripe member numbers left p s =
      let r = p.taken in
      let i = p.in_stripe_lem in
      let m = p.on_member in
      (rw (r, ← m, ← i) s.0, rw (r, ← m, ← i) s.1)

  -- ---- nothing is refused before the block is looked at: stored, unchecked, rebuilt, or refused with the buffer as it was

  module _ (taken : block_refusal a block ≡ 0) (long : length bytes ≡ stripe_length a) (room : length out ≡ (format_at a).data_length) where
    own : PlacedAt a block (stripe_of a block) (member_of a block)
    own = record { taken = taken; in_stripe_lem = refl; on_member = refl }

    -- a good block is served as it is stored, whatever the other members hold
    pub read-stored : stored_good a (stripe_of a block) (member_of a block) bytes ≡ true → Reads a block bytes out (1 ∷ 0 ∷ 0 ∷ []) (data_of (format_at a) (block_of (format_at a) bytes (member_of a block)))
    read-stored good =
        let s = stripe_of a block in
        let m = member_of a block in
        read-served s m (1 ∷ 0 ∷ 0 ∷ []) (data_of (format_at a) (block_of (format_at a) bytes m)) own (serve_stored a s m bytes out long room (data_of (format_at a) (block_of (format_at a) bytes m)) 0 (eqb-true _ 0 good) refl refl)

    -- and so is an unchecked one, which the answer tells
    pub read-unchecked : unchecked a (stripe_of a block) (member_of a block) (block_of (format_at a) bytes (member_of a block)) ≡ true
        → Reads a block bytes out (1 ∷ 0 ∷ 2 ∷ []) (data_of (format_at a) (block_of (format_at a) bytes (member_of a block)))
    read-unchecked marked =
        let s = stripe_of a block in
        let m = member_of a block in
        read-served s m (1 ∷ 0 ∷ 2 ∷ []) (data_of (format_at a) (block_of (format_at a) bytes m)) own (serve_stored a s m bytes out long room (data_of (format_at a) (block_of (format_at a) bytes m)) 8 (eqb-true _ 8 marked) refl refl)

    module _ (bad : stored_bad a (stripe_of a block) (member_of a block) bytes ≡ true) where
      pub read-rebuilt : ((m : ℕ) → m < a.members → m ≢ member_of a block → stored_good a (stripe_of a block) m bytes ≡ true)
          → guards_fit a (stripe_of a block) (member_of a block) bytes (guard (format_at a) (others_data (format_at a) a.members (member_of a block) bytes)) ≡ true
          → Reads a block bytes out (1 ∷ 0 ∷ 1 ∷ []) (others_data (format_at a) a.members (member_of a block) bytes)
      read-rebuilt others fits =
          let s = stripe_of a block in
          let m = member_of a block in
          let made = others_data (format_at a) a.members m bytes in
          read-served s m (1 ∷ 0 ∷ 1 ∷ []) made own (serve_rebuilt a s m bytes out long room bad made (serve_by_fit a s m bytes (good_others a s m bytes others) ∙ fits) refl)

      pub read-damaged : (k : ℕ) → k < a.members → k ≢ member_of a block → stored_good a (stripe_of a block) k bytes ≡ false → Reads a block bytes out (0 ∷ 9 ∷ 0 ∷ []) out
      read-damaged k h other too =
          let s = stripe_of a block in
          let m = member_of a block in
          read-served s m (0 ∷ 9 ∷ 0 ∷ []) out own (serve_damaged a s m bytes out long room bad (cannot_good a s m bytes (bad_other a s m bytes k h other too)))

      -- or where the guards do not fit
      pub read-unfit : ((m : ℕ) → m < a.members → m ≢ member_of a block → stored_good a (stripe_of a block) m bytes ≡ true)
          → guards_fit a (stripe_of a block) (member_of a block) bytes (guard (format_at a) (others_data (format_at a) a.members (member_of a block) bytes)) ≡ false
          → Reads a block bytes out (0 ∷ 9 ∷ 0 ∷ []) out
      read-unfit others unfit =
          let s = stripe_of a block in
          let m = member_of a block in
          read-served s m (0 ∷ 9 ∷ 0 ∷ []) out own (serve_damaged a s m bytes out long room bad (serve_by_fit a s m bytes (good_others a s m bytes others) ∙ unfit))
