-- A block's data replaced: what it answers and leaves in the stripe in each case, first of the block at a place, then of a block of the array.
-- Assumes nothing.
use mathlib.Core.Path.{◌≡◌, refl, sym, ap, ap₂, ◌∙◌}
use mathlib.Core.Logic.{◌≢◌}
use mathlib.Core.Bool.{Bool, true, false, not, ◌&&◌}
use mathlib.Core.List.{List}
use Prim.Native.Nat.{ℕ, ◌+◌, ◌*◌, ◌≤◌}
use native.Mathlib.Omega.{arith}
use borrow.Author.Tests.{eq-eqb, ne_eqb, eqb-true}
use lib.Bits.{bit_xor}
use lib.Dec.{eqb}
use lib.ListN.{length}
use lib.Seq.{sets}
use Rattle.xor.specs.Xors.{xors}
use Rattle.xor.proofs.Lists.{length-xors}
use Rattle.layout.specs.Answers.{refuse}
use Rattle.layout.specs.Places.{parity_member, owner_refusal}
use Rattle.layout.specs.declared.Array.{Array}
use Rattle.layout.proofs.Answers.{refuse-none}
use Rattle.layout.proofs.Ranges.{place_sound, sound_place}
use Rattle.layout.proofs.Members.{parity-below}
use Rattle.xor.proofs.Bits.{xor_swap, xor-twice}
use Rattle.format.specs.Formats.{Format, guard, blank}
use Rattle.format.proofs.Laws.{combines}
use Rattle.format.proofs.Sizes.{times-next}
use Rattle.tag.specs.Blocks.{format_at, data_of}
use Rattle.tag.specs.Tags.{guard_due, due, tag_bytes, tagged_by, tagged}
use Rattle.tag.proofs.Cases.{good-guard}
use Rattle.tag.proofs.Guards.{own_data, own_plain, carried-parity, guard-own, guard-carried}
use Rattle.tag.proofs.Tagged.{length_data, length-tagged, tagged_by_lem}
use Rattle.stripe.specs.Stripes.{stripe_length, block_of, stored_guard}
use Rattle.stripe.specs.Jobs.{with_block, stored_good, guards_agree, replace_refusal, replaced}
use Rattle.stripe.specs.Accepted.{Replaceable}
use Rattle.stripe.proofs.Rows.{length-span}
use Rattle.stripe.proofs.Blocks.{data_then_tag, blocks_swap}

-- the parity's place is one of the array where any member's is
pub parity_sound : (a : Array) (stripe member : ℕ) → owner_refusal a stripe member ≡ 0 → owner_refusal a stripe (parity_member a stripe) ≡ 0
parity_sound a stripe member e =
    let h = place_sound a stripe member e in
    sound_place a stripe (parity_member a stripe) (record { stripe = h.stripe; here = parity-below a stripe (omega arith) })

-- ---- the refusal number of a replacement

module _ (a : Array) (stripe member new : ℕ) (bytes : List ℕ) where
  pub replace_other_stripe : length bytes ≢ stripe_length a → 6 ≡ replace_refusal a stripe member new bytes
  unfolding replace_refusal
  replace_other_stripe h = rw (ne_eqb (length bytes) (stripe_length a) h)

  module _ (long : length bytes ≡ stripe_length a) where
    pub replace_other_data : new ≢ (format_at a).data_length → 6 ≡ replace_refusal a stripe member new bytes
    unfolding replace_refusal
    replace_other_data h = rw (eq-eqb (length bytes) (stripe_length a) long, ne_eqb new (format_at a).data_length h)

    module _ (size : new ≡ (format_at a).data_length) where
      replace_by_flags : (f g h : Bool) → stored_good a stripe member bytes ≡ f → stored_good a stripe (parity_member a stripe) bytes ≡ g → guards_agree a bytes ≡ h
          → refuse (not (f && g)) 9 (refuse (not h) 9 0) ≡ replace_refusal a stripe member new bytes
      unfolding replace_refusal
      replace_by_flags f g h own parity agree = rw (eq-eqb (length bytes) (stripe_length a) long, eq-eqb new (format_at a).data_length size, own, parity, agree)

      pub replace_bad : stored_good a stripe member bytes ≡ false → 9 ≡ replace_refusal a stripe member new bytes
      replace_bad h = replace_by_flags false (stored_good a stripe (parity_member a stripe) bytes) (guards_agree a bytes) h refl refl

      pub replace_bad-parity : stored_good a stripe member bytes ≡ true → stored_good a stripe (parity_member a stripe) bytes ≡ false → 9 ≡ replace_refusal a stripe member new bytes
      replace_bad-parity h p = replace_by_flags true false (guards_agree a bytes) h p refl

      module _ (own : stored_good a stripe member bytes ≡ true) (parity : stored_good a stripe (parity_member a stripe) bytes ≡ true) where
        pub replace_unsettled : guards_agree a bytes ≡ false → 9 ≡ replace_refusal a stripe member new bytes
        replace_unsettled h = replace_by_flags true true false own parity h

        pub replace_taken : guards_agree a bytes ≡ true → 0 ≡ replace_refusal a stripe member new bytes
        replace_taken h = replace_by_flags true true true own parity h

      -- whatever else stands in the way, guards that do not agree do
      pub replace_never : guards_agree a bytes ≡ false → 9 ≡ replace_refusal a stripe member new bytes
      replace_never h =
          by_flags (stored_good a stripe member bytes) (stored_good a stripe (parity_member a stripe) bytes)
          ∙ replace_by_flags (stored_good a stripe member bytes) (stored_good a stripe (parity_member a stripe) bytes) false refl refl h
        where
          by_flags : (f g : Bool) → 9 ≡ refuse (not (f && g)) 9 9
          by_flags true true = refl
          by_flags true false = refl
          by_flags false g = refl

  -- and back: nothing is refused
  pub replaceable : replace_refusal a stripe member new bytes ≡ 0 → Replaceable a stripe member new bytes
  unfolding replace_refusal
  replaceable e =
      let lengths = eqb (length bytes) (stripe_length a) && eqb new (format_at a).data_length in
      let flags = stored_good a stripe member bytes && stored_good a stripe (parity_member a stripe) bytes in
      let h = refuse-none lengths 5 (refuse (not flags) 9 (refuse (not (guards_agree a bytes)) 9 0)) e in
      let g = refuse-none flags 8 (refuse (not (guards_agree a bytes)) 9 0) h.1 in
      let l = both (eqb (length bytes) (stripe_length a)) (eqb new (format_at a).data_length) h.0 in
      let f = both (stored_good a stripe member bytes) (stored_good a stripe (parity_member a stripe) bytes) g.0 in
      record {
        long = eqb-true (length bytes) (stripe_length a) l.0;
        size = eqb-true new (format_at a).data_length l.1;
        own-good = f.0;
        parity-good = f.1;
        agree = (refuse-none (guards_agree a bytes) 8 0 g.1).0;
      }
    where
      both : (s t : Bool) → (s && t) ≡ true → (s ≡ true) × (t ≡ true)
      both true t e = (refl, e)
      both false t e = (e, (cc))

  -- both blocks lie in the stripe
  pub record Inside : Type 0 where
    pub size : new ≡ (format_at a).data_length
    pub own : (format_at a).block_length * member + (format_at a).block_length ≤ length bytes
    pub parity : (format_at a).block_length * parity_member a stripe + (format_at a).block_length ≤ length bytes

  inside-whole : owner_refusal a stripe member ≡ 0 → Replaceable a stripe member new bytes → Inside
  inside-whole place r =
      let h = place_sound a stripe member place in
      let p = place_sound a stripe (parity_member a stripe) (parity_sound a stripe member place) in
      record {
        size = r.size;
        own = omega (arith, times-next (format_at a).block_length member a.members h.here);
        parity = omega (arith, times-next (format_at a).block_length (parity_member a stripe) a.members p.here);
      }

  pub inside : owner_refusal a stripe member ≡ 0 → replace_refusal a stripe member new bytes ≡ 0 → Inside
  inside place e = inside-whole place (replaceable e)

-- ---- the parity's data, brought along

pub length_moved : (F : Format) (parity : ℕ) (bytes old new : List ℕ) → F.block_length * parity + F.block_length ≤ length bytes
    → length (xors (xors (data_of F (block_of F bytes parity)) old) new) ≡ F.data_length
length_moved F parity bytes old new h =
    length-xors (xors (data_of F (block_of F bytes parity)) old) new ∙ length-xors (data_of F (block_of F bytes parity)) old
    ∙ length_data F (block_of F bytes parity) (length-span (F.block_length * parity) F.block_length bytes h)

-- ---- the block at a place

module _ (a : Array) (stripe member : ℕ) (new bytes : List ℕ) where
  -- the guard that a parity carries afterwards
  abbrev pub moved_guard : ℕ
  moved_guard =
      bit_xor (bit_xor (stored_guard (format_at a) (block_of (format_at a) bytes (parity_member a stripe))) (stored_guard (format_at a) (block_of (format_at a) bytes member)))
      (guard (format_at a) new)

  -- it is also the guard of the parity's data, where parities carry no others': both blocks are good, so their guards are those of their data
  moved_plain : (format_at a).carries ≡ false → Replaceable a stripe member (length new) bytes → owner_refusal a stripe member ≡ 0
      → moved_guard ≡ guard (format_at a) (xors (xors (data_of (format_at a) (block_of (format_at a) bytes (parity_member a stripe))) (data_of (format_at a) (block_of (format_at a) bytes member))) new)
  moved_plain plain r place =
      let F = format_at a in
      let k = parity_member a stripe in
      let there = inside-whole a stripe member (length new) bytes place r in
      let of = data_of F (block_of F bytes k) in
      let own = data_of F (block_of F bytes member) in
      let Long-of = length_data F (block_of F bytes k) (length-span (F.block_length * k) F.block_length bytes there.parity) in
      let long-own = length_data F (block_of F bytes member) (length-span (F.block_length * member) F.block_length bytes there.own) in
      ap₂ (λ (x y : ℕ). bit_xor (bit_xor x y) (guard F new))
      (good-guard a stripe k (block_of F bytes k) (own_plain a stripe k plain) r.parity-good)
      (good-guard a stripe member (block_of F bytes member) (own_plain a stripe member plain) r.own-good)
      ∙ sym
      (combines a.method plain (xors of own) new (length-xors of own ∙ Long-of) r.size
      ∙ ap (λ (x : ℕ). bit_xor (bit_xor x (guard F new)) (blank F)) (combines a.method plain of own Long-of long-own)
      ∙ ap (λ (x : ℕ). bit_xor x (blank F)) (xor_swap (bit_xor (guard F of) (guard F own)) (blank F) (guard F new))
      ∙ xor-twice (bit_xor (bit_xor (guard F of) (guard F own)) (guard F new)) (blank F))

  -- the parity's data and tag are written, then the member's block
  pub replace_done : (parity g h : ℕ) (moved half once twice : List ℕ) → owner_refusal a stripe member ≡ 0 → replace_refusal a stripe member (length new) bytes ≡ 0
      → member ≢ parity_member a stripe → parity ≡ parity_member a stripe
      → moved ≡ xors (xors (data_of (format_at a) (block_of (format_at a) bytes parity)) (data_of (format_at a) (block_of (format_at a) bytes member))) new
      → g ≡ guard (format_at a) new
      → h ≡ bit_xor (bit_xor (stored_guard (format_at a) (block_of (format_at a) bytes parity)) (stored_guard (format_at a) (block_of (format_at a) bytes member))) g
      → half ≡ sets bytes ((format_at a).block_length * parity) moved
      → once ≡ sets half ((format_at a).block_length * parity + (format_at a).data_length) (tag_bytes (format_at a) (due a stripe parity h))
      → twice ≡ with_block (format_at a) once member (tagged_by a stripe member g new)
      → twice ≡ replaced a stripe member new bytes
  unfolding replaced
  replace_done parity g h moved half once twice place e apart p m eg eh e₁ e₂ e₃ =
      let F = format_at a in
      let r = replaceable a stripe member (length new) bytes e in
      let there = inside-whole a stripe member (length new) bytes place r in
      let long : length moved ≡ F.data_length = ap length m ∙ length_moved F parity bytes (data_of F (block_of F bytes member)) new (rw p there.parity) in
      let first : once ≡ with_block F bytes parity (tagged a stripe parity moved_guard moved) =
      data_then_tag a stripe parity h bytes half once moved long e₁ e₂ ∙ ap (with_block F bytes parity) (tagged_by_lem a stripe parity moved_guard h moved (by_case F.carries refl)) in
      let second : twice ≡ with_block F once member (tagged a stripe member moved_guard new) =
      e₃ ∙ ap (with_block F once member) (tagged_by_lem a stripe member moved_guard g new (eg ∙ sym (guard-own a stripe member moved_guard (guard F new) (own_data a stripe member apart)))) in
      let swapped : twice ≡ with_block F (with_block F bytes member (tagged a stripe member moved_guard new)) parity (tagged a stripe parity moved_guard moved) =
      second ∙ ap (λ (l : List ℕ). with_block F l member (tagged a stripe member moved_guard new)) first
      ∙ blocks_swap F bytes parity member (tagged a stripe parity moved_guard moved) (tagged a stripe member moved_guard new)
      (length-tagged a stripe parity moved_guard moved long) (length-tagged a stripe member moved_guard new r.size) (λ q. apart (sym q ∙ p)) in
      rw (swapped, m, p)
    where
      combined : h ≡ moved_guard
      combined =
          eh ∙ ap₂ (λ (k x : ℕ). bit_xor (bit_xor (stored_guard (format_at a) (block_of (format_at a) bytes k)) (stored_guard (format_at a) (block_of (format_at a) bytes member))) x) p eg

      by_case : (c : Bool) → (format_at a).carries ≡ c → h ≡ guard_due a stripe parity moved_guard (guard (format_at a) moved)
      by_case true c = combined ∙ sym (guard-carried a stripe parity moved_guard (guard (format_at a) moved) (carried-parity a stripe parity c p))
      by_case false c =
          combined ∙ moved_plain c (replaceable a stripe member (length new) bytes e) place
          ∙ ap (guard (format_at a)) (ap (λ (k : ℕ). xors (xors (data_of (format_at a) (block_of (format_at a) bytes k)) (data_of (format_at a) (block_of (format_at a) bytes member))) new) (sym p) ∙ sym m)
          ∙ sym (guard-own a stripe parity moved_guard (guard (format_at a) moved) (own_plain a stripe parity c))
