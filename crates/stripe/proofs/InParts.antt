-- An update cut after some of its two stores: what it leaves at a place, and in its stripe; and the lowest data member that is not good.
-- Assumes nothing.
use mathlib.Core.Path.{◌≡◌, refl, sym, ap, ap₂, ◌∙◌}
use mathlib.Core.Logic.{◌≢◌}
use mathlib.Core.Bool.{Bool, true, false, not, cond}
use mathlib.Core.List.{List, [], ◌∷◌}
use Prim.Native.Nat.{ℕ, zero, suc, ◌*◌, ◌≤◌, ◌<◌}
use native.Mathlib.Decide.{ℕ_discrete}
use native.Mathlib.Omega.{arith}
use borrow.Author.Tests.{eq-eqb, ne_eqb}
use lib.Dec.{eqb}
use lib.ListN.{length, get_or}
use lib.Seq.{length-sets}
use Rattle.layout.specs.Arrays.{block_refusal}
use Rattle.layout.specs.Places.{parity_member, stripe_of, member_of, place_numbers}
use Rattle.layout.specs.declared.Array.{Array}
use Rattle.layout.proofs.Bijection.{place-refusal, parity_no_block}
use Rattle.layout.proofs.Ranges.{place_sound}
use Rattle.format.specs.Formats.{guard}
use Rattle.format.proofs.Sizes.{times-next}
use Rattle.tag.specs.Blocks.{format_at}
use Rattle.tag.proofs.Guards.{own_data, guard-own}
use Rattle.tag.proofs.Tagged.{length-tagged, tagged_by_lem}
use Rattle.verdict.specs.Verdicts.{count, lowest}
use Rattle.verdict.proofs.Flags.{count_none, lowest-first}
use Rattle.stripe.specs.Tables.{table}
use Rattle.stripe.specs.Stripes.{block_of, others_good}
use Rattle.stripe.specs.Jobs.{unless_refused, with_block, stored_good, replace_refusal, replaced, update_refusal, update_bytes}
use Rattle.stripe.specs.Verdicts.{scrub_refusal, FirstMember}
use Rattle.stripe.specs.InPart.{part_bytes, amiss, first_amiss}
use Rattle.stripe.specs.Steps.{own_written, replaced_in_part}
use Rattle.stripe.proofs.Tables.{length-table, get_or-table}
use Rattle.stripe.proofs.Blocks.{block_written, block-kept}
use Rattle.stripe.proofs.Others.{good_others}
use Rattle.stripe.proofs.Served.{refused_by_place, PlacedAt}
use Rattle.stripe.proofs.Updates.{replaceable, moved_guard}
use Rattle.stripe.proofs.Updated.{refusals, as_replaced, update-own, update_keeps_others, update_keeps_length}

-- ---- at a place

module _ (a : Array) (stripe member : ℕ) (new bytes : List ℕ) where
  abbrev pub refusal_there : ℕ
  refusal_there = replace_refusal a stripe member (length new) bytes

  -- the refusal number, and what the first so many stores leave
  abbrev pub PartReplaces : ℕ → ℕ → List ℕ → Type 0
  PartReplaces stores number left = (number ≡ refusal_there) × (left ≡ unless_refused refusal_there (replaced_in_part a stripe member new bytes stores) bytes)

  pub part_refused-there : (stores number : ℕ) → number ≡ refusal_there → number ≢ 0 → PartReplaces stores number bytes
  part_refused-there stores number e h = (e, rw (← e, ne_eqb number 0 h))

  pub part_taken : (stores : ℕ) (left : List ℕ) → 0 ≡ refusal_there → left ≡ replaced_in_part a stripe member new bytes stores → PartReplaces stores 0 left
  part_taken stores left e h = (e, rw (← e) h)

  pub part_none : (stores : ℕ) → stores ≡ 0 → bytes ≡ replaced_in_part a stripe member new bytes stores
  unfolding replaced_in_part
  part_none stores e = rw (eq-eqb stores 0 e)

  pub part-own : (stores : ℕ) → stores ≡ 1 → own_written a stripe member new bytes ≡ replaced_in_part a stripe member new bytes stores
  unfolding replaced_in_part
  part-own stores e = rw (ne_eqb stores 0 (omega arith), eq-eqb stores 1 e)

  pub part-all : (stores : ℕ) → stores ≢ 0 → stores ≢ 1 → replaced a stripe member new bytes ≡ replaced_in_part a stripe member new bytes stores
  unfolding replaced_in_part
  part-all stores n m = rw (ne_eqb stores 0 n, ne_eqb stores 1 m)

-- ---- of a block of the array

-- both stores are the whole update
pub part-whole : (a : Array) (block : ℕ) (new bytes : List ℕ) → part_bytes a block new bytes 2 ≡ update_bytes a block new bytes
unfolding part_bytes update_bytes
part-whole a block new bytes = either (eqb (update_refusal a block (length new) bytes) 0) (replaced a (stripe_of a block) (member_of a block) new bytes)
  where
    either : (t : Bool) (x : List ℕ) → cond t (cond t x bytes) bytes ≡ cond t x bytes
    either true x = refl
    either false x = refl

module _ (a : Array) (block : ℕ) (new bytes : List ℕ) (stores : ℕ) where
  abbrev pub PartUpdates : ℕ → List ℕ → Type 0
  PartUpdates number left = (number ≡ update_refusal a block (length new) bytes) × (left ≡ part_bytes a block new bytes stores)

  pub part_refused : update_refusal a block (length new) bytes ≢ 0 → part_bytes a block new bytes stores ≡ bytes
  unfolding part_bytes
  part_refused h = rw (ne_eqb (update_refusal a block (length new) bytes) 0 h)

  pub part_by_place : (number : ℕ) → 0 ∷ number ∷ 0 ∷ 0 ∷ [] ≡ place_numbers a block → PartUpdates number bytes
  unfolding update_refusal
  part_by_place number e = let h = refused_by_place a block number e in by_number number h.0 h.1
    where
      by_number : (n : ℕ) → block_refusal a block ≡ n → n ≢ 0 → PartUpdates n bytes
      by_number zero r h = absurd (h refl)
      by_number (suc n) r h = let is : update_refusal a block (length new) bytes ≡ suc n = rw r in (sym is, sym (part_refused (λ z. h (sym is ∙ z))))

  module _ (done : update_refusal a block (length new) bytes ≡ 0) where
    abbrev own : ℕ
    own = member_of a block

    abbrev new_block : List ℕ
    new_block = block_of (format_at a) (update_bytes a block new bytes) own

    -- the block by itself is the one of the whole update
    own_alone : own_written a (stripe_of a block) own new bytes ≡ with_block (format_at a) bytes own new_block
    own_alone =
        let s = stripe_of a block in
        let F = format_at a in
        let G = moved_guard a s own new bytes in
        ap (with_block F bytes own)
        (tagged_by_lem a s own G (guard F new) new (sym (guard-own a s own G (guard F new) (own_data a s own (parity_no_block a block)))) ∙ sym (update-own a block new bytes done))

    part-accepted : part_bytes a block new bytes stores
        ≡ cond (eqb stores 0) bytes (cond (eqb stores 1) (with_block (format_at a) bytes own new_block) (update_bytes a block new bytes))
    unfolding part_bytes
    part-accepted = rw (eq-eqb (update_refusal a block (length new) bytes) 0 done)

    in_part : replaced_in_part a (stripe_of a block) own new bytes stores ≡ part_bytes a block new bytes stores
    unfolding replaced_in_part
    in_part =
        ap₂ (λ (x y : List ℕ). cond (eqb stores 0) bytes (cond (eqb stores 1) x y)) own_alone (sym (as_replaced a block new bytes done)) ∙ sym part-accepted

    pub part_of_none : stores ≡ 0 → part_bytes a block new bytes stores ≡ bytes
    part_of_none e = part-accepted ∙ rw (eq-eqb stores 0 e) refl

    pub part_of_one : stores ≡ 1 → part_bytes a block new bytes stores ≡ with_block (format_at a) bytes own new_block
    part_of_one e = part-accepted ∙ rw (ne_eqb stores 0 (omega arith), eq-eqb stores 1 e) refl

    pub part_of_all : 2 ≤ stores → part_bytes a block new bytes stores ≡ update_bytes a block new bytes
    part_of_all h = part-accepted ∙ rw (ne_eqb stores 0 (λ e. omega arith), ne_eqb stores 1 (λ e. omega arith)) refl

  pub part-updated : (stripe member number : ℕ) (left : List ℕ) → PlacedAt a block stripe member → PartReplaces a stripe member new bytes stores number left → PartUpdates number left
  unfolding update_refusal
  part-updated stripe member number left p s =
      let there : refusal_there a (stripe_of a block) (member_of a block) new bytes ≡ update_refusal a block (length new) bytes = rw p.taken in
      let i = p.in_stripe_lem in
      let m = p.on_member in
      let first : number ≡ update_refusal a block (length new) bytes = rw (← there, ← m, ← i) s.0 in
      let second : left ≡ unless_refused (refusal_there a (stripe_of a block) (member_of a block) new bytes) (replaced_in_part a (stripe_of a block) (member_of a block) new bytes stores) bytes =
      rw (← m, ← i) s.1 in
      (first, second ∙ ap (λ (n : ℕ). unless_refused n (replaced_in_part a (stripe_of a block) (member_of a block) new bytes stores) bytes) there ∙ by_number (ℕ_discrete (update_refusal a block (length new) bytes) 0))
    where
      by_number : Dec (update_refusal a block (length new) bytes ≡ 0)
          → unless_refused (update_refusal a block (length new) bytes) (replaced_in_part a (stripe_of a block) (member_of a block) new bytes stores) bytes ≡ part_bytes a block new bytes stores
      by_number (yes e) = rw (eq-eqb (update_refusal a block (length new) bytes) 0 e) (in_part e)
      by_number (no h) = rw (ne_eqb (update_refusal a block (length new) bytes) 0 h) (sym (part_refused h))

-- ---- a stripe after some of the stores, block by block

length-new-block : (a : Array) (block : ℕ) (new bytes : List ℕ) → update_refusal a block (length new) bytes ≡ 0
    → length (block_of (format_at a) (update_bytes a block new bytes) (member_of a block)) ≡ (format_at a).block_length
length-new-block a block new bytes done =
    let s = stripe_of a block in
    let own = member_of a block in
    ap length (update-own a block new bytes done)
    ∙ length-tagged a s own (moved_guard a s own new bytes) new (replaceable a s own (length new) bytes (refusals a block new bytes done).1).size

module _ (a : Array) (block : ℕ) (new bytes : List ℕ) (done : update_refusal a block (length new) bytes ≡ 0) where
  -- as long as it was; the block as it was or as the update leaves it; and no other data block changed
  pub record Stored (stores : ℕ) (later : List ℕ) : Type 0 where
    pub long : length later ≡ length bytes
    pub own_block : block_of (format_at a) later (member_of a block)
        ≡ cond (eqb stores 0) (block_of (format_at a) bytes (member_of a block)) (block_of (format_at a) (update_bytes a block new bytes) (member_of a block))
    pub other_blocks : (m : ℕ) → m ≢ member_of a block → m ≢ parity_member a (stripe_of a block) → block_of (format_at a) later m ≡ block_of (format_at a) bytes m

  pub stored : (stores : ℕ) → Stored stores (part_bytes a block new bytes stores)
  stored stores = by_stores (ℕ_discrete stores 0) (ℕ_discrete stores 1)
    where
      s : ℕ
      s = stripe_of a block

      own : ℕ
      own = member_of a block

      by_stores : Dec (stores ≡ 0) → Dec (stores ≡ 1) → Stored stores (part_bytes a block new bytes stores)
      by_stores (yes e) d =
          let is = part_of_none a block new bytes stores done e in
          record { long = ap length is; own_block = rw (is, eq-eqb stores 0 e); other_blocks = λ m o p. ap (λ (x : List ℕ). block_of (format_at a) x m) is }
      by_stores (no n) (yes e) =
          let F = format_at a in
          let is = part_of_one a block new bytes stores done e in
          let r = replaceable a s own (length new) bytes (refusals a block new bytes done).1 in
          let here = (place_sound a s own (place-refusal a block (refusals a block new bytes done).0)).here in
          let kept-long = length-new-block a block new bytes done in
          record {
            long = ap length is ∙ length-sets bytes (F.block_length * own) (block_of F (update_bytes a block new bytes) own);
            own_block = rw (is, ne_eqb stores 0 n) (block_written F bytes own (block_of F (update_bytes a block new bytes) own) kept-long (omega (arith, r.long, times-next F.block_length own a.members here)));
            other_blocks = λ m o p. ap (λ (x : List ℕ). block_of F x m) is ∙ block-kept F bytes own m (block_of F (update_bytes a block new bytes) own) kept-long o;
          }
      by_stores (no n) (no k) =
          let is = part_of_all a block new bytes stores done (omega arith) in
          record {
            long = ap length is ∙ update_keeps_length a block new bytes done;
            own_block = rw (is, ne_eqb stores 0 n);
            other_blocks = λ m o p. ap (λ (x : List ℕ). block_of (format_at a) x m) is ∙ update_keeps_others a block new bytes done m o p;
          }

-- ---- the lowest data member that is not good

module _ (a : Array) (stripe : ℕ) (bytes : List ℕ) (taken : scrub_refusal a stripe (length bytes) ≡ 0) where
  abbrev flags : List Bool
  flags = table a.members (amiss a stripe bytes)

  first_is : first_amiss a stripe bytes ≡ lowest flags
  unfolding first_amiss
  first_is = rw (eq-eqb (scrub_refusal a stripe (length bytes)) 0 taken)

  flag_at : (m : ℕ) → m < a.members → get_or flags m false ≡ amiss a stripe bytes m
  flag_at m h = get_or-table a.members (amiss a stripe bytes) false m h

  not-amiss : (m : ℕ) → m ≢ parity_member a stripe → amiss a stripe bytes m ≡ false → stored_good a stripe m bytes ≡ true
  unfolding amiss
  not-amiss m ne e = back (stored_good a stripe m bytes) (rw (ne_eqb m (parity_member a stripe) ne) at e)
    where
      back : (t : Bool) → not t ≡ false → t ≡ true
      back true e = refl
      back false e = cc

  -- it is a data member that is bad or unchecked, and none below it is, where not all data members are good
  pub first-amiss-there : others_good a stripe (parity_member a stripe) bytes ≡ false → FirstMember (amiss a stripe bytes) a.members (first_amiss a stripe bytes)
  first-amiss-there h = by_count (ℕ_discrete (count flags) 0)
    where
      by_count : Dec (count flags ≡ 0) → FirstMember (amiss a stripe bytes) a.members (first_amiss a stripe bytes)
      by_count (yes none) =
          let all-good = good_others a stripe (parity_member a stripe) bytes (λ m l ne. not-amiss m ne (sym (flag_at m l) ∙ count_none flags none m)) in
          let o : true ≡ false = sym all-good ∙ h in let z : ◌≡◌ {A = ℕ} 0 1 = cc in absurd (omega arith)
      by_count (no some) =
          let f = lowest-first flags (omega arith) in
          let inside : lowest flags < a.members = rw length-table at f.inside in
          record {
            inside = rw first_is inside;
            holds = rw first_is (sym (flag_at (lowest flags) inside) ∙ f.holds);
            none_below = λ k l. sym (flag_at k (omega (arith, first_is))) ∙ f.none_below k (rw first_is at l);
          }
