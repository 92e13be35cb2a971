-- A stripe written block by block, and its parity made from the others: together the sealed stripe.
-- Assumes nothing.
use mathlib.Core.Path.{◌≡◌, refl, sym, ap, ap₂, ◌∙◌}
use mathlib.Core.Logic.{◌≢◌}
use mathlib.Core.Bool.{Bool, true, false, not, cond, ◌&&◌}
use mathlib.Core.List.{List, ◌∷◌}
use Prim.Native.Nat.{ℕ, zero, suc, ◌+◌, ◌-◌, ◌*◌, ◌≤◌, ◌<◌}
use native.Mathlib.Nat.{not-suc-le-zero, le_of_suc-le-suc}
use native.Mathlib.Numerals.{add-one}
use native.Mathlib.Decide.{ℕ_discrete, dec_lt}
use native.Mathlib.Omega.{arith}
use borrow.Author.Tests.{eq-eqb, ne_eqb, eqb-true, lt-ltb, le-ltb}
use lib.Dec.{eqb, ltb}
use lib.ListN.{length, take}
use lib.Seq.{length-sets}
use Rattle.xor.specs.Xors.{combination}
use Rattle.xor.proofs.Combination.{length-combination}
use lib.Bits.{bit_xor, xor_zero_r}
use Rattle.format.specs.Formats.{guard, spare, settled, guards_of}
use Rattle.format.proofs.Combined.{settled-carried, settled_plain}
use Rattle.format.proofs.Laws.{combines}
use Rattle.format.proofs.Sizes.{times-next}
use Rattle.layout.specs.Answers.{refuse, after}
use Rattle.layout.specs.Arrays.{data_members, stripe_refusal}
use Rattle.layout.specs.Places.{parity_member, member_at, index_at, is_parity}
use Rattle.layout.specs.Ranges.{SoundStripe}
use Rattle.layout.specs.declared.Array.{Array}
use Rattle.layout.proofs.Answers.{after_refused, refuse-none}
use Rattle.layout.proofs.Members.{parity-below, member_below, member_not-parity, index_of_member, index_below}
use Rattle.tag.specs.Blocks.{format_at, data_of}
use Rattle.tag.specs.Tags.{guard_due, tagged_by, tagged}
use Rattle.tag.proofs.Guards.{carried-parity, own_plain, guard-carried, guard-own}
use Rattle.tag.proofs.Tagged.{tagged_by_lem, length-tagged, data_of_tagged}
use Rattle.verdict.specs.Verdicts.{combined_guards}
use Rattle.stripe.specs.Tables.{table, others, part}
use Rattle.stripe.specs.Stripes.{stripe_length, block_of, others_data}
use Rattle.stripe.specs.Jobs.{with_block, parity_of, guard_of_parts, sealed_data, sealed, seal_refusal, seal_bytes}
use Rattle.stripe.specs.Accepted.{Fitting}
use Rattle.stripe.specs.Steps.{data_block, data_written}
use Rattle.stripe.proofs.Tables.{table_ext}
use Rattle.stripe.proofs.Rows.{length-span}
use Rattle.stripe.proofs.Guards.{first-guards, parts_guard}
use Rattle.stripe.proofs.Blocks.{block_written, block-kept, span-joined, length-joined, same_blocks}

-- ---- all members but the parity's, by data index

step_over : (p i : ℕ) → suc (cond (ltb i p) i (i + 1)) ≡ cond (ltb (suc i) (suc p)) (suc i) (suc i + 1)
step_over p i = go (dec_lt i p)
  where
    go : Dec (i < p) → suc (cond (ltb i p) i (i + 1)) ≡ cond (ltb (suc i) (suc p)) (suc i) (suc i + 1)
    go (yes l) = rw (lt-ltb i p l, lt-ltb (suc i) (suc p) (omega arith))
    go (no l) = let e : suc (i + 1) ≡ suc i + 1 = omega arith in rw (le-ltb i p (omega arith), le-ltb (suc i) (suc p) (omega arith)) e

pub others-table : {A : Type 0} (d p : ℕ) (f : ℕ → A) → p < suc d → others p (table (suc d) f) ≡ table d (λ i. f (cond (ltb i p) i (i + 1)))
others-table d zero f h = table_ext d (λ i. f (suc i)) (λ i. f (cond (ltb i 0) i (i + 1))) (λ i l. ap f (rw (le-ltb i 0 (omega arith), add-one)))
others-table zero (suc p) f h = absurd (omega arith)
others-table {A} (suc d) (suc p) f h =
    let first : 0 ≡ cond (ltb 0 (suc p)) 0 (0 + 1) = rw (lt-ltb 0 (suc p) (omega arith)) in
    ap₂ (λ (x : A) (l : List A). x ∷ l) (ap f first)
    (others-table d p (λ i. f (suc i)) (le_of_suc-le-suc h) ∙ table_ext d (λ i. f (suc (cond (ltb i p) i (i + 1)))) (λ i. f (cond (ltb (suc i) (suc p)) (suc i) (suc i + 1))) (λ i l. ap f (step_over p i)))

-- the blocks below k are written, those from k on are as they were
pub record Written (a : Array) (stripe : ℕ) (content old : List ℕ) (k : ℕ) (bytes : List ℕ) : Type 0 where
  pub same-long : length bytes ≡ length old
  pub below : (m : ℕ) → m < k → block_of (format_at a) bytes m ≡ cond (is_parity a stripe m) (block_of (format_at a) old m) (data_block a stripe content m)
  pub above : (m : ℕ) → k ≤ m → block_of (format_at a) bytes m ≡ block_of (format_at a) old m

module _ (a : Array) (stripe : ℕ) (content : List ℕ) (sound : SoundStripe a stripe) (long : length content ≡ (format_at a).data_length * data_members a) where
  enough : (index : ℕ) → index < data_members a → length (part (format_at a).data_length content index) ≡ (format_at a).data_length
  enough index h = length-span ((format_at a).data_length * index) (format_at a).data_length content (omega (arith, times-next (format_at a).data_length index (data_members a) h))

  pub length_data_block : (m : ℕ) → m < a.members → m ≢ parity_member a stripe → length (data_block a stripe content m) ≡ (format_at a).block_length
  length_data_block m h ne =
      length-tagged a stripe m (guard_of_parts a content) (part (format_at a).data_length content (index_at a stripe m)) (enough (index_at a stripe m) (index_below a stripe m h ne))

  -- all but the parity's, in the order of the data
  others_by_index : {A : Type 0} (f : ℕ → A) → others (parity_member a stripe) (table a.members f) ≡ table (data_members a) (λ i. f (member_at a stripe i))
  unfolding member_at
  others_by_index f =
      let n-is : suc (data_members a) ≡ a.members = omega (arith, sound.array.few) in
      ap (λ (n : ℕ). others (parity_member a stripe) (table n f)) (sym n-is)
      ∙ others-table (data_members a) (parity_member a stripe) f (rw n-is (parity-below a stripe (omega (arith, sound.array.few))))

  -- what every data member has of its part of the data
  pub others_of_parity : {A : Type 0} (f g : ℕ → A) → ((m : ℕ) → m < a.members → m ≢ parity_member a stripe → f m ≡ g (index_at a stripe m))
      → others (parity_member a stripe) (table a.members f) ≡ table (data_members a) g
  others_of_parity f g h =
      others_by_index f
      ∙ table_ext (data_members a) (λ i. f (member_at a stripe i)) g
      (λ i l. h (member_at a stripe i) (member_below a stripe i l) (member_not-parity a stripe i) ∙ ap g (index_of_member a stripe i))

  -- where every data member has its part of the data, the others of the parity combine to the parity
  pub parity_by_data : (bytes : List ℕ) → ((m : ℕ) → m < a.members → m ≢ parity_member a stripe → data_of (format_at a) (block_of (format_at a) bytes m) ≡ part (format_at a).data_length content (index_at a stripe m))
      → others_data (format_at a) a.members (parity_member a stripe) bytes ≡ parity_of a content
  unfolding others_data
  parity_by_data bytes h =
      ap (combination (format_at a).data_length) (others_of_parity (λ m. data_of (format_at a) (block_of (format_at a) bytes m)) (part (format_at a).data_length content) h)

  -- ---- the sealed stripe, block by block

  pub length-sealed_data : (m : ℕ) → m < a.members → length (sealed_data a stripe content m) ≡ (format_at a).data_length
  length-sealed_data m h = go (ℕ_discrete m (parity_member a stripe))
    where
      go : Dec (m ≡ parity_member a stripe) → length (sealed_data a stripe content m) ≡ (format_at a).data_length
      go (yes p) = rw (eq-eqb m (parity_member a stripe) p) (length-combination (format_at a).data_length (table (data_members a) (part (format_at a).data_length content)))
      go (no p) = rw (ne_eqb m (parity_member a stripe) p) (enough (index_at a stripe m) (index_below a stripe m h p))

  length-sealed-block : (m : ℕ) → m < a.members → length (tagged a stripe m (guard_of_parts a content) (sealed_data a stripe content m)) ≡ (format_at a).block_length
  length-sealed-block m h = length-tagged a stripe m (guard_of_parts a content) (sealed_data a stripe content m) (length-sealed_data m h)

  pub length-sealed : length (sealed a stripe content) ≡ stripe_length a
  unfolding sealed
  length-sealed = length-joined (format_at a).block_length a.members (λ m. tagged a stripe m (guard_of_parts a content) (sealed_data a stripe content m)) length-sealed-block

  pub block_of_sealed : (m : ℕ) → m < a.members → block_of (format_at a) (sealed a stripe content) m ≡ tagged a stripe m (guard_of_parts a content) (sealed_data a stripe content m)
  unfolding sealed
  block_of_sealed m h = span-joined (format_at a).block_length a.members (λ m. tagged a stripe m (guard_of_parts a content) (sealed_data a stripe content m)) m length-sealed-block h

  -- ---- the loop over the members

  module _ (old : List ℕ) (room : length old ≡ stripe_length a) where
    pub none_written : Written a stripe content old 0 old
    none_written = record { same-long = refl; below = λ m h. absurd (not-suc-le-zero h); above = λ m h. refl }

    pub one_written : (k : ℕ) (bytes next : List ℕ) → k < a.members → Written a stripe content old k bytes
        → next ≡ cond (is_parity a stripe k) bytes (with_block (format_at a) bytes k (data_block a stripe content k)) → Written a stripe content old (k + 1) next
    one_written k bytes next h w e = go (ℕ_discrete k (parity_member a stripe))
      where
        -- what is left to show: the block at k, and that no other has changed
        from_parts : length next ≡ length old → block_of (format_at a) next k ≡ cond (is_parity a stripe k) (block_of (format_at a) old k) (data_block a stripe content k)
            → ((m : ℕ) → m ≢ k → block_of (format_at a) next m ≡ block_of (format_at a) bytes m) → Written a stripe content old (k + 1) next
        from_parts size mine kept = record { same-long = size; below = λ m l. at m l (ℕ_discrete m k); above = λ m l. kept m (λ q. omega arith) ∙ w.above m (omega arith) }
          where
            at : (m : ℕ) → m < k + 1 → Dec (m ≡ k) → block_of (format_at a) next m ≡ cond (is_parity a stripe m) (block_of (format_at a) old m) (data_block a stripe content m)
            at m l (yes q) = rw q mine
            at m l (no q) = kept m q ∙ w.below m (omega arith)

        go : Dec (k ≡ parity_member a stripe) → Written a stripe content old (k + 1) next
        go (yes p) =
            let same : next ≡ bytes = e ∙ rw (eq-eqb k (parity_member a stripe) p) in
            from_parts (ap length same ∙ w.same-long) (rw (eq-eqb k (parity_member a stripe) p) (ap (λ (l : List ℕ). block_of (format_at a) l k) same ∙ w.above k (omega arith)))
            (λ m q. ap (λ (l : List ℕ). block_of (format_at a) l m) same)
        go (no p) =
            let new = data_block a stripe content k in
            let made : next ≡ with_block (format_at a) bytes k new = e ∙ rw (ne_eqb k (parity_member a stripe) p) in
            let size : length new ≡ (format_at a).block_length = length_data_block k h p in
            from_parts (ap length made ∙ length-sets bytes ((format_at a).block_length * k) new ∙ w.same-long)
            (rw (ne_eqb k (parity_member a stripe) p) (ap (λ (l : List ℕ). block_of (format_at a) l k) made ∙ block_written (format_at a) bytes k new size (omega (arith, w.same-long, times-next (format_at a).block_length k a.members h))))
            (λ m q. ap (λ (l : List ℕ). block_of (format_at a) l m) made ∙ block-kept (format_at a) bytes k m new size q)

    -- a member's block after all of them
    abbrev target : ℕ → List ℕ
    target m = cond (is_parity a stripe m) (block_of (format_at a) old m) (data_block a stripe content m)

    length-target : (m : ℕ) → m < a.members → length (target m) ≡ (format_at a).block_length
    length-target m h = go (ℕ_discrete m (parity_member a stripe))
      where
        go : Dec (m ≡ parity_member a stripe) → length (target m) ≡ (format_at a).block_length
        go (yes p) = rw (eq-eqb m (parity_member a stripe) p) (length-span ((format_at a).block_length * m) (format_at a).block_length old (omega (arith, times-next (format_at a).block_length m a.members h)))
        go (no p) = rw (ne_eqb m (parity_member a stripe) p) (length_data_block m h p)

    pub length-written : length (data_written a stripe content old) ≡ stripe_length a
    unfolding data_written
    length-written = length-joined (format_at a).block_length a.members target length-target

    pub block_of_written : (m : ℕ) → m < a.members → block_of (format_at a) (data_written a stripe content old) m ≡ cond (is_parity a stripe m) (block_of (format_at a) old m) (data_block a stripe content m)
    unfolding data_written
    block_of_written m h = span-joined (format_at a).block_length a.members target m length-target h

    pub all-written : (bytes : List ℕ) (k : ℕ) → a.members ≤ k → Written a stripe content old k bytes → bytes ≡ data_written a stripe content old
    all-written bytes k h w =
        same_blocks (format_at a) a.members bytes (data_written a stripe content old) (w.same-long ∙ room) length-written
        (λ m l. w.below m (omega arith) ∙ sym (block_of_written m l))

    -- ---- the parity

    pub data_of_written : (m : ℕ) → m < a.members → m ≢ parity_member a stripe → data_of (format_at a) (block_of (format_at a) (data_written a stripe content old) m) ≡ part (format_at a).data_length content (index_at a stripe m)
    data_of_written m h ne =
        ap (data_of (format_at a)) (block_of_written m h ∙ rw (ne_eqb m (parity_member a stripe) ne))
        ∙ data_of_tagged a stripe m (guard_of_parts a content) (part (format_at a).data_length content (index_at a stripe m)) (enough (index_at a stripe m) (index_below a stripe m h ne))

    pub parity_of_written : others_data (format_at a) a.members (parity_member a stripe) (data_written a stripe content old) ≡ parity_of a content
    parity_of_written = parity_by_data (data_written a stripe content old) data_of_written

    -- its guard, as the calls name what they got
    pub parity-guard : (p step all odd : ℕ) (written made guards : List ℕ) → p ≡ parity_member a stripe → written ≡ data_written a stripe content old
        → made ≡ others_data (format_at a) a.members p written → step ≡ (format_at a).data_length → guards ≡ guards_of (format_at a) 16 step content
        → all ≡ combined_guards (take (data_members a - 0) guards) → odd ≡ settled (format_at a) a.members
        → bit_xor all odd ≡ guard_due a stripe p (guard_of_parts a content) (guard (format_at a) made)
    parity-guard p step all odd written made guards ep ew em es eg ea eo = by_case (format_at a).carries refl
      where
        few : data_members a ≤ 16
        few = omega (arith, sound.array.many)

        first : all ≡ combined_guards (take (data_members a) (guards_of (format_at a) 16 (format_at a).data_length content))
        first =
            let whole : data_members a - 0 ≡ data_members a = omega arith in
            ea ∙ ap₂ (λ (k : ℕ) (l : List ℕ). combined_guards (take k l)) whole (eg ∙ ap (λ (k : ℕ). guards_of (format_at a) 16 k content) es)

        by_case : (c : Bool) → (format_at a).carries ≡ c → bit_xor all odd ≡ guard_due a stripe p (guard_of_parts a content) (guard (format_at a) made)
        by_case true e =
            ap (bit_xor all) (eo ∙ settled-carried (format_at a) a.members e) ∙ xor_zero_r all
            ∙ first ∙ ap combined_guards (first-guards (format_at a) 16 (format_at a).data_length content (data_members a) few)
            ∙ sym (guard-carried a stripe p (guard_of_parts a content) (guard (format_at a) made) (carried-parity a stripe p e ep))
        by_case false e =
            let n-is : a.members ≡ suc (data_members a) = omega (arith, sound.array.few) in
            ap₂ bit_xor first (eo ∙ settled_plain (format_at a) a.members e ∙ ap (spare (format_at a)) n-is)
            ∙ parts_guard (format_at a) (combines a.method e) content (data_members a) few (omega arith)
            ∙ ap (guard (format_at a)) (sym (em ∙ ap₂ (others_data (format_at a) a.members) ep ew ∙ parity_of_written))
            ∙ sym (guard-own a stripe p (guard_of_parts a content) (guard (format_at a) made) (own_plain a stripe p e))

    -- ---- the whole

    pub sealed_by_steps : (made last : List ℕ) → made ≡ others_data (format_at a) a.members (parity_member a stripe) (data_written a stripe content old)
        → last ≡ with_block (format_at a) (data_written a stripe content old) (parity_member a stripe) (tagged a stripe (parity_member a stripe) (guard_of_parts a content) made) → last ≡ sealed a stripe content
    sealed_by_steps made last e f =
        same_blocks (format_at a) a.members last (sealed a stripe content) (ap length f ∙ length-sets whole ((format_at a).block_length * p) (tagged a stripe p (guard_of_parts a content) made) ∙ length-written) length-sealed
        (λ m l. ap (λ (x : List ℕ). block_of (format_at a) x m) f ∙ at m l (ℕ_discrete m p) ∙ sym (block_of_sealed m l))
      where
        whole : List ℕ
        whole = data_written a stripe content old

        p : ℕ
        p = parity_member a stripe

        made_is : made ≡ parity_of a content
        made_is = e ∙ parity_of_written

        size : length made ≡ (format_at a).data_length
        size = ap length made_is ∙ length-combination (format_at a).data_length (table (data_members a) (part (format_at a).data_length content))

        at : (m : ℕ) → m < a.members → Dec (m ≡ p) → block_of (format_at a) (with_block (format_at a) whole p (tagged a stripe p (guard_of_parts a content) made)) m ≡ tagged a stripe m (guard_of_parts a content) (sealed_data a stripe content m)
        at m l (yes q) =
            rw (q, eq-eqb p p refl)
            (block_written (format_at a) whole p (tagged a stripe p (guard_of_parts a content) made) (length-tagged a stripe p (guard_of_parts a content) made size) (omega (arith, length-written, times-next (format_at a).block_length p a.members (rw q at l))) ∙ ap (tagged a stripe p (guard_of_parts a content)) made_is)
        at m l (no q) =
            block-kept (format_at a) whole p m (tagged a stripe p (guard_of_parts a content) made) (length-tagged a stripe p (guard_of_parts a content) made size) q ∙ block_of_written m l ∙ rw (ne_eqb m p q)

    -- the same, as the calls name what they got
    pub sealed_by_calls : (p g : ℕ) (written made last : List ℕ) → p ≡ parity_member a stripe → written ≡ data_written a stripe content old
        → made ≡ others_data (format_at a) a.members p written → g ≡ guard_due a stripe p (guard_of_parts a content) (guard (format_at a) made)
        → last ≡ with_block (format_at a) written p (tagged_by a stripe p g made) → last ≡ sealed a stripe content
    sealed_by_calls p g written made last ep ew em eg el =
        sealed_by_steps made last (em ∙ ap₂ (others_data (format_at a) a.members) ep ew)
        (el ∙ ap (with_block (format_at a) written p) (tagged_by_lem a stripe p (guard_of_parts a content) g made eg)
        ∙ ap₂ (λ (x : List ℕ) (k : ℕ). with_block (format_at a) x k (tagged a stripe k (guard_of_parts a content) made)) ew ep)

-- ---- what a seal answers and leaves, case by case

module _ (a : Array) (stripe contentBytes stripeBytes : ℕ) where
  pub seal_nowhere : stripe_refusal a stripe ≢ 0 → stripe_refusal a stripe ≡ seal_refusal a stripe contentBytes stripeBytes
  unfolding seal_refusal
  seal_nowhere h = sym (after_refused (stripe_refusal a stripe) (refuse (not (eqb contentBytes ((format_at a).data_length * data_members a) && eqb stripeBytes (stripe_length a))) 6 0) h)

  pub seal_content : stripe_refusal a stripe ≡ 0 → contentBytes ≢ (format_at a).data_length * data_members a → 6 ≡ seal_refusal a stripe contentBytes stripeBytes
  unfolding seal_refusal
  seal_content e h = rw (e, ne_eqb contentBytes ((format_at a).data_length * data_members a) h)

  pub seal_length : stripe_refusal a stripe ≡ 0 → contentBytes ≡ (format_at a).data_length * data_members a → stripeBytes ≢ stripe_length a → 6 ≡ seal_refusal a stripe contentBytes stripeBytes
  unfolding seal_refusal
  seal_length e h k = rw (e, eq-eqb contentBytes ((format_at a).data_length * data_members a) h, ne_eqb stripeBytes (stripe_length a) k)

  pub seal_accepted : stripe_refusal a stripe ≡ 0 → contentBytes ≡ (format_at a).data_length * data_members a → stripeBytes ≡ stripe_length a → 0 ≡ seal_refusal a stripe contentBytes stripeBytes
  unfolding seal_refusal
  seal_accepted e h k = rw (e, eq-eqb contentBytes ((format_at a).data_length * data_members a) h, eq-eqb stripeBytes (stripe_length a) k)

  -- 0 is answered only where all that is so
  pub seal_fitting : seal_refusal a stripe contentBytes stripeBytes ≡ 0 → Fitting a stripe contentBytes stripeBytes
  unfolding seal_refusal
  seal_fitting = by_stripe (stripe_refusal a stripe) refl
    where
      both : (s t : Bool) → (s && t) ≡ true → (s ≡ true) × (t ≡ true)
      both true t e = (refl, e)
      both false t e = (e, (cc))

      by_stripe : (k : ℕ) → stripe_refusal a stripe ≡ k → after k (refuse (not (eqb contentBytes ((format_at a).data_length * data_members a) && eqb stripeBytes (stripe_length a))) 6 0) ≡ 0 → Fitting a stripe contentBytes stripeBytes
      by_stripe zero p e =
          let tests = both (eqb contentBytes ((format_at a).data_length * data_members a)) (eqb stripeBytes (stripe_length a)) (refuse-none (eqb contentBytes ((format_at a).data_length * data_members a) && eqb stripeBytes (stripe_length a)) 5 0 e).0 in
          record { stripe-good = p; content_long = eqb-true contentBytes ((format_at a).data_length * data_members a) tests.0; stripe-long = eqb-true stripeBytes (stripe_length a) tests.1 }
      by_stripe (suc k) p e = absurd (omega arith)

module _ (a : Array) (stripe : ℕ) (content old : List ℕ) where
  pub seal_kept : seal_refusal a stripe (length content) (length old) ≢ 0 → old ≡ seal_bytes a stripe content old
  unfolding seal_bytes
  seal_kept h = rw (ne_eqb (seal_refusal a stripe (length content) (length old)) 0 h)

  pub seal_done : seal_refusal a stripe (length content) (length old) ≡ 0 → sealed a stripe content ≡ seal_bytes a stripe content old
  unfolding seal_bytes
  seal_done h = rw (eq-eqb (seal_refusal a stripe (length content) (length old)) 0 h)
