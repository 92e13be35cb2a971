-- What an update leaves: two blocks anew and every other as it was; whoever was good is good, and the members' data combine to what they did.
-- Assumes nothing.
use mathlib.Core.Path.{◌≡◌, refl, sym, ap, ap₂, ◌∙◌}
use mathlib.Core.Logic.{◌≢◌}
use mathlib.Core.Bool.{Bool, true, false}
use mathlib.Core.List.{List, [], ◌∷◌}
use Prim.Native.Nat.{ℕ, zero, suc, ◌*◌, ◌^◌, ◌≤◌, ◌<◌}
use lib.Bits.{bit_xor}
use Rattle.xor.proofs.Bits.{xor_assoc, xor_swap, xor-twice}
use native.Mathlib.Decide.{ℕ_discrete}
use native.Mathlib.Omega.{arith}
use borrow.Author.Tests.{eq-eqb, ne_eqb}
use lib.ListN.{length, get_or, set, replicate, length-set}
use lib.Seq.{length-sets, get_or-set_other}
use Rattle.xor.specs.Xors.{xors, add_all, combination}
use Rattle.xor.proofs.Lists.{length-xors, xors_swap, xors-twice, xors_assoc}
use Rattle.xor.proofs.Combination.{add_all-set, length-combination}
use Rattle.layout.specs.Answers.{after}
use Rattle.layout.specs.Arrays.{block_refusal}
use Rattle.layout.specs.Places.{parity_member, stripe_of, member_of, owner_refusal}
use Rattle.layout.specs.declared.Array.{Array}
use Rattle.layout.proofs.Ranges.{place_sound}
use Rattle.layout.proofs.Bijection.{place-refusal, parity_no_block}
use Rattle.format.specs.Formats.{Format, guard}
use Rattle.format.proofs.Sizes.{times-next, xor_bytes, guard-fits}
use Rattle.tag.specs.Blocks.{format_at, data_of}
use Rattle.tag.specs.Tags.{guard_due, tagged}
use Rattle.tag.proofs.Guards.{own_data, carried-parity, guard-carried}
use Rattle.tag.proofs.Tagged.{length_data, length-tagged, data_of_tagged, guard_of_tagged, own_of_tagged, tagged-good}
use Rattle.verdict.specs.Verdicts.{combined_guards}
use Rattle.stripe.specs.Tables.{table}
use Rattle.stripe.specs.Stripes.{block_of, member_data, stored_guard, stored_guards, left_of, Parity, Settled}
use Rattle.stripe.specs.Jobs.{with_block, stored_good, replace_refusal, replaced, update_refusal, update_bytes, Reads}
use Rattle.stripe.proofs.Tables.{length-table, get_or-table}
use Rattle.stripe.proofs.Rows.{length-span}
use Rattle.stripe.proofs.Blocks.{block_written, block-kept}
use Rattle.stripe.proofs.Served.{read-stored}
use Rattle.stripe.proofs.Updates.{parity_sound, replaceable, Inside, inside, length_moved, moved_guard}
use Rattle.stripe.proofs.OneEntry.{one_entry_set}
use Rattle.stripe.proofs.Others.{good_others}
use Rattle.stripe.proofs.Carried.{guards-set, left_plain, left-carried, others_leave_one, stored-own, others_small}

-- ---- the members' data, one block written

abbrev data_at : Format → List ℕ → ℕ → List ℕ
data_at F bytes m = data_of F (block_of F bytes m)

-- what the blocks of a stripe give, one block written
each_with_block : {A : Type 0} (f : List ℕ → A) (F : Format) (n : ℕ) (bytes : List ℕ) (m : ℕ) (block : List ℕ) → length block ≡ F.block_length → m < n → F.block_length * n ≤ length bytes
    → table n (λ k. f (block_of F (with_block F bytes m block) k)) ≡ set (table n (λ k. f (block_of F bytes k))) m (f block)
each_with_block f F n bytes m block long h room =
    one_entry_set n m (λ k. f (block_of F (with_block F bytes m block) k)) (λ k. f (block_of F bytes k)) h (λ k l ne. ap f (block-kept F bytes m k block long ne))
    ∙ ap (λ (x : List ℕ). set (table n (λ k. f (block_of F bytes k))) m (f x)) (block_written F bytes m block long (omega (arith, times-next F.block_length m n h)))

pub data_with_block : (F : Format) (n : ℕ) (bytes : List ℕ) (m : ℕ) (block : List ℕ) → length block ≡ F.block_length → m < n → F.block_length * n ≤ length bytes
    → member_data F n (with_block F bytes m block) ≡ set (member_data F n bytes) m (data_of F block)
data_with_block F n bytes m block long h room = each_with_block (data_of F) F n bytes m block long h room

guards_with_block : (F : Format) (n : ℕ) (bytes : List ℕ) (m : ℕ) (block : List ℕ) → length block ≡ F.block_length → m < n → F.block_length * n ≤ length bytes
    → stored_guards F n (with_block F bytes m block) ≡ set (stored_guards F n bytes) m (stored_guard F block)
guards_with_block F n bytes m block long h room = each_with_block (stored_guard F) F n bytes m block long h room

-- old data and old parity out, new data and moved parity in: nothing is changed in sum
pub moved_cancels : (z old new parity : List ℕ) → length z ≡ length parity → xors (xors (xors (xors z old) new) parity) (xors (xors parity old) new) ≡ z
moved_cancels z old new parity long =
    let w = xors (xors z old) new in
    let count : length (xors w parity) ≡ length parity =
    length-xors w parity ∙ length-xors (xors z old) new ∙ length-xors z old ∙ long in
    sym (xors_assoc (xors w parity) (xors parity old) new (omega (arith, length-xors parity old)))
    ∙ ap (λ (x : List ℕ). xors x new)
    (sym (xors_assoc (xors w parity) parity old (omega arith)) ∙ ap (λ (x : List ℕ). xors x old) (xors-twice w parity) ∙ xors_swap (xors z old) new old
    ∙ ap (λ (x : List ℕ). xors x new) (xors-twice z old))
    ∙ xors-twice z new

-- and so of their guards
moves_cancel : (all old new parity : ℕ) → bit_xor (bit_xor (bit_xor (bit_xor all old) new) parity) (bit_xor (bit_xor parity old) new) ≡ all
moves_cancel all old new parity =
    let w = bit_xor (bit_xor all old) new in
    sym (xor_assoc (bit_xor w parity) (bit_xor parity old) new)
    ∙ ap (λ (x : ℕ). bit_xor x new)
    (sym (xor_assoc (bit_xor w parity) parity old) ∙ ap (λ (x : ℕ). bit_xor x old) (xor-twice w parity) ∙ xor_swap (bit_xor all old) new old
    ∙ ap (λ (x : ℕ). bit_xor x new) (xor-twice all old))
    ∙ xor-twice all new

-- ---- the block at a place

module _ (a : Array) (stripe member : ℕ) (new bytes : List ℕ) where
  -- the parity's data that an update leaves
  abbrev pub moved_data : List ℕ
  moved_data = xors (xors (data_of (format_at a) (block_of (format_at a) bytes (parity_member a stripe))) (data_of (format_at a) (block_of (format_at a) bytes member))) new

  length-replaced : length (replaced a stripe member new bytes) ≡ length bytes
  unfolding replaced
  length-replaced =
      length-sets (with_block (format_at a) bytes member (tagged a stripe member (moved_guard a stripe member new bytes) new)) ((format_at a).block_length * parity_member a stripe) (tagged a stripe (parity_member a stripe) (moved_guard a stripe member new bytes) moved_data)
      ∙ length-sets bytes ((format_at a).block_length * member) (tagged a stripe member (moved_guard a stripe member new bytes) new)

  module _ (place : owner_refusal a stripe member ≡ 0) (apart : member ≢ parity_member a stripe) (taken : replace_refusal a stripe member (length new) bytes ≡ 0) where
    fit : Inside a stripe member (length new) bytes
    fit = inside a stripe member (length new) bytes place taken

    abbrev once : List ℕ
    once = with_block (format_at a) bytes member (tagged a stripe member (moved_guard a stripe member new bytes) new)

    long-own : length (tagged a stripe member (moved_guard a stripe member new bytes) new) ≡ (format_at a).block_length
    long-own = length-tagged a stripe member (moved_guard a stripe member new bytes) new fit.size

    long-moved : length moved_data ≡ (format_at a).data_length
    long-moved = length_moved (format_at a) (parity_member a stripe) bytes (data_of (format_at a) (block_of (format_at a) bytes member)) new fit.parity

    long-parity : length (tagged a stripe (parity_member a stripe) (moved_guard a stripe member new bytes) moved_data) ≡ (format_at a).block_length
    long-parity = length-tagged a stripe (parity_member a stripe) (moved_guard a stripe member new bytes) moved_data long-moved

    kept-once : length once ≡ length bytes
    kept-once = length-sets bytes ((format_at a).block_length * member) (tagged a stripe member (moved_guard a stripe member new bytes) new)

    replaced-own : block_of (format_at a) (replaced a stripe member new bytes) member ≡ tagged a stripe member (moved_guard a stripe member new bytes) new
    unfolding replaced
    replaced-own =
        block-kept (format_at a) once (parity_member a stripe) member (tagged a stripe (parity_member a stripe) (moved_guard a stripe member new bytes) moved_data) long-parity apart
        ∙ block_written (format_at a) bytes member (tagged a stripe member (moved_guard a stripe member new bytes) new) long-own fit.own

    replaced-parity : block_of (format_at a) (replaced a stripe member new bytes) (parity_member a stripe) ≡ tagged a stripe (parity_member a stripe) (moved_guard a stripe member new bytes) moved_data
    unfolding replaced
    replaced-parity =
        block_written (format_at a) once (parity_member a stripe) (tagged a stripe (parity_member a stripe) (moved_guard a stripe member new bytes) moved_data) long-parity (omega (arith, kept-once, fit.parity))

    replaced_other : (k : ℕ) → k ≢ member → k ≢ parity_member a stripe → block_of (format_at a) (replaced a stripe member new bytes) k ≡ block_of (format_at a) bytes k
    unfolding replaced
    replaced_other k own parity =
        block-kept (format_at a) once (parity_member a stripe) k (tagged a stripe (parity_member a stripe) (moved_guard a stripe member new bytes) moved_data) long-parity parity
        ∙ block-kept (format_at a) bytes member k (tagged a stripe member (moved_guard a stripe member new bytes) new) long-own own

    replaced-good : a.volume < 256 → (k : ℕ) → stored_good a stripe k bytes ≡ true → stored_good a stripe k (replaced a stripe member new bytes) ≡ true
    replaced-good volume k good = by_kind (ℕ_discrete k member) (ℕ_discrete k (parity_member a stripe))
      where
        by_kind : Dec (k ≡ member) → Dec (k ≡ parity_member a stripe) → stored_good a stripe k (replaced a stripe member new bytes) ≡ true
        by_kind (yes e) p = rw (e, replaced-own) (tagged-good a stripe member (moved_guard a stripe member new bytes) new fit.size place volume)
        by_kind (no o) (yes e) = rw (e, replaced-parity) (tagged-good a stripe (parity_member a stripe) (moved_guard a stripe member new bytes) moved_data long-moved (parity_sound a stripe member place) volume)
        by_kind (no o) (no p) = rw (replaced_other k o p) good

    replaced-combination : combination (format_at a).data_length (member_data (format_at a) a.members (replaced a stripe member new bytes)) ≡ combination (format_at a).data_length (member_data (format_at a) a.members bytes)
    unfolding replaced
    replaced-combination =
        let n = a.members in
        let p = parity_member a stripe in
        let runs = member_data (format_at a) n bytes in
        let zeros : List ℕ = replicate (format_at a).data_length 0 in
        let h = place_sound a stripe member place in
        let hp = place_sound a stripe p (parity_sound a stripe member place) in
        let r = replaceable a stripe member (length new) bytes taken in
        let own : get_or runs member [] ≡ data_of (format_at a) (block_of (format_at a) bytes member) = get_or-table n (data_at (format_at a) bytes) [] member h.here in
        let parity : get_or (set runs member new) p [] ≡ data_of (format_at a) (block_of (format_at a) bytes p) =
        get_or-set_other runs member p new [] (λ e. apart (sym e)) ∙ get_or-table n (data_at (format_at a) bytes) [] p hp.here in
        let first : member_data (format_at a) n once ≡ set runs member new =
        data_with_block (format_at a) n bytes member (tagged a stripe member (moved_guard a stripe member new bytes) new) long-own h.here (omega arith)
        ∙ ap (set runs member) (data_of_tagged a stripe member (moved_guard a stripe member new bytes) new fit.size) in
        let second : member_data (format_at a) n (with_block (format_at a) once p (tagged a stripe p (moved_guard a stripe member new bytes) moved_data)) ≡ set (set runs member new) p moved_data =
        data_with_block (format_at a) n once p (tagged a stripe p (moved_guard a stripe member new bytes) moved_data) long-parity hp.here (omega (arith, kept-once))
        ∙ ap₂ (λ (x : List (List ℕ)) (y : List ℕ). set x p y) first (data_of_tagged a stripe p (moved_guard a stripe member new bytes) moved_data long-moved) in
        let inRuns : member < length runs = rw length-table h.here in
        let in_set : p < length (set runs member new) = simp (length-set, length-table) hp.here in
        ap (add_all zeros) second ∙ add_all-set zeros (set runs member new) p moved_data in_set
        ∙ ap₂ (λ (x y : List ℕ). xors (xors x y) moved_data) (add_all-set zeros runs member new inRuns ∙ ap (λ (x : List ℕ). xors (xors (add_all zeros runs) x) new) own) parity
        ∙ moved_cancels (add_all zeros runs) (data_of (format_at a) (block_of (format_at a) bytes member)) new (data_of (format_at a) (block_of (format_at a) bytes p))
        (length-combination (format_at a).data_length runs ∙ sym (length_data (format_at a) (block_of (format_at a) bytes p) (length-span ((format_at a).block_length * p) (format_at a).block_length bytes fit.parity)))

    -- the guards in the tags combine to what they did, if the parity's is a guard's bytes
    replaced-guards : a.volume < 256 → (format_at a).carries ≡ true → stored_guard (format_at a) (block_of (format_at a) bytes (parity_member a stripe)) < 256 ^ (format_at a).quarter
        → combined_guards (stored_guards (format_at a) a.members (replaced a stripe member new bytes)) ≡ combined_guards (stored_guards (format_at a) a.members bytes)
    unfolding replaced
    replaced-guards volume carrying small =
        let F = format_at a in
        let n = a.members in
        let p = parity_member a stripe in
        let G = moved_guard a stripe member new bytes in
        let stored = stored_guards F n bytes in
        let h = place_sound a stripe member place in
        let hp = place_sound a stripe p (parity_sound a stripe member place) in
        let r = replaceable a stripe member (length new) bytes taken in
        let x = stored_guard F (block_of F bytes p) in
        let y = stored_guard F (block_of F bytes member) in
        let own-guard : y ≡ guard F (data_of F (block_of F bytes member)) = stored-own a stripe member bytes (own_data a stripe member apart) r.own-good in
        let g : stored_guard F (tagged a stripe member G new) ≡ guard F new = own_of_tagged a stripe member G new fit.size place volume (own_data a stripe member apart) in
        let due_is : guard_due a stripe p G (guard F moved_data) ≡ G = guard-carried a stripe p G (guard F moved_data) (carried-parity a stripe p carrying refl) in
        let few : G < 256 ^ F.quarter =
        xor_bytes F.quarter (bit_xor x y) (guard F new) (xor_bytes F.quarter x y small (rw own-guard (guard-fits F (data_of F (block_of F bytes member))))) (guard-fits F new) in
        let k : stored_guard F (tagged a stripe p G moved_data) ≡ G =
        guard_of_tagged a stripe p G moved_data long-moved (parity_sound a stripe member place) volume (rw due_is few) ∙ due_is in
        let first : stored_guards F n once ≡ set stored member (guard F new) =
        guards_with_block F n bytes member (tagged a stripe member G new) long-own h.here (omega arith) ∙ ap (set stored member) g in
        let second : stored_guards F n (with_block F once p (tagged a stripe p G moved_data)) ≡ set (set stored member (guard F new)) p G =
        guards_with_block F n once p (tagged a stripe p G moved_data) long-parity hp.here (omega (arith, kept-once))
        ∙ ap₂ (λ (l : List ℕ) (z : ℕ). set l p z) first k in
        let at_own : get_or stored member 0 ≡ y = get_or-table n (λ m. stored_guard F (block_of F bytes m)) 0 member h.here in
        let at-parity : get_or (set stored member (guard F new)) p 0 ≡ x =
        get_or-set_other stored member p (guard F new) 0 (λ e. apart (sym e)) ∙ get_or-table n (λ m. stored_guard F (block_of F bytes m)) 0 p hp.here in
        ap combined_guards second ∙ guards-set (set stored member (guard F new)) p G (simp (length-set, length-table) hp.here)
        ∙ ap₂ (λ (u v : ℕ). bit_xor (bit_xor u v) G) (guards-set stored member (guard F new) (rw length-table h.here) ∙ ap (λ (u : ℕ). bit_xor (bit_xor (combined_guards stored) u) (guard F new)) at_own) at-parity
        ∙ moves_cancel (combined_guards stored) y (guard F new) x

-- ---- a block of the array

module _ (a : Array) (block : ℕ) (new bytes : List ℕ) where
  -- a refused update leaves the stripe as it was
  pub update_refused_keeps : update_refusal a block (length new) bytes ≢ 0 → update_bytes a block new bytes ≡ bytes
  unfolding update_bytes
  update_refused_keeps h = rw (ne_eqb (update_refusal a block (length new) bytes) 0 h)

  module _ (done : update_refusal a block (length new) bytes ≡ 0) where
    pub refusals : (block_refusal a block ≡ 0) × (replace_refusal a (stripe_of a block) (member_of a block) (length new) bytes ≡ 0)
    unfolding update_refusal
    refusals = none (block_refusal a block) (replace_refusal a (stripe_of a block) (member_of a block) (length new) bytes) done
      where
        none : (n later : ℕ) → after n later ≡ 0 → (n ≡ 0) × (later ≡ 0)
        none zero later e = (refl, e)
        none (suc n) later e = absurd (omega arith)

    place : owner_refusal a (stripe_of a block) (member_of a block) ≡ 0
    place = place-refusal a block refusals.0

    apart : member_of a block ≢ parity_member a (stripe_of a block)
    apart = parity_no_block a block

    pub as_replaced : update_bytes a block new bytes ≡ replaced a (stripe_of a block) (member_of a block) new bytes
    unfolding update_bytes
    as_replaced = rw (eq-eqb (update_refusal a block (length new) bytes) 0 done)

    pub update_keeps_length : length (update_bytes a block new bytes) ≡ length bytes
    update_keeps_length = ap length as_replaced ∙ length-replaced a (stripe_of a block) (member_of a block) new bytes

    -- the block holds the new data, the parity's block what brings it along, and every other block is byte for byte as it was
    pub update-own : block_of (format_at a) (update_bytes a block new bytes) (member_of a block) ≡ tagged a (stripe_of a block) (member_of a block) (moved_guard a (stripe_of a block) (member_of a block) new bytes) new
    update-own = rw as_replaced (replaced-own a (stripe_of a block) (member_of a block) new bytes place apart refusals.1)

    pub update-parity : block_of (format_at a) (update_bytes a block new bytes) (parity_member a (stripe_of a block))
        ≡ tagged a (stripe_of a block) (parity_member a (stripe_of a block)) (moved_guard a (stripe_of a block) (member_of a block) new bytes) (moved_data a (stripe_of a block) (member_of a block) new bytes)
    update-parity = rw as_replaced (replaced-parity a (stripe_of a block) (member_of a block) new bytes place apart refusals.1)

    pub update_keeps_others : (m : ℕ) → m ≢ member_of a block → m ≢ parity_member a (stripe_of a block) → block_of (format_at a) (update_bytes a block new bytes) m ≡ block_of (format_at a) bytes m
    update_keeps_others m own parity = rw as_replaced (replaced_other a (stripe_of a block) (member_of a block) new bytes place apart refusals.1 m own parity)

    -- a torn stripe stays as torn as it was, a whole one whole
    pub update_keeps_combination : combination (format_at a).data_length (member_data (format_at a) a.members (update_bytes a block new bytes)) ≡ combination (format_at a).data_length (member_data (format_at a) a.members bytes)
    update_keeps_combination = rw as_replaced (replaced-combination a (stripe_of a block) (member_of a block) new bytes place apart refusals.1)

    module _ (volume : a.volume < 256) where
      pub update_keeps_good : (m : ℕ) → stored_good a (stripe_of a block) m bytes ≡ true → stored_good a (stripe_of a block) m (update_bytes a block new bytes) ≡ true
      update_keeps_good m good = rw as_replaced (replaced-good a (stripe_of a block) (member_of a block) new bytes place apart refusals.1 volume m good)

      -- the guards that are carried: settled before, settled after
      pub update_keeps_settled : ((m : ℕ) → m < a.members → stored_good a (stripe_of a block) m bytes ≡ true) → Settled (format_at a) a.members bytes
          → Settled (format_at a) a.members (update_bytes a block new bytes)
      update_keeps_settled good settled = by_case (format_at a).carries refl
        where
          s : ℕ
          s = stripe_of a block

          before : List ℕ
          before = stored_guards (format_at a) a.members bytes

          after_it : List ℕ
          after_it = stored_guards (format_at a) a.members (update_bytes a block new bytes)

          by_case : (c : Bool) → (format_at a).carries ≡ c → left_of (format_at a) after_it ≡ 0
          by_case false e = left_plain (format_at a) after_it e
          by_case true e =
              let p = parity_member a s in
              let none : combined_guards before ≡ 0 = sym (left-carried (format_at a) before e) ∙ settled in
              let here = (place_sound a s p (parity_sound a s (member_of a block) place)).here in
              let others-good = good_others a s p bytes (λ m h ne. good m h) in
              let small = rw (others_leave_one (format_at a) a.members p bytes here none) at (others_small a s p bytes others-good here refl) in
              left-carried (format_at a) after_it e ∙ ap (λ (l : List ℕ). combined_guards (stored_guards (format_at a) a.members l)) as_replaced
              ∙ replaced-guards a s (member_of a block) new bytes place apart refusals.1 volume e small ∙ none

      -- every member good, parity right, and the guards that it carries: so before, so after
      pub update_keeps_clean : ((m : ℕ) → m < a.members → stored_good a (stripe_of a block) m bytes ≡ true)
          → Parity (format_at a) a.members bytes → Settled (format_at a) a.members bytes
          → ((m : ℕ) → m < a.members → stored_good a (stripe_of a block) m (update_bytes a block new bytes) ≡ true)
          × Parity (format_at a) a.members (update_bytes a block new bytes) × Settled (format_at a) a.members (update_bytes a block new bytes)
      update_keeps_clean good zeros settled = (λ m h. update_keeps_good m (good m h), update_keeps_combination ∙ zeros, update_keeps_settled good settled)

      -- a read of the block then says stored, and gives the new data
      pub read-updated : (out : List ℕ) → length out ≡ (format_at a).data_length → Reads a block (update_bytes a block new bytes) out (1 ∷ 0 ∷ 0 ∷ []) new
      read-updated out room =
          let m = member_of a block in
          let s = stripe_of a block in
          let r = replaceable a s m (length new) bytes refusals.1 in
          let h = read-stored a block (update_bytes a block new bytes) out refusals.0 (update_keeps_length ∙ r.long) room (update_keeps_good m r.own-good) in
          let same : data_of (format_at a) (block_of (format_at a) (update_bytes a block new bytes) m) ≡ new = ap (data_of (format_at a)) update-own ∙ data_of_tagged a s m (moved_guard a s m new bytes) new r.size in
          (h.0, sym same ∙ h.1)
