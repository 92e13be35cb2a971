-- The cure of the write hole. An update of a clean stripe is cut between its two writes, and then another data block is lost. Whichever of the two
-- was written, what the others make for it is the lost data combined with the old and the new data of the update. Where the parity has the guard
-- of its own data, that is given as good. Where it carries the data members' guards, it is refused with 9 exactly if its guard is not what the
-- guards of these three combine to. Not claimed: that every wrong block is refused. Guards can fit by chance, and they do where the lost data were
-- the same as the old or the new (`alike_fits`).
-- Assumes nothing.
use mathlib.Core.Path.{◌≡◌, sym, ap, ap₂, ◌∙◌}
use mathlib.Core.Logic.{◌≢◌, ◌↔◌, ◌⊎◌, inl, inr}
use mathlib.Core.Bool.{true, false}
use mathlib.Core.List.{List, [], ◌∷◌}
use Prim.Native.Nat.{ℕ, ◌*◌, ◌≤◌, ◌<◌}
use native.Mathlib.Decide.{ℕ_discrete}
use native.Mathlib.Omega.{arith}
use borrow.Author.Tests.{eq-eqb, ne_eqb}
use lib.Bits.{bit_xor, xor_comm}
use lib.Dec.{eqb}
use lib.ListN.{length, get_or}
use lib.Seq.{length-sets}
use Rattle.xor.specs.Xors.{xors}
use Rattle.xor.proofs.Bits.{xor_swap, xor-twice}
use Rattle.xor.proofs.Lists.{xors_swap, xors_comm, xors-twice}
use Rattle.layout.specs.Arrays.{block_refusal}
use Rattle.layout.specs.Places.{parity_member, stripe_of, member_of, owner_refusal}
use Rattle.layout.specs.declared.Array.{Array}
use Rattle.layout.proofs.Ranges.{place_sound}
use Rattle.layout.proofs.Bijection.{place-refusal, parity_no_block, block_by_place}
use Rattle.format.specs.Formats.{guard}
use Rattle.tag.specs.Blocks.{format_at, data_of}
use Rattle.tag.specs.Tags.{good, bad}
use Rattle.tag.proofs.Guards.{own_data}
use Rattle.tag.proofs.Tagged.{length_data, data_of_tagged}
use Rattle.stripe.specs.Stripes.{stripe_length, block_of, others_data, stored_guard, others_guards, guards_fit}
use Rattle.stripe.specs.Jobs.{with_block, update_refusal, update_bytes, rebuild_refusal, rebuild_bytes, Reads}
use Rattle.stripe.specs.Verdicts.{scrub_numbers, scrub_refusal, clean}
use Rattle.verdict.specs.Verdicts.{says_clean}
use Rattle.stripe.proofs.Rows.{length-span}
use Rattle.stripe.proofs.Blocks.{block_written, block-kept}
use Rattle.stripe.proofs.Parity.{all_with_others as all-data, others_are_one, others_ext}
use Rattle.stripe.proofs.Carried.{all_with_others as all-guards, others-guards_ext, stored-own, fit_plain, fit_data}
use Rattle.stripe.proofs.Scrubs.{scrub_sound, member_room, scrub_clean}
use Rattle.stripe.proofs.ScrubTaken.{scrub_taken}
use Rattle.stripe.proofs.CombinedGuards.{guards_but_one}
use Rattle.stripe.proofs.Served.{read-rebuilt, read-unfit}
use Rattle.stripe.proofs.Restores.{rebuilt_data, rebuilt-good, rebuild-accepted, rebuild-unfit}
use Rattle.stripe.proofs.Rebuilds.{rebuild-done}
use Rattle.stripe.proofs.Updates.{parity_sound, moved_guard, replaceable}
use Rattle.stripe.proofs.Updated.{refusals, update-own, update_keeps_others}
use Rattle.stripe.proofs.Clean.{update_stays_clean}

-- ---- the situation

-- a stripe in which of all that an update writes one member's block was written
abbrev pub half_updated : Array → ℕ → ℕ → List ℕ → List ℕ → List ℕ
half_updated a block written new before = with_block (format_at a) before written (block_of (format_at a) (update_bytes a block new before) written)

-- an update of a clean stripe, cut between its two writes: one of the two blocks was written, the block's own or the parity's
pub record CutUpdate (a : Array) (block written : ℕ) (new before : List ℕ) : Type 0 where
  pub was_clean : scrub_numbers a (stripe_of a block) before ≡ clean
  pub done : update_refusal a block (length new) before ≡ 0
  pub one_of_two : (written ≡ member_of a block) ⊎ (written ≡ parity_member a (stripe_of a block))

-- another block of that stripe is lost: anything may stand in its place
pub record LostBlock (a : Array) (block other : ℕ) (cut damaged : List ℕ) : Type 0 where
  pub there : block_refusal a other ≡ 0
  pub same-stripe : stripe_of a other ≡ stripe_of a block
  pub another : other ≢ block
  pub as_long : length damaged ≡ stripe_length a
  pub kept : (k : ℕ) → k < a.members → k ≢ member_of a other → block_of (format_at a) damaged k ≡ block_of (format_at a) cut k

-- ---- a stripe that differs from a clean one in one block, and has lost a second

module _ (a : Array) (stripe own lost : ℕ) (right cut damaged : List ℕ) (is-clean : scrub_numbers a stripe right ≡ clean)
    (own-here : own < a.members) (lost-here : lost < a.members) (apart : lost ≢ own)
    (same : (k : ℕ) → k < a.members → k ≢ own → block_of (format_at a) cut k ≡ block_of (format_at a) right k)
    (kept : (k : ℕ) → k < a.members → k ≢ lost → block_of (format_at a) damaged k ≡ block_of (format_at a) cut k) where
  taken : scrub_refusal a stripe (length right) ≡ 0
  taken = scrub_taken a stripe right (0 ∷ says_clean) is-clean

  data_left : others_data (format_at a) a.members lost damaged
      ≡ xors (xors (data_of (format_at a) (block_of (format_at a) right lost)) (data_of (format_at a) (block_of (format_at a) right own))) (data_of (format_at a) (block_of (format_at a) cut own))
  data_left =
      let F = format_at a in
      let n = a.members in
      let x = data_of F (block_of F right own) in
      let y = data_of F (block_of F cut own) in
      let l = data_of F (block_of F right lost) in
      let left = others_data F n lost cut in
      let lost-same : data_of F (block_of F cut lost) ≡ l = ap (data_of F) (same lost lost-here apart) in
      let whole : F.block_length * n ≤ length right = omega (arith, (scrub_sound a stripe (length right) taken).1) in
      let long : (k : ℕ) → k < n → length (data_of F (block_of F right k)) ≡ F.data_length =
      λ k h. length_data F (block_of F right k) (length-span (F.block_length * k) F.block_length right (member_room a stripe (length right) k taken h)) in
      let by-own : others_data F n own cut ≡ x =
      others_ext F n own cut right (λ k h ne. ap (data_of F) (same k h ne)) ∙ others_are_one F n own right own-here whole ((scrub_clean a stripe right taken).0 is-clean).1 in
      others_ext F n lost damaged cut (λ k h ne. ap (data_of F) (kept k h ne))
      ∙ sym (xors-twice left l)
      ∙ ap (λ (d : List ℕ). xors d l) (ap (xors left) (sym lost-same) ∙ sym (all-data F n lost cut lost-here) ∙ all-data F n own cut own-here ∙ ap (λ (d : List ℕ). xors d y) by-own)
      ∙ xors_swap x y l ∙ ap (λ (d : List ℕ). xors d y) (xors_comm x l (long own own-here ∙ sym (long lost lost-here)))

  guards-left : (format_at a).carries ≡ true → others_guards (format_at a) a.members lost damaged
      ≡ bit_xor (bit_xor (stored_guard (format_at a) (block_of (format_at a) right lost)) (stored_guard (format_at a) (block_of (format_at a) right own))) (stored_guard (format_at a) (block_of (format_at a) cut own))
  guards-left carrying =
      let F = format_at a in
      let n = a.members in
      let x = stored_guard F (block_of F right own) in
      let y = stored_guard F (block_of F cut own) in
      let l = stored_guard F (block_of F right lost) in
      let left = others_guards F n lost cut in
      let lost-same : stored_guard F (block_of F cut lost) ≡ l = ap (stored_guard F) (same lost lost-here apart) in
      others-guards_ext F n lost damaged cut kept
      ∙ sym (xor-twice left l)
      ∙ ap (λ (g : ℕ). bit_xor g l) (ap (bit_xor left) (sym lost-same) ∙ sym (all-guards F n lost cut lost-here) ∙ guards_but_one a stripe right is-clean carrying own cut own-here same)
      ∙ xor_swap x y l ∙ ap (λ (g : ℕ). bit_xor g y) (xor_comm x l)

-- of two answers one is given where P holds, the other where it does not
exactly : (P Q R : Type 0) → Dec P → (P → Q) → (¬ P → R) → ¬ (Q × R) → (R ↔ (¬ P)) × (Q ↔ P)
exactly P Q R (yes p) q r never = ((λ x. absurd (never (q p, x)), r), (λ y. p, q))
exactly P Q R (no np) q r never = ((λ x. np, r), (λ y. absurd (never (y, r np)), q))

-- ---- what comes of it

module _ (a : Array) (block other written : ℕ) (new before damaged : List ℕ) (small : a.volume < 256)
    (cut_short : CutUpdate a block written new before) (loss : LostBlock a block other (half_updated a block written new before) damaged) where
  abbrev stripe : ℕ
  stripe = stripe_of a block

  abbrev own : ℕ
  own = member_of a block

  abbrev lost : ℕ
  lost = member_of a other

  abbrev after : List ℕ
  after = update_bytes a block new before

  abbrev cut : List ℕ
  cut = half_updated a block written new before

  -- the data that the update replaces, and those that are lost
  abbrev pub old_data : List ℕ
  old_data = data_of (format_at a) (block_of (format_at a) before own)

  abbrev pub lost_data : List ℕ
  lost_data = data_of (format_at a) (block_of (format_at a) before lost)

  -- what the others make for the lost block, and what their stored guards combine to
  abbrev pub made_data : List ℕ
  made_data = others_data (format_at a) a.members lost damaged

  abbrev pub left_guard : ℕ
  left_guard = others_guards (format_at a) a.members lost damaged

  taken-before : scrub_refusal a stripe (length before) ≡ 0
  taken-before = scrub_taken a stripe before (0 ∷ says_clean) cut_short.was_clean

  after-clean : scrub_numbers a stripe after ≡ clean
  after-clean = update_stays_clean a block new before cut_short.done small taken-before cut_short.was_clean

  taken-after : scrub_refusal a stripe (length after) ≡ 0
  taken-after = scrub_taken a stripe after (0 ∷ says_clean) after-clean

  own-place : owner_refusal a stripe own ≡ 0
  own-place = place-refusal a block (refusals a block new before cut_short.done).0

  own-here : own < a.members
  own-here = (place_sound a stripe own own-place).here

  lost-place : owner_refusal a stripe lost ≡ 0
  lost-place = ap (λ (s : ℕ). owner_refusal a s lost) (sym loss.same-stripe) ∙ place-refusal a other loss.there

  lost-here : lost < a.members
  lost-here = (place_sound a stripe lost lost-place).here

  lost-apart : lost ≢ own
  lost-apart e = loss.another (block_by_place a other block loss.same-stripe e)

  lost_no_parity : lost ≢ parity_member a stripe
  lost_no_parity e = parity_no_block a other (e ∙ ap (parity_member a) (sym loss.same-stripe))

  written-here : written < a.members
  written-here = by_case cut_short.one_of_two
    where
      by_case : (written ≡ own) ⊎ (written ≡ parity_member a stripe) → written < a.members
      by_case (inl e) = rw e own-here
      by_case (inr e) = rw e (place_sound a stripe (parity_member a stripe) (parity_sound a stripe own own-place)).here

  -- the block that was written is the one after the update, and the others are those before it
  written-long : length (block_of (format_at a) after written) ≡ (format_at a).block_length
  written-long = length-span ((format_at a).block_length * written) (format_at a).block_length after (member_room a stripe (length after) written taken-after written-here)

  cut-written : block_of (format_at a) cut written ≡ block_of (format_at a) after written
  cut-written = block_written (format_at a) before written (block_of (format_at a) after written) written-long (member_room a stripe (length before) written taken-before written-here)

  cut-kept : (k : ℕ) → k ≢ written → block_of (format_at a) cut k ≡ block_of (format_at a) before k
  cut-kept k ne = block-kept (format_at a) before written k (block_of (format_at a) after written) written-long ne

  cut-long : length cut ≡ stripe_length a
  cut-long = length-sets before ((format_at a).block_length * written) (block_of (format_at a) after written) ∙ (scrub_sound a stripe (length before) taken-before).1

  cut-good : (k : ℕ) → k < a.members → good a stripe k (block_of (format_at a) cut k) ≡ true
  cut-good k h = by_member (ℕ_discrete k written)
    where
      by_member : Dec (k ≡ written) → good a stripe k (block_of (format_at a) cut k) ≡ true
      by_member (yes e) = rw (e, cut-written) (((scrub_clean a stripe after taken-after).0 after-clean).0 written written-here)
      by_member (no ne) = rw (cut-kept k ne) (((scrub_clean a stripe before taken-before).0 cut_short.was_clean).0 k h)

  -- so the cut stripe differs in the block's own place alone from a clean one, the one before the update or the one after it
  either_way : {A : Type 0} (f : List ℕ → A) (with : A → A → A) (made : A) → ((x y z : A) → with (with x y) z ≡ with (with x z) y)
      → ((right : List ℕ) → scrub_numbers a stripe right ≡ clean → ((k : ℕ) → k < a.members → k ≢ own → block_of (format_at a) cut k ≡ block_of (format_at a) right k)
      → made ≡ with (with (f (block_of (format_at a) right lost)) (f (block_of (format_at a) right own))) (f (block_of (format_at a) cut own)))
      → made ≡ with (with (f (block_of (format_at a) before lost)) (f (block_of (format_at a) before own))) (f (block_of (format_at a) after own))
  either_way {A} f with made swap left = by_case cut_short.one_of_two
    where
      x : A
      x = f (block_of (format_at a) before lost)

      y : A
      y = f (block_of (format_at a) before own)

      z : A
      z = f (block_of (format_at a) after own)

      by_case : (written ≡ own) ⊎ (written ≡ parity_member a stripe) → made ≡ with (with x y) z
      by_case (inl e) =
          left before cut_short.was_clean (λ k h ne. cut-kept k (λ w. ne (w ∙ e)))
          ∙ ap (λ (b : List ℕ). with (with x y) (f b)) (ap (block_of (format_at a) cut) (sym e) ∙ cut-written ∙ ap (block_of (format_at a) after) e)
      by_case (inr e) =
          left after after-clean (λ k h ne. as_after k ne (ℕ_discrete k written))
          ∙ ap₂ (λ (b c : List ℕ). with (with (f b) z) (f c)) (update_keeps_others a block new before cut_short.done lost lost-apart lost_no_parity) (cut-kept own (λ w. parity_no_block a block (w ∙ e)))
          ∙ swap x z y
        where
          as_after : (k : ℕ) → k ≢ own → Dec (k ≡ written) → block_of (format_at a) cut k ≡ block_of (format_at a) after k
          as_after k ne (yes w) = ap (block_of (format_at a) cut) w ∙ cut-written ∙ ap (block_of (format_at a) after) (sym w)
          as_after k ne (no w) = cut-kept k w ∙ sym (update_keeps_others a block new before cut_short.done k ne (λ p. w (p ∙ sym e)))

  new_data : data_of (format_at a) (block_of (format_at a) after own) ≡ new
  new_data =
      ap (data_of (format_at a)) (update-own a block new before cut_short.done)
      ∙ data_of_tagged a stripe own (moved_guard a stripe own new before) new (replaceable a stripe own (length new) before (refusals a block new before cut_short.done).1).size

  -- the data that are made, and the guard that is left
  pub cut_data : made_data ≡ xors (xors lost_data old_data) new
  cut_data =
      either_way (data_of (format_at a)) xors made_data xors_swap
      (λ right is-clean same. data_left a stripe own lost right cut damaged is-clean own-here lost-here lost-apart same loss.kept)
      ∙ ap (xors (xors lost_data old_data)) new_data

  pub cut-guards : (format_at a).carries ≡ true → left_guard ≡ bit_xor (bit_xor (guard (format_at a) lost_data) (guard (format_at a) old_data)) (guard (format_at a) new)
  cut-guards carrying =
      let F = format_at a in
      let good-before = ((scrub_clean a stripe before taken-before).0 cut_short.was_clean).0 in
      let lost-own = stored-own a stripe lost before (own_data a stripe lost lost_no_parity) (good-before lost lost-here) in
      let own-own = stored-own a stripe own before (own_data a stripe own (parity_no_block a block)) (good-before own own-here) in
      let new-own = stored-own a stripe own after (own_data a stripe own (parity_no_block a block)) (((scrub_clean a stripe after taken-after).0 after-clean).0 own own-here) in
      either_way (stored_guard F) bit_xor left_guard xor_swap
      (λ right is-clean same. guards-left a stripe own lost right cut damaged is-clean own-here lost-here lost-apart same loss.kept carrying)
      ∙ ap₂ bit_xor (ap₂ bit_xor lost-own own-own) (new-own ∙ ap (guard F) new_data)

  -- ---- the cure

  -- the guard that is left is that of the data that are made
  abbrev pub Fits : Type 0
  Fits = left_guard ≡ guard (format_at a) made_data

  -- in data alone: the guards of the lost, the old and the new data combine to that of these data combined
  pub fits_exactly : (format_at a).carries ≡ true → Fits ↔ (bit_xor (bit_xor (guard (format_at a) lost_data) (guard (format_at a) old_data)) (guard (format_at a) new) ≡ guard (format_at a) (xors (xors lost_data old_data) new))
  fits_exactly carrying = (
    λ e. sym (cut-guards carrying) ∙ e ∙ ap (guard (format_at a)) cut_data,
    λ e. cut-guards carrying ∙ e ∙ ap (guard (format_at a)) (sym cut_data),
  )

  others-good : (k : ℕ) → k < a.members → k ≢ lost → good a stripe k (block_of (format_at a) cut k) ≡ true
  others-good k h ne = cut-good k h

  accepted : guards_fit a stripe lost damaged (guard (format_at a) made_data) ≡ true → rebuild_refusal a stripe lost damaged ≡ 0
  accepted fits = rebuild-accepted a stripe lost cut damaged lost-place cut-long loss.as_long loss.kept others-good fits

  module _ (carrying : (format_at a).carries ≡ true) where
    flag_is : guards_fit a stripe lost damaged (guard (format_at a) made_data) ≡ eqb left_guard (guard (format_at a) made_data)
    flag_is = fit_data a stripe lost damaged (guard (format_at a) made_data) carrying lost_no_parity

    fitting : Fits → guards_fit a stripe lost damaged (guard (format_at a) made_data) ≡ true
    fitting e = flag_is ∙ eq-eqb left_guard (guard (format_at a) made_data) e

    unfit : ¬ Fits → guards_fit a stripe lost damaged (guard (format_at a) made_data) ≡ false
    unfit ne = flag_is ∙ ne_eqb left_guard (guard (format_at a) made_data) ne

    -- a rebuild of the lost block is refused exactly if they do not fit, and done exactly if they do
    pub cut-rebuild : ((rebuild_refusal a stripe lost damaged ≡ 9) ↔ (¬ Fits)) × ((rebuild_refusal a stripe lost damaged ≡ 0) ↔ Fits)
    cut-rebuild =
        exactly Fits (rebuild_refusal a stripe lost damaged ≡ 0) (rebuild_refusal a stripe lost damaged ≡ 9) (ℕ_discrete left_guard (guard (format_at a) made_data))
        (λ e. accepted (fitting e))
        (λ ne. rebuild-unfit a stripe lost cut damaged lost-place cut-long loss.as_long loss.kept others-good (unfit ne))
        (λ both. let z : ◌≡◌ {A = ℕ} 0 9 = sym both.0 ∙ both.1 in omega arith)

    -- and so is a read of it, where what stands in its place is bad: refused it leaves the buffer, done it serves those data
    pub cut-read : (out : List ℕ) → length out ≡ (format_at a).data_length → bad a stripe lost (block_of (format_at a) damaged lost) ≡ true
        → (Reads a other damaged out (0 ∷ 9 ∷ 0 ∷ []) out ↔ (¬ Fits)) × (Reads a other damaged out (1 ∷ 0 ∷ 1 ∷ []) made_data ↔ Fits)
    cut-read out room gone =
        let here = loss.same-stripe in
        let is_bad_lem = ap (λ (s : ℕ). bad a s lost (block_of (format_at a) damaged lost)) here ∙ gone in
        let flag : guards_fit a (stripe_of a other) lost damaged (guard (format_at a) made_data) ≡ guards_fit a stripe lost damaged (guard (format_at a) made_data) =
        ap (λ (s : ℕ). guards_fit a s lost damaged (guard (format_at a) made_data)) here in
        let others : (k : ℕ) → k < a.members → k ≢ lost → good a (stripe_of a other) k (block_of (format_at a) damaged k) ≡ true =
        λ k h ne. ap (λ (s : ℕ). good a s k (block_of (format_at a) damaged k)) here ∙ ap (good a stripe k) (loss.kept k h ne) ∙ cut-good k h in
        exactly Fits (Reads a other damaged out (1 ∷ 0 ∷ 1 ∷ []) made_data) (Reads a other damaged out (0 ∷ 9 ∷ 0 ∷ []) out) (ℕ_discrete left_guard (guard (format_at a) made_data))
        (λ e. read-rebuilt a other damaged out loss.there loss.as_long room is_bad_lem others (flag ∙ fitting e))
        (λ ne. read-unfit a other damaged out loss.there loss.as_long room is_bad_lem others (flag ∙ unfit ne))
        (λ both. let z : ◌≡◌ {A = ℕ} 1 0 = ap (λ (l : List ℕ). get_or l 0 0) (both.0.0 ∙ sym both.1.0) in omega arith)

  -- they always fit where the lost data were the same as the old or as the new ones: the others then make the other of the two
  pub alike_fits : (format_at a).carries ≡ true → (lost_data ≡ old_data) ⊎ (lost_data ≡ new) → Fits
  alike_fits carrying alike = (fits_exactly carrying).1 (by_case alike)
    where
      g : List ℕ → ℕ
      g = guard (format_at a)

      same-long : length old_data ≡ length new
      same-long =
          length_data (format_at a) (block_of (format_at a) before own) (length-span ((format_at a).block_length * own) (format_at a).block_length before (member_room a stripe (length before) own taken-before own-here))
          ∙ sym (replaceable a stripe own (length new) before (refusals a block new before cut_short.done).1).size

      cancels : (x y : List ℕ) → length x ≡ length y → bit_xor (bit_xor (g y) (g x)) (g y) ≡ g (xors (xors y x) y)
      cancels x y long =
          ap (λ (k : ℕ). bit_xor k (g y)) (xor_comm (g y) (g x)) ∙ xor-twice (g x) (g y)
          ∙ ap g (sym (ap (λ (d : List ℕ). xors d y) (xors_comm y x (sym long)) ∙ xors-twice x y))

      by_case : (lost_data ≡ old_data) ⊎ (lost_data ≡ new) → bit_xor (bit_xor (g lost_data) (g old_data)) (g new) ≡ g (xors (xors lost_data old_data) new)
      by_case (inl e) =
          ap (λ (d : List ℕ). bit_xor (bit_xor (g d) (g old_data)) (g new)) e ∙ xor_swap (g old_data) (g old_data) (g new) ∙ cancels new old_data (sym same-long)
          ∙ ap g (xors_swap old_data new old_data) ∙ ap (λ (d : List ℕ). g (xors (xors d old_data) new)) (sym e)
      by_case (inr e) =
          ap (λ (d : List ℕ). bit_xor (bit_xor (g d) (g old_data)) (g new)) e ∙ cancels old_data new same-long
          ∙ ap (λ (d : List ℕ). g (xors (xors d old_data) new)) (sym e)

  -- where the parity has the guard of its own data a rebuild is done whatever the data, and the block that it makes is good
  pub cut_unseen : (format_at a).carries ≡ false → (rebuild_refusal a stripe lost damaged ≡ 0)
      × (data_of (format_at a) (block_of (format_at a) (rebuild_bytes a stripe lost damaged) lost) ≡ xors (xors lost_data old_data) new)
      × (good a stripe lost (block_of (format_at a) (rebuild_bytes a stripe lost damaged) lost) ≡ true)
  cut_unseen plain =
      let done = accepted (fit_plain a stripe lost damaged (guard (format_at a) made_data) plain) in
      let left = sym (rebuild-done a stripe lost damaged done) in (
        done,
        ap (λ (l : List ℕ). data_of (format_at a) (block_of (format_at a) l lost)) left ∙ rebuilt_data a stripe lost damaged lost-place loss.as_long ∙ cut_data,
        ap (λ (l : List ℕ). good a stripe lost (block_of (format_at a) l lost)) left ∙ rebuilt-good a stripe lost damaged lost-place loss.as_long small,
      )
