-- THE LAW of stripes at risk: a stripe that was clean, an update of it cut after any store, the array's calls for other stripes in between, and
-- its recovery. Entered, its parity is made anew from its data members, which are good; not entered, it has had no store or all of them.
-- Assumes nothing.
use mathlib.Core.Path.{◌≡◌, refl, sym, ap, ◌∙◌, subst}
use mathlib.Core.Logic.{◌≢◌}
use mathlib.Core.Bool.{Bool, true, false, cond}
use mathlib.Core.List.{List, [], ◌∷◌}
use Prim.Native.Nat.{ℕ, suc, ◌+◌, ◌-◌, ◌<◌}
use native.Mathlib.Numerals.{add-one}
use native.Mathlib.Decide.{ℕ_discrete, dec_lt}
use native.Mathlib.Omega.{arith}
use borrow.Author.Tests.{eq-eqb, ne_eqb, lt-ltb, le-ltb, ltb-true, ltb-false}
use lib.Dec.{eqb, ltb}
use lib.ListN.{length}
use Rattle.layout.specs.Arrays.{block_refusal}
use Rattle.layout.specs.Places.{parity_member, stripe_of, member_of}
use Rattle.layout.specs.Ranges.{SoundStripe}
use Rattle.layout.specs.declared.Array.{Array}
use Rattle.layout.proofs.Ranges.{sound_stripe, place_sound, sound_place}
use Rattle.layout.proofs.Members.{parity-below}
use Rattle.layout.proofs.Bijection.{place-refusal, parity_no_block, block_by_place}
use Rattle.tag.specs.Blocks.{format_at, data_of}
use Rattle.tag.specs.Tags.{good}
use Rattle.tag.proofs.Tagged.{data_of_tagged}
use Rattle.verdict.specs.Verdicts.{says_clean}
use Rattle.stripe.specs.Stripes.{stripe_length, block_of}
use Rattle.stripe.specs.Jobs.{stored_good, update_bytes, rebuilt, Reads}
use Rattle.stripe.specs.Verdicts.{scrub_numbers, scrub_refusal, clean}
use Rattle.stripe.specs.InPart.{part_bytes}
use Rattle.stripe.proofs.Blocks.{same_blocks}
use Rattle.stripe.proofs.Others.{good_others}
use Rattle.stripe.proofs.Scrubs.{sound_scrub, scrub_clean}
use Rattle.stripe.proofs.ScrubTaken.{scrub_taken}
use Rattle.stripe.proofs.Served.{read-stored}
use Rattle.stripe.proofs.Restores.{rebuilt-others, length-rebuilt}
use Rattle.stripe.proofs.RebuildClean.{rebuild-clean}
use Rattle.stripe.proofs.Updates.{replaceable, moved_guard}
use Rattle.stripe.proofs.Updated.{refusals, update-own, update_keeps_good}
use Rattle.stripe.proofs.Clean.{update_stays_clean}
use Rattle.stripe.proofs.InParts.{Stored, stored, part_of_none, part_of_all}
use Rattle.intent.specs.Records.{entries, many, named, struck, entries_fit}
use Rattle.intent.specs.Calls.{recorded_refusal, log_after, recorded_log, recorded_bytes, recover_refusal, data_good, recover_numbers, recover_bytes, recover_log}
use Rattle.intent.specs.Meanwhile.{Meanwhile, Untouched}
use Rattle.intent.specs.AfterCut.{AfterCut}
use Rattle.intent.proofs.Counted.{fit-fits}
use Rattle.intent.proofs.Logs.{Accepted, accepted, own_sound, After, log_after_lem, Same, meanwhile_same, struck_log, struck_gone, struck_other}
use Rattle.intent.proofs.Calling.{recover_by_log, log_fit, recovery_absent, recovery_made, remade-done, remade-taken}

module _ (a : Array) (block : ℕ) (new before log : List ℕ) (stores : ℕ) (small : a.volume < 256) (taken : recorded_refusal a block (length new) before log ≡ 0)
    (was_clean : scrub_numbers a (stripe_of a block) before ≡ clean) where
  abbrev s : ℕ
  s = stripe_of a block

  abbrev own : ℕ
  own = member_of a block

  abbrev parity : ℕ
  parity = parity_member a s

  ok : Accepted a block (length new) before log
  ok = accepted a block (length new) before log taken

  sound : SoundStripe a s
  sound = own_sound a block ok.there

  scrubbed : scrub_refusal a s (length before) ≡ 0
  scrubbed = scrub_taken a s before (0 ∷ says_clean) was_clean

  all-good : (m : ℕ) → m < a.members → good a s m (block_of (format_at a) before m) ≡ true
  all-good = ((scrub_clean a s before scrubbed).0 was_clean).0

  own_in : own < a.members
  own_in = (place_sound a s own (place-refusal a block ok.there)).here

  parity_in : parity < a.members
  parity_in = parity-below a s (omega (arith, sound.array.few))

  -- ---- what the cut left

  abbrev cut : List ℕ
  cut = part_bytes a block new before (stores - 1)

  cut-bytes : recorded_bytes a block new before log stores ≡ cut
  unfolding recorded_bytes
  cut-bytes = rw (eq-eqb (recorded_refusal a block (length new) before log) 0 taken)

  cut_log : recorded_log a block new before log stores ≡ log_after s log stores
  unfolding recorded_log
  cut_log = rw (eq-eqb (recorded_refusal a block (length new) before log) 0 taken)

  after_it : After a s log sound ok.logged ok.free ok.new (log_after s log stores) stores
  after_it = log_after_lem a s log sound ok.logged ok.free ok.new stores

  kept : Stored a block new before ok.done (stores - 1) cut
  kept = stored a block new before ok.done (stores - 1)

  abbrev old : List ℕ
  old = data_of (format_at a) (block_of (format_at a) before own)

  new-there : data_of (format_at a) (block_of (format_at a) (update_bytes a block new before) own) ≡ new
  new-there =
      ap (data_of (format_at a)) (update-own a block new before ok.done)
      ∙ data_of_tagged a s own (moved_guard a s own new before) new (replaceable a s own (length new) before (refusals a block new before ok.done).1).size

  -- the block holds the old data or the new
  own-cut : data_of (format_at a) (block_of (format_at a) cut own) ≡ cond (ltb stores 2) old new
  own-cut = ap (data_of (format_at a)) kept.own_block ∙ by_stores (dec_lt stores 2)
    where
      by_stores : Dec (stores < 2)
          → data_of (format_at a) (cond (eqb (stores - 1) 0) (block_of (format_at a) before own) (block_of (format_at a) (update_bytes a block new before) own)) ≡ cond (ltb stores 2) old new
      by_stores (yes l) = rw (eq-eqb (stores - 1) 0 (omega arith), lt-ltb stores 2 l)
      by_stores (no l) = rw (ne_eqb (stores - 1) 0 (λ e. omega arith), le-ltb stores 2 (omega arith)) new-there

  -- and every data member is good
  good-cut : (m : ℕ) → m < a.members → m ≢ parity → good a s m (block_of (format_at a) cut m) ≡ true
  good-cut m h p = by_member (ℕ_discrete m own)
    where
      each : (f : Bool) → good a s own (cond f (block_of (format_at a) before own) (block_of (format_at a) (update_bytes a block new before) own)) ≡ true
      each true = all-good own own_in
      each false = update_keeps_good a block new before ok.done small own (all-good own own_in)

      by_member : Dec (m ≡ own) → good a s m (block_of (format_at a) cut m) ≡ true
      by_member (yes e) =
          subst (λ (k : ℕ). good a s k (block_of (format_at a) cut k) ≡ true) (sym e) (ap (good a s own) kept.own_block ∙ each (eqb (stores - 1) 0))
      by_member (no o) = ap (good a s m) (kept.other_blocks m o p) ∙ all-good m h

  -- ---- the recovery

  module _ (found last : List ℕ) (others : Meanwhile a s (recorded_log a block new before log stores) last)
      (same : Untouched a s (recorded_log a block new before log stores) (recorded_bytes a block new before log stores) found) where
    held : Same a s (log_after s log stores) last
    held = meanwhile_same a s (subst (λ (x : List ℕ). Meanwhile a s x last) cut_log others) after_it.logged

    found-long : length found ≡ stripe_length a
    found-long = same.long ∙ ap length cut-bytes ∙ kept.long ∙ ok.long

    found_data : (m : ℕ) → m < a.members → m ≢ parity → block_of (format_at a) found m ≡ block_of (format_at a) cut m
    found_data m h p = same.same_data m h p ∙ ap (λ (x : List ℕ). block_of (format_at a) x m) cut-bytes

    sources : data_good a s found ≡ true
    sources = good_others a s parity found (λ m h p. ap (good a s m) (found_data m h p) ∙ good-cut m h p)

    found-taken : scrub_refusal a s (length found) ≡ 0
    found-taken = sound_scrub a s (length found) (sound_stripe a s sound) found-long

    recovered : recover_refusal a s (length found) last ≡ 0
    recovered =
        sym (log_fit a last (fit-fits a.stripes (entries last) held.logged.fit) ∙ recover_by_log a s (length found) last found-taken held.logged.room)

    -- a clean stripe whose data blocks are those of the cut reads so
    reading : (left : List ℕ) → scrub_numbers a s left ≡ clean → length left ≡ stripe_length a
        → ((m : ℕ) → m < a.members → m ≢ parity → block_of (format_at a) left m ≡ block_of (format_at a) cut m)
        → (other : ℕ) → block_refusal a other ≡ 0 → stripe_of a other ≡ s → (out : List ℕ) → length out ≡ (format_at a).data_length
        → Reads a other left out (1 ∷ 0 ∷ 0 ∷ []) (data_of (format_at a) (block_of (format_at a) cut (member_of a other)))
    reading left fine long as-cut other there here out room =
        let m = member_of a other in
        let inside : m < a.members = (place_sound a (stripe_of a other) m (place-refusal a other there)).here in
        let apart : m ≢ parity = λ e. parity_no_block a other (e ∙ ap (parity_member a) (sym here)) in
        let goods = ((scrub_clean a s left (scrub_taken a s left (0 ∷ says_clean) fine)).0 fine).0 m inside in
        let h = read-stored a other left out there long room (ap (λ (k : ℕ). stored_good a k m left) here ∙ goods) in
        (h.0, sym (ap (data_of (format_at a)) (as-cut m inside apart)) ∙ h.1)

    -- another block of the stripe is on another member, and was not written
    other_cut : (other : ℕ) → block_refusal a other ≡ 0 → stripe_of a other ≡ s → other ≢ block
        → data_of (format_at a) (block_of (format_at a) cut (member_of a other)) ≡ data_of (format_at a) (block_of (format_at a) before (member_of a other))
    other_cut other there here ne =
        ap (data_of (format_at a))
        (kept.other_blocks (member_of a other) (λ e. ne (block_by_place a other block here e)) (λ e. parity_no_block a other (e ∙ ap (parity_member a) (sym here))))

    -- what is left in either case
    left_so : (numbers left later : List ℕ) → numbers ≡ 1 ∷ 0 ∷ cond (named s last) 1 0 ∷ 0 ∷ [] → (named s last ≡ false → (left ≡ found) × (later ≡ last))
        → scrub_numbers a s left ≡ clean → length left ≡ stripe_length a
        → ((m : ℕ) → m < a.members → m ≢ parity → block_of (format_at a) left m ≡ block_of (format_at a) cut m)
        → named s later ≡ false → ((t : ℕ) → t ≢ s → named t later ≡ named t last) → entries_fit a.stripes (entries later) ≡ true
        → AfterCut a block new before stores found last numbers left later
    left_so numbers left later told none fine long as-cut gone rest fits =
        record {
          answered = told;
          not_entered = none;
          clean_again = fine;
          old-or-new = λ out room. let h = reading left fine long as-cut block ok.there refl out room in (h.0, sym own-cut ∙ h.1);
          others-kept = λ other there here ne out room. let h = reading left fine long as-cut other there here out room in (h.0, sym (other_cut other there here ne) ∙ h.1);
          struck-out = gone;
          other_stripes = rest;
          still_fits_lem = fits;
        }

    -- entered: the parity is made anew
    while_open : named s last ≡ true → AfterCut a block new before stores found last (recover_numbers a s found last) (recover_bytes a s found last) (recover_log a s found last)
    while_open is =
        let there : 0 < many (suc s) (entries last) = ltb-true 0 (many (suc s) (entries last)) is in
        let r = recovery_made a s found last recovered (1 ∷ 0 ∷ 1 ∷ 0 ∷ []) (rebuilt a s parity found) (struck s last) there (rw sources refl) (rw sources refl) (rw sources refl) in
        let done = remade-taken a s parity found found-taken refl sources in
        let place = sound_place a s parity (record { stripe = sound; here = parity_in }) in
        rw (← r.0, ← r.1.0, ← r.1.1)
        (left_so (1 ∷ 0 ∷ 1 ∷ 0 ∷ []) (rebuilt a s parity found) (struck s last) (rw is refl) (λ no_name. absurd (never (sym is ∙ no_name)))
        (ap (scrub_numbers a s) (sym (remade-done a s parity found found-taken refl done).1) ∙ rebuild-clean a s parity found done small)
        (length-rebuilt a s parity found place found-long)
        (λ m h p. rebuilt-others a s parity found place found-long m p ∙ found_data m h p)
        (le-ltb 0 (many (suc s) (entries (struck s last))) (omega (arith, struck_gone a s last sound held.logged there)))
        (λ t ne. ap (ltb 0) (struck_other a s last sound held.logged there t ne))
        (fit-fits a.stripes (entries (struck s last)) (struck_log a s last sound held.logged there).fit))
      where
        never : true ≡ false → ⊥
        never e = let z : ◌≡◌ {A = ℕ} 0 1 = cc in omega arith

    -- not entered: nothing is done, and nothing need be
    while_closed : named s last ≡ false → found ≡ cut → scrub_numbers a s cut ≡ clean
        → AfterCut a block new before stores found last (recover_numbers a s found last) (recover_bytes a s found last) (recover_log a s found last)
    while_closed is whole fine =
        let none : many (s + 1) (entries last) ≡ 0 = ap (λ (k : ℕ). many k (entries last)) (add-one s) ∙ (let l = ltb-false 0 (many (suc s) (entries last)) is in omega arith) in
        let r = recovery_absent a s found last recovered none in
        rw (← r.0, ← r.1.0, ← r.1.1)
        (left_so (1 ∷ 0 ∷ 0 ∷ 0 ∷ []) found last (rw is refl) (λ e. (refl, refl)) (ap (scrub_numbers a s) whole ∙ fine) found-long found_data is (λ t ne. refl)
        (fit-fits a.stripes (entries last) held.logged.fit))

    -- THE LAW
    pub cut_recovered : AfterCut a block new before stores found last (recover_numbers a s found last) (recover_bytes a s found last) (recover_log a s found last)
    cut_recovered = by_stores (dec_lt stores 1) (dec_lt stores 4)
      where
        name_of : (k : ℕ) → many (suc s) (entries (log_after s log stores)) ≡ k → named s last ≡ ltb 0 k
        name_of k e = ap (ltb 0) (held.named_as ∙ e)

        all_same : many (suc s) (entries (log_after s log stores)) ≡ 0 → found ≡ cut
        all_same none =
            same_blocks (format_at a) a.members found cut found-long (kept.long ∙ ok.long) (λ m h. at m h (ℕ_discrete m parity))
          where
            at : (m : ℕ) → m < a.members → Dec (m ≡ parity) → block_of (format_at a) found m ≡ block_of (format_at a) cut m
            at m h (no ne) = found_data m h ne
            at m h (yes e) =
                ap (block_of (format_at a) found) e
                ∙ same.same-parity (ap (λ (x : List ℕ). named s x) cut_log ∙ ap (ltb 0) none)
                ∙ ap (λ (x : List ℕ). block_of (format_at a) x parity) cut-bytes ∙ ap (block_of (format_at a) cut) (sym e)

        by_stores : Dec (stores < 1) → Dec (stores < 4) → AfterCut a block new before stores found last (recover_numbers a s found last) (recover_bytes a s found last) (recover_log a s found last)
        by_stores (yes l) d =
            let none = after_it.before l in
            while_closed (name_of 0 none) (all_same none) (ap (scrub_numbers a s) (part_of_none a block new before (stores - 1) ok.done (omega arith)) ∙ was_clean)
        by_stores (no l) (yes k) = while_open (name_of 1 (after_it.begun (omega arith) k))
        by_stores (no l) (no k) =
            let none = after_it.closed (omega arith) in
            while_closed (name_of 0 none) (all_same none)
            (ap (scrub_numbers a s) (part_of_all a block new before (stores - 1) ok.done (omega arith)) ∙ update_stays_clean a block new before ok.done small scrubbed was_clean)
