-- What the calls answer and leave in each case, from what the code's steps tell. Assumes nothing.
use mathlib.Core.Path.{◌≡◌, refl, sym, ap, ◌∙◌}
use mathlib.Core.Logic.{◌≢◌}
use mathlib.Core.Bool.{Bool, true, false, not, cond, ◌&&◌}
use mathlib.Core.List.{List, [], ◌∷◌}
use Prim.Native.Nat.{ℕ, zero, suc, ◌+◌, ◌-◌, ◌≤◌, ◌<◌}
use native.Mathlib.Numerals.{add-one}
use native.Mathlib.Omega.{arith}
use borrow.Author.Tests.{eq-eqb, ne_eqb, eqb-true, lt-ltb, le-ltb}
use lib.Dec.{eqb, ltb}
use lib.ListN.{length}
use Rattle.layout.specs.Answers.{refuse, after, answer}
use Rattle.layout.specs.Arrays.{stripe_refusal, block_refusal}
use Rattle.layout.specs.Places.{parity_member, stripe_of, place_numbers, owner_refusal}
use Rattle.layout.specs.declared.Array.{Array}
use Rattle.layout.proofs.Answers.{refuse-none}
use Rattle.layout.proofs.Ranges.{both, stripe_sound, sound_place}
use Rattle.layout.proofs.Members.{parity-below}
use Rattle.tag.specs.Blocks.{format_at}
use Rattle.format.specs.Formats.{guard}
use Rattle.stripe.specs.Stripes.{stripe_length, others_good, others_data}
use Rattle.stripe.specs.Jobs.{update_refusal, rebuild_refusal, rebuilt, rebuild_bytes}
use Rattle.stripe.specs.Verdicts.{scrub_refusal}
use Rattle.stripe.specs.InPart.{part_bytes, first_amiss}
use Rattle.stripe.proofs.Served.{refused_by_place}
use Rattle.stripe.proofs.Scrubs.{scrub_sound, sound_scrub}
use Rattle.stripe.proofs.Rebuilds.{rebuild_sources, sources_rebuild, rebuild-done}
use Rattle.stripe.proofs.Carried.{fit-parity}
use Rattle.stripe.proofs.InParts.{part_refused}
use Rattle.intent.specs.Records.{log_length, entries, many, named, entered, struck, entries_fit, log_refusal, entry_refusal}
use Rattle.intent.specs.Calls.{open_refusal, recorded_refusal, log_after, recorded_log, recorded_bytes, recover_refusal, data_good, recover_numbers, recovers, recover_bytes, recover_log}
use Rattle.intent.proofs.Logs.{after_none}

-- ---- one test after another

-- what the later tests give, where this one refuses nothing
pub passed : (n later told : ℕ) → 0 ≡ n → told ≡ later → told ≡ after n later
passed n later told z e = e ∙ ap (λ (k : ℕ). after k later) z

-- ---- the record decides: 16, 14, 15

module _ (a : Array) (stripe : ℕ) (log : List ℕ) where
  abbrev pub entry_number : ℕ
  entry_number = after (log_refusal a log) (entry_refusal stripe log)

  pub entry_steps : (fits : Bool) (free twice : ℕ) → fits ≡ entries_fit a.stripes (entries log) → free ≡ many 0 (entries log)
      → twice ≡ many (stripe + 1) (entries log) → after (cond fits 0 16) (after (cond (not (eqb free 0)) 0 14) (cond (eqb twice 0) 0 15)) ≡ entry_number
  unfolding log_refusal entry_refusal
  entry_steps fits free twice e f g =
      by_tests fits (eqb free 0) twice ∙ rw (e, f, g, add-one)
    where
      by_tests : (f e : Bool) (n : ℕ) → after (cond f 0 16) (after (cond (not e) 0 14) (cond (eqb n 0) 0 15)) ≡ after (refuse (not f) 16 0) (refuse e 14 (refuse (ltb 0 n) 15 0))
      by_tests false e n = refl
      by_tests true true n = refl
      by_tests true false zero = refl
      by_tests true false (suc n) = rw (ne_eqb (suc n) 0 (λ z. omega arith), lt-ltb 0 (suc n) (omega arith))

  pub record_unfit : entries_fit a.stripes (entries log) ≡ false → 16 ≡ entry_number
  unfolding log_refusal
  record_unfit h = rw h

  module _ (fits : entries_fit a.stripes (entries log) ≡ true) where
    pub record_full : many 0 (entries log) ≡ 0 → 14 ≡ entry_number
    unfolding log_refusal entry_refusal
    record_full h = rw (fits, h)

    module _ (free : many 0 (entries log) ≢ 0) where
      pub record_names : many (stripe + 1) (entries log) ≢ 0 → 15 ≡ entry_number
      unfolding log_refusal entry_refusal
      record_names h =
          let some : 0 < many (suc stripe) (entries log) = let k : many (suc stripe) (entries log) ≢ 0 = λ e. h (ap (λ (x : ℕ). many x (entries log)) (add-one stripe) ∙ e) in omega arith in
          rw (fits, ne_eqb (many 0 (entries log)) 0 free, lt-ltb 0 (many (suc stripe) (entries log)) some)

      pub record_open : many (stripe + 1) (entries log) ≡ 0 → 0 ≡ entry_number
      unfolding log_refusal entry_refusal
      record_open h =
          let none : many (suc stripe) (entries log) ≡ 0 = ap (λ (x : ℕ). many x (entries log)) (sym (add-one stripe)) ∙ h in
          rw (fits, ne_eqb (many 0 (entries log)) 0 free, le-ltb 0 (many (suc stripe) (entries log)) (omega arith))

-- ---- the lengths before it: 6

module _ (a : Array) (stripe newBytes stripeBytes : ℕ) (log : List ℕ) where
  pub open_steps : (size : ℕ) → stripe_refusal a stripe ≡ 0 → size ≡ (format_at a).data_length → length log ≡ log_length
      → after (scrub_refusal a stripe stripeBytes) (after (cond (eqb newBytes size) 0 6) (entry_number a stripe log)) ≡ open_refusal a stripe newBytes stripeBytes log
  unfolding open_refusal scrub_refusal
  open_steps size sound e long =
      rw (sound, e, eq-eqb (length log) log_length long) (by_tests (eqb stripeBytes (stripe_length a)) (eqb newBytes (format_at a).data_length) (entry_number a stripe log))
    where
      by_tests : (f g : Bool) (n : ℕ) → after (refuse (not f) 6 0) (after (cond g 0 6) n) ≡ refuse (not (f && (g && true))) 6 n
      by_tests false g n = refl
      by_tests true false n = refl
      by_tests true true n = refl

  -- a record of another length
  pub open_other_log : length log ≢ log_length → 6 ≡ open_refusal a stripe newBytes stripeBytes log
  unfolding open_refusal
  open_other_log h =
      rw (ne_eqb (length log) log_length h) (by_tests (eqb stripeBytes (stripe_length a)) (eqb newBytes (format_at a).data_length) (entry_number a stripe log))
    where
      by_tests : (f g : Bool) (n : ℕ) → 6 ≡ refuse (not (f && (g && false))) 6 n
      by_tests false g n = refl
      by_tests true false n = refl
      by_tests true true n = refl

  pub open_long : stripeBytes ≡ stripe_length a → newBytes ≡ (format_at a).data_length → length log ≡ log_length
      → after (log_refusal a log) (entry_refusal stripe log) ≡ open_refusal a stripe newBytes stripeBytes log
  unfolding open_refusal
  open_long l n r = rw (eq-eqb stripeBytes (stripe_length a) l, eq-eqb newBytes (format_at a).data_length n, eq-eqb (length log) log_length r)

  -- and back
  pub open_told : open_refusal a stripe newBytes stripeBytes log ≡ 0 → (length log ≡ log_length) × (entry_refusal stripe log ≡ 0)
  unfolding open_refusal
  open_told e =
      let lengths = eqb stripeBytes (stripe_length a) && (eqb newBytes (format_at a).data_length && eqb (length log) log_length) in
      let q = refuse-none lengths 5 (after (log_refusal a log) (entry_refusal stripe log)) e in
      let l₁ = both (eqb stripeBytes (stripe_length a)) (eqb newBytes (format_at a).data_length && eqb (length log) log_length) q.0 in
      let l₂ = both (eqb newBytes (format_at a).data_length) (eqb (length log) log_length) l₁.1 in
      (eqb-true (length log) log_length l₂.1, (after_none (log_refusal a log) (entry_refusal stripe log) q.1).1)

-- ---- the log after its stores

module _ (stripe : ℕ) (log : List ℕ) (stores : ℕ) where
  pub none-stored : stores ≡ 0 → log ≡ log_after stripe log stores
  unfolding log_after
  none-stored e = rw (lt-ltb stores 1 (omega arith))

  pub enter_stored : stores ≢ 0 → stores < 4 → entered stripe log ≡ log_after stripe log stores
  unfolding log_after
  enter_stored n h = rw (le-ltb stores 1 (omega arith), lt-ltb stores 4 h)

  pub strike_stored : 4 ≤ stores → struck stripe (entered stripe log) ≡ log_after stripe log stores
  unfolding log_after
  strike_stored h = rw (le-ltb stores 1 (omega arith), le-ltb stores 4 h)

-- ---- the update

module _ (a : Array) (block : ℕ) (new bytes log : List ℕ) (stores : ℕ) where
  abbrev refusal : ℕ
  refusal = recorded_refusal a block (length new) bytes log

  -- the refusal number, and what is left in the stripe and in the log
  abbrev pub Leaves : ℕ → List ℕ → List ℕ → Type 0
  Leaves number left last =
      (number ≡ refusal) × ((left ≡ recorded_bytes a block new bytes log stores) × (last ≡ recorded_log a block new bytes log stores))

  refused : (number : ℕ) → number ≡ refusal → number ≢ 0 → Leaves number bytes log
  unfolding recorded_bytes recorded_log
  refused number e h = let off = ne_eqb refusal 0 (λ z. h (e ∙ z)) in (e, (rw off, rw off))

  pub update_nowhere : (number : ℕ) → 0 ∷ number ∷ 0 ∷ 0 ∷ [] ≡ place_numbers a block → Leaves number bytes log
  unfolding recorded_refusal
  update_nowhere number e = let h = refused_by_place a block number e in by_number number h.0 h.1
    where
      by_number : (n : ℕ) → block_refusal a block ≡ n → n ≢ 0 → Leaves n bytes log
      by_number zero r h = absurd (h refl)
      by_number (suc n) r h = refused (suc n) (rw r) h

  module _ (stripe : ℕ) (there : block_refusal a block ≡ 0) (own : stripe ≡ stripe_of a block) where
    abbrev opening : ℕ
    opening = open_refusal a stripe (length new) (length bytes) log

    refusal_is : refusal ≡ after opening (update_refusal a block (length new) bytes)
    unfolding recorded_refusal
    refusal_is = rw (there, ← own)

    pub update-closed : (number : ℕ) → number ≡ opening → number ≢ 0 → Leaves number bytes log
    update-closed number e h = refused number (by_number opening e ∙ sym refusal_is) h
      where
        by_number : (n : ℕ) → number ≡ n → number ≡ after n (update_refusal a block (length new) bytes)
        by_number zero e = absurd (h e)
        by_number (suc n) e = e

    module _ (opened : opening ≡ 0) where
      last_is : refusal ≡ update_refusal a block (length new) bytes
      last_is = refusal_is ∙ rw opened refl

      pub update-damaged : (number : ℕ) (left : List ℕ) → number ≡ update_refusal a block (length new) bytes → number ≢ 0
          → left ≡ part_bytes a block new bytes (stores - 1) → Leaves number left log
      update-damaged number left e h k =
          let r = refused number (e ∙ sym last_is) h in
          let same : left ≡ bytes = k ∙ part_refused a block new bytes (stores - 1) (λ z. h (e ∙ z)) in
          (r.0, (same ∙ r.1.0, r.1.1))

      pub update-stored : (number : ℕ) (left last : List ℕ) → number ≡ update_refusal a block (length new) bytes → number ≡ 0
          → left ≡ part_bytes a block new bytes (stores - 1) → last ≡ log_after stripe log stores → Leaves 0 left last
      unfolding recorded_bytes recorded_log
      update-stored number left last e z k l =
          let zero_is : refusal ≡ 0 = last_is ∙ sym e ∙ z in
          let on = eq-eqb refusal 0 zero_is in
          (sym zero_is, (rw on k, rw (on, ← own) l))

-- ---- the recovery: refusals

module _ (a : Array) (stripe stripeBytes : ℕ) (log : List ℕ) where
  pub recover_steps : after (scrub_refusal a stripe stripeBytes) (after (cond (eqb (length log) log_length) 0 6) (log_refusal a log)) ≡ recover_refusal a stripe stripeBytes log
  unfolding scrub_refusal recover_refusal
  recover_steps =
      by_tests (stripe_refusal a stripe) (eqb stripeBytes (stripe_length a)) (eqb (length log) log_length) (log_refusal a log)
    where
      by_tests : (n : ℕ) (f g : Bool) (l : ℕ) → after (after n (refuse (not f) 6 0)) (after (cond g 0 6) l) ≡ after n (refuse (not (f && g)) 6 l)
      by_tests (suc n) f g l = refl
      by_tests zero false g l = refl
      by_tests zero true false l = refl
      by_tests zero true true l = refl

  -- a record of another length
  pub recover_other_log : scrub_refusal a stripe stripeBytes ≡ 0 → length log ≢ log_length → 6 ≡ recover_refusal a stripe stripeBytes log
  unfolding recover_refusal
  recover_other_log taken h =
      let s = scrub_sound a stripe stripeBytes taken in
      rw (s.0, eq-eqb stripeBytes (stripe_length a) s.1, ne_eqb (length log) log_length h)

  pub recover_by_log : scrub_refusal a stripe stripeBytes ≡ 0 → length log ≡ log_length → log_refusal a log ≡ recover_refusal a stripe stripeBytes log
  unfolding recover_refusal
  recover_by_log taken h =
      let s = scrub_sound a stripe stripeBytes taken in
      rw (s.0, eq-eqb stripeBytes (stripe_length a) s.1, eq-eqb (length log) log_length h)

  -- and back
  pub recover_told : recover_refusal a stripe stripeBytes log ≡ 0 → (scrub_refusal a stripe stripeBytes ≡ 0) × ((length log ≡ log_length) × (log_refusal a log ≡ 0))
  unfolding recover_refusal
  recover_told e =
      let lengths = eqb stripeBytes (stripe_length a) && eqb (length log) log_length in
      let p = after_none (stripe_refusal a stripe) (refuse (not lengths) 6 (log_refusal a log)) e in
      let q = refuse-none lengths 5 (log_refusal a log) p.1 in
      let l = both (eqb stripeBytes (stripe_length a)) (eqb (length log) log_length) q.0 in
      (sound_scrub a stripe stripeBytes p.0 (eqb-true stripeBytes (stripe_length a) l.0), (eqb-true (length log) log_length l.1, q.1))

pub log_told : (a : Array) (log : List ℕ) (fits : Bool) → fits ≡ entries_fit a.stripes (entries log) → cond fits 0 16 ≡ log_refusal a log
unfolding log_refusal
log_told a log fits e =
    rw e (by_test (entries_fit a.stripes (entries log)))
  where
    by_test : (f : Bool) → cond f 0 16 ≡ refuse (not f) 16 0
    by_test true = refl
    by_test false = refl

pub log_fit : (a : Array) (log : List ℕ) → entries_fit a.stripes (entries log) ≡ true → 0 ≡ log_refusal a log
unfolding log_refusal
log_fit a log h = rw h

-- ---- the recovery: what it leaves

module _ (a : Array) (stripe : ℕ) (bytes log : List ℕ) where
  -- the answer in numbers, and what is left in the stripe and in the log
  abbrev pub Recovers : List ℕ → List ℕ → List ℕ → Type 0
  Recovers numbers left last =
      (numbers ≡ recover_numbers a stripe bytes log) × ((left ≡ recover_bytes a stripe bytes log) × (last ≡ recover_log a stripe bytes log))

  abbrev pub known : Bool
  known = data_good a stripe bytes

  pub recovery_refused : (number : ℕ) → number ≡ recover_refusal a stripe (length bytes) log → number ≢ 0 → Recovers (0 ∷ number ∷ 0 ∷ 0 ∷ []) bytes log
  unfolding recover_numbers recover_bytes recover_log recovers
  recovery_refused number e h =
      let off = ne_eqb (recover_refusal a stripe (length bytes) log) 0 (λ z. h (e ∙ z)) in (
        ap (λ (n : ℕ). 0 ∷ n ∷ 0 ∷ 0 ∷ []) e ∙ sym (by_flags (named stripe log) known (recover_refusal a stripe (length bytes) log) (λ z. h (e ∙ z))),
        (rw off, rw off),
      )
    where
      by_flags : (f g : Bool) (n : ℕ) → n ≢ 0 → answer n (cond f (cond g (1 ∷ 0 ∷ []) (2 ∷ first_amiss a stripe bytes ∷ [])) (0 ∷ 0 ∷ [])) ≡ 0 ∷ n ∷ 0 ∷ 0 ∷ []
      by_flags f g zero h = absurd (h refl)
      by_flags true true (suc n) h = refl
      by_flags true false (suc n) h = refl
      by_flags false g (suc n) h = refl

  module _ (taken : recover_refusal a stripe (length bytes) log ≡ 0) where
    pub recovery_absent : many (stripe + 1) (entries log) ≡ 0 → Recovers (1 ∷ 0 ∷ 0 ∷ 0 ∷ []) bytes log
    unfolding recover_numbers recover_bytes recover_log recovers
    recovery_absent h =
        let none : named stripe log ≡ false = le-ltb 0 (many (suc stripe) (entries log)) (let z : many (suc stripe) (entries log) ≡ 0 = ap (λ (x : ℕ). many x (entries log)) (sym (add-one stripe)) ∙ h in omega arith) in
        (rw (taken, none), (rw (taken, none), rw (taken, none)))

    pub recovery_made : (numbers left last : List ℕ) → 0 < many (suc stripe) (entries log)
        → numbers ≡ 1 ∷ 0 ∷ cond known (1 ∷ 0 ∷ []) (2 ∷ first_amiss a stripe bytes ∷ [])
        → left ≡ cond known (rebuilt a stripe (parity_member a stripe) bytes) bytes → last ≡ cond known (struck stripe log) log → Recovers numbers left last
    unfolding recover_numbers recover_bytes recover_log recovers
    recovery_made numbers left last h n l k =
        let there : named stripe log ≡ true = lt-ltb 0 (many (suc stripe) (entries log)) h in
        (rw (taken, there) n, (rw (taken, there) l, rw (taken, there) k))

-- ---- the parity made from the data members, or which of them stands in the way

module _ (a : Array) (stripe parity : ℕ) (bytes : List ℕ) (taken : scrub_refusal a stripe (length bytes) ≡ 0) (is : parity ≡ parity_member a stripe) where
  abbrev remade : List ℕ
  remade = rebuilt a stripe (parity_member a stripe) bytes

  pub remade-done : rebuild_refusal a stripe parity bytes ≡ 0 → (data_good a stripe bytes ≡ true) × (rebuild_bytes a stripe parity bytes ≡ remade)
  remade-done e =
      (ap (λ (m : ℕ). others_good a stripe m bytes) (sym is) ∙ (rebuild_sources a stripe parity bytes e).others, sym (rebuild-done a stripe parity bytes e) ∙ ap (λ (m : ℕ). rebuilt a stripe m bytes) is)

  -- good data members are all that it takes
  pub remade-taken : data_good a stripe bytes ≡ true → rebuild_refusal a stripe parity bytes ≡ 0
  remade-taken e =
      let s = scrub_sound a stripe (length bytes) taken in
      let sound = stripe_sound a stripe s.0 in
      sources_rebuild a stripe parity bytes
      (record {
        place = ap (λ (m : ℕ). owner_refusal a stripe m) is ∙ sound_place a stripe (parity_member a stripe) (record { stripe = sound; here = parity-below a stripe (omega (arith, sound.array.few)) });
        long = s.1;
        others = ap (λ (m : ℕ). others_good a stripe m bytes) is ∙ e;
        fits = fit-parity a stripe parity bytes (guard (format_at a) (others_data (format_at a) a.members parity bytes)) is;
      })

  pub remade-not : rebuild_refusal a stripe parity bytes ≢ 0 → (data_good a stripe bytes ≡ false) × (rebuild_bytes a stripe parity bytes ≡ bytes)
  unfolding rebuild_bytes
  remade-not h = (by_flag (data_good a stripe bytes) refl, rw (ne_eqb (rebuild_refusal a stripe parity bytes) 0 h))
    where
      by_flag : (f : Bool) → data_good a stripe bytes ≡ f → data_good a stripe bytes ≡ false
      by_flag false e = e
      by_flag true e = absurd (h (remade-taken e))
