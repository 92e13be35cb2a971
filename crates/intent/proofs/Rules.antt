-- The rules of stripes at risk, one by one: what every call leaves of other stripes' entries, an update of no store and of all, and a stripe with
-- a damaged data member. Assumes nothing.
use mathlib.Core.Path.{◌≡◌, refl, sym, ap, ◌∙◌}
use mathlib.Core.Logic.{◌≢◌}
use mathlib.Core.Bool.{Bool, true, false, cond}
use mathlib.Core.List.{List, [], ◌∷◌}
use Prim.Native.Nat.{ℕ, suc, ◌+◌, ◌-◌, ◌≤◌, ◌<◌}
use native.Mathlib.Numerals.{add-one}
use native.Mathlib.Decide.{ℕ_discrete}
use native.Mathlib.Omega.{arith}
use borrow.Author.Tests.{eq-eqb, ne_eqb, lt-ltb, ltb-true, ltb-false}
use lib.Dec.{eqb, ltb}
use lib.ListN.{length, get_or}
use Rattle.layout.specs.Places.{parity_member, stripe_of}
use Rattle.layout.specs.Ranges.{SoundStripe}
use Rattle.layout.specs.declared.Array.{Array}
use Rattle.layout.proofs.Ranges.{stripe_sound}
use Rattle.stripe.specs.Jobs.{update_bytes, rebuilt}
use Rattle.stripe.specs.Verdicts.{scrub_numbers, clean, FirstMember}
use Rattle.stripe.specs.InPart.{part_bytes, amiss, first_amiss}
use Rattle.stripe.proofs.Scrubs.{scrub_sound}
use Rattle.stripe.proofs.RebuildClean.{rebuild-clean}
use Rattle.stripe.proofs.InParts.{part_of_none, part_of_all, first-amiss-there}
use Rattle.intent.specs.Records.{entries, many, named, struck}
use Rattle.intent.specs.Calls.{recorded_refusal, log_after, recorded_log, recorded_bytes, recover_refusal, data_good, recover_numbers, recover_bytes, recover_log}
use Rattle.intent.proofs.Logs.{Log, Accepted, accepted, own_sound, After, log_after_lem, update_same, recover_same, struck_free}
use Rattle.intent.proofs.Calling.{recover_told, recovery_refused, recovery_absent, recovery_made, remade-done, remade-taken}

-- ---- every call: the log goes on to fit, so that no stripe is ever in it twice; and another stripe is named as it was

module _ (a : Array) (log : List ℕ) (fits : Log a log) where
  module _ (block : ℕ) (new bytes : List ℕ) (stores : ℕ) where
    pub update_keeps_log : Log a (recorded_log a block new bytes log stores)
    update_keeps_log = (update_same a (suc (stripe_of a block)) block new bytes log stores (λ e. omega arith) fits).logged

    pub update_keeps_names : (t : ℕ) → t ≢ stripe_of a block → named t (recorded_log a block new bytes log stores) ≡ named t log
    update_keeps_names t ne = ap (ltb 0) (update_same a t block new bytes log stores (λ e. ne (sym e)) fits).named_as

  module _ (stripe : ℕ) (bytes : List ℕ) where
    pub recover_keeps_log : Log a (recover_log a stripe bytes log)
    recover_keeps_log = (recover_same a (suc stripe) stripe bytes log (λ e. omega arith) fits).logged

    pub recover_keeps_names : (t : ℕ) → t ≢ stripe → named t (recover_log a stripe bytes log) ≡ named t log
    recover_keeps_names t ne = ap (ltb 0) (recover_same a t stripe bytes log (λ e. ne (sym e)) fits).named_as

-- in a log that fits no stripe is named twice
pub never_twice : (a : Array) (log : List ℕ) → Log a log → (t : ℕ) → many (suc t) (entries log) ≤ 1
never_twice a log fits t = fits.fit.once (suc t) (λ e. omega arith)

-- ---- an update of no store, and of all

module _ (a : Array) (block : ℕ) (new bytes log : List ℕ) (stores : ℕ) where
  -- all tests are made, and nothing is stored
  pub none_made : stores ≡ 0 → (recorded_bytes a block new bytes log stores ≡ bytes) × (recorded_log a block new bytes log stores ≡ log)
  unfolding recorded_bytes recorded_log log_after
  none_made e = by_number (ℕ_discrete (recorded_refusal a block (length new) bytes log) 0)
    where
      by_number : Dec (recorded_refusal a block (length new) bytes log ≡ 0)
          → (cond (eqb (recorded_refusal a block (length new) bytes log) 0) (part_bytes a block new bytes (stores - 1)) bytes ≡ bytes)
          × (cond (eqb (recorded_refusal a block (length new) bytes log) 0) (log_after (stripe_of a block) log stores) log ≡ log)
      by_number (yes z) =
          let on = eq-eqb (recorded_refusal a block (length new) bytes log) 0 z in
          (rw on (part_of_none a block new bytes (stores - 1) (accepted a block (length new) bytes log z).done (omega arith)), rw (on, lt-ltb stores 1 (omega arith)))
      by_number (no h) = let off = ne_eqb (recorded_refusal a block (length new) bytes log) 0 h in (rw off, rw off)

  module _ (taken : recorded_refusal a block (length new) bytes log ≡ 0) (all : 4 ≤ stores) where
    ok : Accepted a block (length new) bytes log
    ok = accepted a block (length new) bytes log taken

    -- the stripe is as after an update without a record
    pub all_made : recorded_bytes a block new bytes log stores ≡ update_bytes a block new bytes
    unfolding recorded_bytes
    all_made = rw (eq-eqb (recorded_refusal a block (length new) bytes log) 0 taken) (part_of_all a block new bytes (stores - 1) ok.done (omega arith))

    -- and every stripe is named as it was, its own too
    pub all_named : (t : ℕ) → named t (recorded_log a block new bytes log stores) ≡ named t log
    unfolding recorded_log
    all_named t = rw (eq-eqb (recorded_refusal a block (length new) bytes log) 0 taken) (by_stripe (ℕ_discrete t (stripe_of a block)))
      where
        f : After a (stripe_of a block) log (own_sound a block ok.there) ok.logged ok.free ok.new (log_after (stripe_of a block) log stores) stores
        f = log_after_lem a (stripe_of a block) log (own_sound a block ok.there) ok.logged ok.free ok.new stores

        by_stripe : Dec (t ≡ stripe_of a block) → named t (log_after (stripe_of a block) log stores) ≡ named t log
        by_stripe (yes e) =
            ap (ltb 0)
            (ap (λ (x : ℕ). many (suc x) (entries (log_after (stripe_of a block) log stores))) e ∙ f.closed all ∙ sym (ap (λ (x : ℕ). many (suc x) (entries log)) e ∙ ok.new))
        by_stripe (no ne) = ap (ltb 0) (f.others t ne)

-- ---- a recovery

sound_of : (a : Array) (stripe : ℕ) (bytes log : List ℕ) → recover_refusal a stripe (length bytes) log ≡ 0 → SoundStripe a stripe
sound_of a stripe bytes log taken = stripe_sound a stripe (scrub_sound a stripe (length bytes) (recover_told a stripe (length bytes) log taken).0).0

module _ (a : Array) (stripe : ℕ) (bytes log : List ℕ) (taken : recover_refusal a stripe (length bytes) log ≡ 0) (is : named stripe log ≡ true) where
  there : 0 < many (suc stripe) (entries log)
  there = ltb-true 0 (many (suc stripe) (entries log)) is

  -- a data member that is bad or unchecked: stripe and log stay as they are, and the lowest such member is told
  pub left_alone : data_good a stripe bytes ≡ false
      → (recover_numbers a stripe bytes log ≡ 1 ∷ 0 ∷ 2 ∷ first_amiss a stripe bytes ∷ []) × FirstMember (amiss a stripe bytes) a.members (first_amiss a stripe bytes)
      × (recover_bytes a stripe bytes log ≡ bytes) × (recover_log a stripe bytes log ≡ log)
  left_alone off =
      let r = recovery_made a stripe bytes log taken (1 ∷ 0 ∷ 2 ∷ first_amiss a stripe bytes ∷ []) bytes log there (rw off refl) (rw off refl) (rw off refl) in
      (sym r.0, first-amiss-there a stripe bytes (recover_told a stripe (length bytes) log taken).0 off, sym r.1.0, sym r.1.1)

  -- none is, or all were repaired: it goes through, the stripe is clean, and its entry is free again
  pub goes_through : data_good a stripe bytes ≡ true → a.volume < 256 → Log a log
      → (recover_numbers a stripe bytes log ≡ 1 ∷ 0 ∷ 1 ∷ 0 ∷ []) × (scrub_numbers a stripe (recover_bytes a stripe bytes log) ≡ clean)
      × (many 0 (entries (recover_log a stripe bytes log)) ≡ suc (many 0 (entries log)))
  goes_through on small fits =
      let p = parity_member a stripe in
      let r = recovery_made a stripe bytes log taken (1 ∷ 0 ∷ 1 ∷ 0 ∷ []) (rebuilt a stripe p bytes) (struck stripe log) there (rw on refl) (rw on refl) (rw on refl) in
      let scrubbed = (recover_told a stripe (length bytes) log taken).0 in
      let done = remade-taken a stripe p bytes scrubbed refl on in (
        sym r.0,
        ap (scrub_numbers a stripe) (sym r.1.0 ∙ sym (remade-done a stripe p bytes scrubbed refl done).1) ∙ rebuild-clean a stripe p bytes done small,
        ap (λ (l : List ℕ). many 0 (entries l)) (sym r.1.1) ∙ struck_free a stripe log (sound_of a stripe bytes log taken) fits there,
      )

-- the member that is told is one of the array's, and none where none is
pub recover_small : (a : Array) (stripe : ℕ) (bytes log : List ℕ) → get_or (recover_numbers a stripe bytes log) 3 0 ≤ 16
recover_small a stripe bytes log = by_number (ℕ_discrete (recover_refusal a stripe (length bytes) log) 0)
  where
    by_flags : recover_refusal a stripe (length bytes) log ≡ 0 → (f g : Bool) → named stripe log ≡ f → data_good a stripe bytes ≡ g → get_or (recover_numbers a stripe bytes log) 3 0 ≤ 16
    by_flags taken true true is on =
        let r = recovery_made a stripe bytes log taken (1 ∷ 0 ∷ 1 ∷ 0 ∷ []) (rebuilt a stripe (parity_member a stripe) bytes) (struck stripe log) (there a stripe bytes log taken is) (rw on refl) (rw on refl) (rw on refl) in
        rw (← r.0) (omega arith)
    by_flags taken true false is off =
        let t = left_alone a stripe bytes log taken is off in
        rw t.0 (omega (arith, t.1.inside, (sound_of a stripe bytes log taken).array.many))
    by_flags taken false g is d =
        let l = ltb-false 0 (many (suc stripe) (entries log)) is in
        let none : many (stripe + 1) (entries log) ≡ 0 = ap (λ (k : ℕ). many k (entries log)) (add-one stripe) ∙ omega arith in
        let r = recovery_absent a stripe bytes log taken none in
        rw (← r.0) (omega arith)

    by_number : Dec (recover_refusal a stripe (length bytes) log ≡ 0) → get_or (recover_numbers a stripe bytes log) 3 0 ≤ 16
    by_number (yes e) = by_flags e (named stripe log) (data_good a stripe bytes) refl refl
    by_number (no h) = let r = recovery_refused a stripe bytes log (recover_refusal a stripe (length bytes) log) refl h in rw (← r.0) (omega arith)
