-- What the calls do to a log that fits: an accepted update enters its stripe and strikes it out, a recovery strikes it out, neither touches an
-- entry of another stripe, and the log goes on to fit. Assumes nothing.
use mathlib.Core.Path.{◌≡◌, refl, sym, ap, ◌∙◌, subst}
use mathlib.Core.Logic.{◌≢◌}
use mathlib.Core.Bool.{Bool, true, false, not, cond, ◌&&◌}
use mathlib.Core.List.{List}
use Prim.Native.Nat.{ℕ, zero, suc, ◌+◌, ◌^◌, ◌≤◌, ◌<◌}
use native.Mathlib.Decide.{ℕ_discrete, dec_lt}
use native.Mathlib.Omega.{arith}
use borrow.Author.Tests.{eqb-true, eqb-false, eq-eqb, ne_eqb, lt-ltb, le-ltb, ltb-true, ltb-false}
use lib.Dec.{eqb, ltb, lit<}
use lib.ListN.{length}
use Rattle.layout.specs.Answers.{refuse, after}
use Rattle.layout.specs.Arrays.{stripe_refusal, block_refusal}
use Rattle.layout.specs.Places.{stripe_of}
use Rattle.layout.specs.Ranges.{SoundStripe}
use Rattle.layout.specs.declared.Array.{Array}
use Rattle.layout.proofs.Answers.{refuse-none}
use Rattle.layout.proofs.Ranges.{both, block_sound, stripe_sound}
use Rattle.layout.proofs.Blocks.{stripe_in_array}
use Rattle.tag.specs.Blocks.{format_at}
use Rattle.stripe.specs.Stripes.{stripe_length}
use Rattle.stripe.specs.Jobs.{update_refusal}
use Rattle.intent.specs.Records.{log_length, entries, many, written, named, entered, struck, entries_fit, log_refusal, entry_refusal}
use Rattle.intent.specs.Calls.{open_refusal, recorded_refusal, log_after, recorded_log, recover_refusal, data_good, recovers, recover_log}
use Rattle.intent.specs.Meanwhile.{Meanwhile, nothing, updates, recovers as recovery}
use Rattle.intent.proofs.Counted.{one, one_same, one_other, many-set, Fit, fit-set, fits-fit, length-written, entries-written}

-- a stripe of the array and one more are a number of eight bytes
stripe_small : (a : Array) (stripe : ℕ) → SoundStripe a stripe → suc stripe < 256 ^ 8
stripe_small a stripe sound = let big : 1099511627776 < 256 ^ 8 = lit< tt in omega (arith, sound.here, sound.array.most)

pub record Log (a : Array) (log : List ℕ) : Type 0 where
  pub room : length log ≡ log_length
  pub fit : Fit a.stripes (entries log)

-- the first x made y
module _ (a : Array) (log : List ℕ) (x y : ℕ) (b : Log a log) (some : 0 < many x (entries log)) (small : y < 256 ^ 8) where
  pub many-written : (e : ℕ) → many e (entries (written x y log)) + one e x ≡ many e (entries log) + one e y
  many-written e =
      ap (λ (l : List ℕ). many e l + one e x) (entries-written log x y b.room some small) ∙ many-set (entries log) x y e some

  pub written_log : y ≤ a.stripes → (y ≢ 0 → many y (entries log) ≡ 0) → Log a (written x y log)
  written_log here new =
      record {
        room = length-written log x y b.room some small;
        fit = subst (λ (l : List ℕ). Fit a.stripes l) (sym (entries-written log x y b.room some small)) (fit-set a.stripes (entries log) x y b.fit some here new);
      }

-- ---- a stripe entered, and struck out

module _ (a : Array) (stripe : ℕ) (log : List ℕ) (sound : SoundStripe a stripe) (b : Log a log) where
  none_yet : 0 < 256 ^ 8
  none_yet = lit< tt

  module _ (free : 0 < many 0 (entries log)) (new : many (suc stripe) (entries log) ≡ 0) where
    pub entered_log : Log a (entered stripe log)
    entered_log = written_log a log 0 (suc stripe) b free (stripe_small a stripe sound) (omega (arith, sound.here)) (λ ne. new)

    pub entered-named : many (suc stripe) (entries (entered stripe log)) ≡ 1
    entered-named =
        omega (arith, many-written a log 0 (suc stripe) b free (stripe_small a stripe sound) (suc stripe), one_same (suc stripe), one_other (suc stripe) 0 (omega arith))

    pub entered_other : (t : ℕ) → t ≢ stripe → many (suc t) (entries (entered stripe log)) ≡ many (suc t) (entries log)
    entered_other t ne =
        omega (arith, many-written a log 0 (suc stripe) b free (stripe_small a stripe sound) (suc t), one_other (suc t) 0 (omega arith), one_other (suc t) (suc stripe) (omega arith))

  module _ (there : 0 < many (suc stripe) (entries log)) where
    pub struck_log : Log a (struck stripe log)
    struck_log = written_log a log (suc stripe) 0 b there none_yet (omega arith) (λ ne. absurd (ne refl))

    pub struck_gone : many (suc stripe) (entries (struck stripe log)) ≡ 0
    struck_gone =
        omega (arith, many-written a log (suc stripe) 0 b there none_yet (suc stripe), one_same (suc stripe), one_other (suc stripe) 0 (omega arith), b.fit.once (suc stripe) (omega arith))

    pub struck_other : (t : ℕ) → t ≢ stripe → many (suc t) (entries (struck stripe log)) ≡ many (suc t) (entries log)
    struck_other t ne =
        omega (arith, many-written a log (suc stripe) 0 b there none_yet (suc t), one_other (suc t) 0 (omega arith), one_other (suc t) (suc stripe) (omega arith))

    -- the entry is free again
    pub struck_free : many 0 (entries (struck stripe log)) ≡ suc (many 0 (entries log))
    struck_free = omega (arith, many-written a log (suc stripe) 0 b there none_yet 0, one_same 0, one_other 0 (suc stripe) (omega arith))

-- ---- an accepted update

pub record Accepted (a : Array) (block newBytes : ℕ) (bytes log : List ℕ) : Type 0 where
  pub there : block_refusal a block ≡ 0
  pub long : length bytes ≡ stripe_length a
  pub size : newBytes ≡ (format_at a).data_length
  pub logged : Log a log
  pub free : 0 < many 0 (entries log)
  pub new : many (suc (stripe_of a block)) (entries log) ≡ 0
  pub done : update_refusal a block newBytes bytes ≡ 0

pub after_none : (n later : ℕ) → after n later ≡ 0 → (n ≡ 0) × (later ≡ 0)
after_none zero later e = (refl, e)
after_none (suc n) later e = absurd (omega arith)

refuse-not : (t : Bool) (n rest : ℕ) → refuse t (suc n) rest ≡ 0 → (t ≡ false) × (rest ≡ 0)
refuse-not false n rest e = (refl, e)
refuse-not true n rest e = absurd (omega arith)

pub log_fits : (a : Array) (log : List ℕ) → length log ≡ log_length → log_refusal a log ≡ 0 → Log a log
unfolding log_refusal
log_fits a log room e = record { room = room; fit = fits-fit a.stripes (entries log) (refuse-none (entries_fit a.stripes (entries log)) 15 0 e).0 }

pub entry_free : (stripe : ℕ) (log : List ℕ) → entry_refusal stripe log ≡ 0 → (0 < many 0 (entries log)) × (many (suc stripe) (entries log) ≡ 0)
unfolding entry_refusal
entry_free stripe log e =
    let h = refuse-not (eqb (many 0 (entries log)) 0) 13 (refuse (named stripe log) 15 0) e in
    let k = refuse-not (named stripe log) 14 0 h.1 in
    let z = eqb-false (many 0 (entries log)) 0 h.0 in
    let l = ltb-false 0 (many (suc stripe) (entries log)) k.0 in
    (omega arith, omega arith)

pub accepted : (a : Array) (block newBytes : ℕ) (bytes log : List ℕ) → recorded_refusal a block newBytes bytes log ≡ 0 → Accepted a block newBytes bytes log
unfolding recorded_refusal open_refusal
accepted a block newBytes bytes log e =
    let s = stripe_of a block in
    let last = update_refusal a block newBytes bytes in
    let entry = after (log_refusal a log) (entry_refusal s log) in
    let lengths = eqb (length bytes) (stripe_length a) && (eqb newBytes (format_at a).data_length && eqb (length log) log_length) in
    let p = after_none (block_refusal a block) (after (refuse (not lengths) 6 entry) last) e in
    let o = after_none (refuse (not lengths) 6 entry) last p.1 in
    let q = refuse-none lengths 5 entry o.0 in
    let t = after_none (log_refusal a log) (entry_refusal s log) q.1 in
    let l₁ = both (eqb (length bytes) (stripe_length a)) (eqb newBytes (format_at a).data_length && eqb (length log) log_length) q.0 in
    let l₂ = both (eqb newBytes (format_at a).data_length) (eqb (length log) log_length) l₁.1 in
    let f = entry_free s log t.1 in
    record {
      there = p.0;
      long = eqb-true (length bytes) (stripe_length a) l₁.0;
      size = eqb-true newBytes (format_at a).data_length l₂.0;
      logged = log_fits a log (eqb-true (length log) log_length l₂.1) t.0;
      free = f.0;
      new = f.1;
      done = o.1;
    }

pub own_sound : (a : Array) (block : ℕ) → block_refusal a block ≡ 0 → SoundStripe a (stripe_of a block)
own_sound a block e = let h = block_sound a block e in record { array = h.array; here = stripe_in_array a block h }

-- ---- the log after some stores

module _ (a : Array) (stripe : ℕ) (log : List ℕ) (sound : SoundStripe a stripe) (b : Log a log) (free : 0 < many 0 (entries log)) (new : many (suc stripe) (entries log) ≡ 0) where
  -- it fits, other stripes have what they had, and this one is entered from the first store to the third
  pub record After (last : List ℕ) (stores : ℕ) : Type 0 where
    pub logged : Log a last
    pub others : (t : ℕ) → t ≢ stripe → many (suc t) (entries last) ≡ many (suc t) (entries log)
    pub before : stores < 1 → many (suc stripe) (entries last) ≡ 0
    pub begun : 1 ≤ stores → stores < 4 → many (suc stripe) (entries last) ≡ 1
    pub closed : 4 ≤ stores → many (suc stripe) (entries last) ≡ 0

  pub log_after_lem : (stores : ℕ) → After (log_after stripe log stores) stores
  unfolding log_after
  log_after_lem stores = by_stores (dec_lt stores 1) (dec_lt stores 4)
    where
      in_log : Log a (entered stripe log)
      in_log = entered_log a stripe log sound b free new

      in_named : 0 < many (suc stripe) (entries (entered stripe log))
      in_named = omega (arith, entered-named a stripe log sound b free new)

      by_stores : Dec (stores < 1) → Dec (stores < 4) → After (cond (ltb stores 1) log (cond (ltb stores 4) (entered stripe log) (struck stripe (entered stripe log)))) stores
      by_stores (yes l) d =
          rw (lt-ltb stores 1 l) (record { logged = b; others = λ t ne. refl; before = λ h. new; begun = λ h k. absurd (omega arith); closed = λ h. absurd (omega arith) })
      by_stores (no l) (yes m) =
          rw (le-ltb stores 1 (omega arith), lt-ltb stores 4 m)
          (record {
            logged = in_log;
            others = entered_other a stripe log sound b free new;
            before = λ h. absurd (omega arith);
            begun = λ h k. entered-named a stripe log sound b free new;
            closed = λ h. absurd (omega arith);
          })
      by_stores (no l) (no m) =
          rw (le-ltb stores 1 (omega arith), le-ltb stores 4 (omega arith))
          (record {
            logged = struck_log a stripe (entered stripe log) sound in_log in_named;
            others = λ t ne. struck_other a stripe (entered stripe log) sound in_log in_named t ne ∙ entered_other a stripe log sound b free new t ne;
            before = λ h. absurd (omega arith);
            begun = λ h k. absurd (omega arith);
            closed = λ h. struck_gone a stripe (entered stripe log) sound in_log in_named;
          })

-- ---- a recovery, and what other calls leave

pub record Recovering (a : Array) (stripe : ℕ) (log : List ℕ) : Type 0 where
  pub sound : SoundStripe a stripe
  pub logged : Log a log
  pub there : 0 < many (suc stripe) (entries log)

pub recovering : (a : Array) (stripe : ℕ) (bytes log : List ℕ) → recovers a stripe bytes log ≡ true → Recovering a stripe log
unfolding recovers recover_refusal
recovering a stripe bytes log e =
    let lengths = eqb (length bytes) (stripe_length a) && eqb (length log) log_length in
    let number = after (stripe_refusal a stripe) (refuse (not lengths) 6 (log_refusal a log)) in
    let f = both (eqb number 0) (named stripe log && data_good a stripe bytes) e in
    let g = both (named stripe log) (data_good a stripe bytes) f.1 in
    let p = after_none (stripe_refusal a stripe) (refuse (not lengths) 6 (log_refusal a log)) (eqb-true number 0 f.0) in
    let q = refuse-none lengths 5 (log_refusal a log) p.1 in
    let l = both (eqb (length bytes) (stripe_length a)) (eqb (length log) log_length) q.0 in
    record {
      sound = stripe_sound a stripe p.0;
      logged = log_fits a log (eqb-true (length log) log_length l.1) q.1;
      there = ltb-true 0 (many (suc stripe) (entries log)) g.0;
    }

-- the log still fits, and a stripe is named as it was
pub record Same (a : Array) (stripe : ℕ) (log last : List ℕ) : Type 0 where
  pub logged : Log a last
  pub named_as : many (suc stripe) (entries last) ≡ many (suc stripe) (entries log)

pub update_same : (a : Array) (stripe block : ℕ) (new bytes log : List ℕ) (stores : ℕ) → stripe_of a block ≢ stripe → Log a log → Same a stripe log (recorded_log a block new bytes log stores)
unfolding recorded_log
update_same a stripe block new bytes log stores ne b = by_number (ℕ_discrete (recorded_refusal a block (length new) bytes log) 0)
  where
    by_number : Dec (recorded_refusal a block (length new) bytes log ≡ 0)
        → Same a stripe log (cond (eqb (recorded_refusal a block (length new) bytes log) 0) (log_after (stripe_of a block) log stores) log)
    by_number (yes e) =
        let t = accepted a block (length new) bytes log e in
        let f = log_after_lem a (stripe_of a block) log (own_sound a block t.there) t.logged t.free t.new stores in
        rw (eq-eqb (recorded_refusal a block (length new) bytes log) 0 e) (record { logged = f.logged; named_as = f.others stripe (λ q. ne (sym q)) })
    by_number (no h) = rw (ne_eqb (recorded_refusal a block (length new) bytes log) 0 h) (record { logged = b; named_as = refl })

pub recover_same : (a : Array) (stripe other : ℕ) (bytes log : List ℕ) → other ≢ stripe → Log a log → Same a stripe log (recover_log a other bytes log)
unfolding recover_log
recover_same a stripe other bytes log ne b = by_flag (recovers a other bytes log) refl
  where
    by_flag : (f : Bool) → recovers a other bytes log ≡ f → Same a stripe log (cond f (struck other log) log)
    by_flag true e =
        let r = recovering a other bytes log e in
        record { logged = struck_log a other log r.sound b r.there; named_as = struck_other a other log r.sound b r.there stripe (λ q. ne (sym q)) }
    by_flag false e = record { logged = b; named_as = refl }

-- whatever list of calls for other stripes
pub meanwhile_same : (a : Array) (stripe : ℕ) {log last : List ℕ} → Meanwhile a stripe log last → Log a log → Same a stripe log last
meanwhile_same a stripe nothing b = record { logged = b; named_as = refl }
meanwhile_same a stripe {log} (updates block new bytes stores ne rest) b =
    let first = update_same a stripe block new bytes log stores ne b in
    let later = meanwhile_same a stripe rest first.logged in
    record { logged = later.logged; named_as = later.named_as ∙ first.named_as }
meanwhile_same a stripe {log} (recovery other bytes ne rest) b =
    let first = recover_same a stripe other bytes log ne b in
    let later = meanwhile_same a stripe rest first.logged in
    record { logged = later.logged; named_as = later.named_as ∙ first.named_as }

-- a stripe that was just entered is there, whatever else the log holds
pub entered-there : (stripe : ℕ) (log : List ℕ) → length log ≡ log_length → 0 < many 0 (entries log) → suc stripe < 256 ^ 8 → 0 < many (suc stripe) (entries (entered stripe log))
entered-there stripe log room free small =
    let counts = ap (λ (l : List ℕ). many (suc stripe) l + one (suc stripe) 0) (entries-written log 0 (suc stripe) room free small) ∙ many-set (entries log) 0 (suc stripe) (suc stripe) free in
    omega (arith, counts, one_same (suc stripe), one_other (suc stripe) 0 (omega arith))
