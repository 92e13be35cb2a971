-- Stripes at risk on the code's own promises. `Learnt` is what the kit makes of a function's `ensures`: all that a caller may count on. From it
-- a call of `update` or `recover` for another stripe is a step of what happens meanwhile; and of an update that is accepted, whatever was
-- cut, and of the recovery that follows, AfterCut holds. Assumes nothing.
use mathlib.Core.Path.{◌≡◌, sym, ap, ◌∙◌, subst}
use mathlib.Core.Logic.{◌≢◌}
use mathlib.Core.List.{List}
use Prim.Native.Nat.{ℕ, ◌<◌}
use contract.Lifetimes.{Lfts}
use borrow.Fn.Kinds.{Dens, ended_of}
use denote.Triple.Clauses.{AtExit}
use Rattle.std.specs.Prelude.{Result}
use Rattle.refusal.specs.Refusals.{told}
use Rattle.refusal.specs.declared.Refusal.{Refusal}
use Rattle.layout.specs.Places.{stripe_of}
use Rattle.stripe.specs.Verdicts.{scrub_numbers, clean}
use Rattle.intent.specs.declared.Recovery.{Recovery}
use Rattle.intent.specs.Records.{named}
use Rattle.intent.specs.Calls.{recovery_numbers}
use Rattle.intent.specs.Meanwhile.{Meanwhile, updates, recovers, Untouched}
use Rattle.intent.specs.AfterCut.{AfterCut}
use Rattle.intent.proofs.Logs.{Log}
use Rattle.intent.proofs.Rules.{update_keeps_log, update_keeps_names, recover_keeps_log, recover_keeps_names}
use Rattle.intent.proofs.CutRecovers.{cut_recovered}
use Rattle.intent.proofs.updating.update.Kinds as update-kinds
use Rattle.intent.proofs.updating.update.Reads as update-reads
use Rattle.intent.proofs.recovering.recover.Kinds as recover-kinds
use Rattle.intent.proofs.recovering.recover.Reads as recover-reads

-- A call is its arguments a, its result r, and e, what its borrows hold at the end; both a and e are in the order of the parameters.
-- Of `update`: .0 the array, .1 .0 the block, .1 .1 .0 the data, .1 .1 .1 .0 the stripe, .1 .1 .1 .1 .0 the record, .1 .1 .1 .1 .1 .0 the stores
module _ (κs : Lfts 3) (a : Dens κs update-kinds.ps) (r : Result (Unit {0}) Refusal) (e : AtExit (ended_of 3 update-kinds.ps update-kinds.r) κs) where
  pub update_steps : update-reads.Learnt κs a r e → (stripe : ℕ) → stripe_of a.0 a.1.0 ≢ stripe → {last : List ℕ}
      → Meanwhile a.0 stripe e.1.1.1.1.0.now last → Meanwhile a.0 stripe a.1.1.1.1.0.now last
  update_steps promised stripe ne {last} rest =
      updates a.1.0 a.1.1.0.now a.1.1.1.0.now a.1.1.1.1.1.0 ne
      (subst (λ (x : List ℕ). Meanwhile a.0 stripe x last) promised.1.1 rest)

-- of `recover`: .0 the array, .1 .0 the stripe, .1 .1 .0 its bytes, .1 .1 .1 .0 the record
module _ (κs : Lfts 2) (a : Dens κs recover-kinds.ps) (r : Result Recovery Refusal) (e : AtExit (ended_of 2 recover-kinds.ps recover-kinds.r) κs) where
  pub recover_steps : recover-reads.Learnt κs a r e → (stripe : ℕ) → a.1.0 ≢ stripe → {last : List ℕ}
      → Meanwhile a.0 stripe e.1.1.1.0.now last → Meanwhile a.0 stripe a.1.1.1.0.now last
  recover_steps promised stripe ne {last} rest =
      recovers a.1.0 a.1.1.0.now ne (subst (λ (x : List ℕ). Meanwhile a.0 stripe x last) promised.1.1 rest)

-- THE SECOND: of any call, refused or not and cut anywhere, a record that fits the array goes on to fit, so that no stripe is ever in it twice
-- (`never_twice`); and every other stripe is named as it was: no call loses or makes an entry of another
module _ (κs : Lfts 3) (a : Dens κs update-kinds.ps) (r : Result (Unit {0}) Refusal) (e : AtExit (ended_of 3 update-kinds.ps update-kinds.r) κs) where
  pub update_keeps : update-reads.Learnt κs a r e → Log a.0 a.1.1.1.1.0.now
      → Log a.0 e.1.1.1.1.0.now × ((t : ℕ) → t ≢ stripe_of a.0 a.1.0 → named t e.1.1.1.1.0.now ≡ named t a.1.1.1.1.0.now)
  update_keeps promised fits =
      let block = a.1.0 in
      let new = a.1.1.0.now in
      let bytes = a.1.1.1.0.now in
      let stores = a.1.1.1.1.1.0 in
      let log = a.1.1.1.1.0.now in (
        subst (Log a.0) (sym promised.1.1) (update_keeps_log a.0 log fits block new bytes stores),
        λ t ne. ap (named t) promised.1.1 ∙ update_keeps_names a.0 log fits block new bytes stores t ne,
      )

module _ (κs : Lfts 2) (a : Dens κs recover-kinds.ps) (r : Result Recovery Refusal) (e : AtExit (ended_of 2 recover-kinds.ps recover-kinds.r) κs) where
  pub recover_keeps : recover-reads.Learnt κs a r e → Log a.0 a.1.1.1.0.now
      → Log a.0 e.1.1.1.0.now × ((t : ℕ) → t ≢ a.1.0 → named t e.1.1.1.0.now ≡ named t a.1.1.1.0.now)
  recover_keeps promised fits =
      let stripe = a.1.0 in
      let bytes = a.1.1.0.now in
      let log = a.1.1.1.0.now in (
        subst (Log a.0) (sym promised.1.1) (recover_keeps_log a.0 log fits stripe bytes),
        λ t ne. ap (named t) promised.1.1 ∙ recover_keeps_names a.0 log fits stripe bytes t ne,
      )

-- THE THEOREM: an update of a clean stripe is accepted and cut after any number of stores; then come any calls for other stripes, and the stripe is
-- left alone but for its parity while it is entered; then it is recovered
pub cut_then_recovered : (κs : Lfts 3) (a : Dens κs update-kinds.ps) (r : Result (Unit {0}) Refusal) (e : AtExit (ended_of 3 update-kinds.ps update-kinds.r) κs)
    → update-reads.Learnt κs a r e → told r ≡ 0 → a.0.volume < 256 → scrub_numbers a.0 (stripe_of a.0 a.1.0) a.1.1.1.0.now ≡ clean
    → (κt : Lfts 2) (b : Dens κt recover-kinds.ps) (q : Result Recovery Refusal) (f : AtExit (ended_of 2 recover-kinds.ps recover-kinds.r) κt)
    → recover-reads.Learnt κt b q f → b.0 ≡ a.0 → b.1.0 ≡ stripe_of a.0 a.1.0
    → Meanwhile a.0 (stripe_of a.0 a.1.0) e.1.1.1.1.0.now b.1.1.1.0.now
    → Untouched a.0 (stripe_of a.0 a.1.0) e.1.1.1.1.0.now e.1.1.1.0.now b.1.1.0.now
    → AfterCut a.0 a.1.0 a.1.1.0.now a.1.1.1.0.now a.1.1.1.1.1.0 b.1.1.0.now b.1.1.1.0.now
    (recovery_numbers q) f.1.1.0.now f.1.1.1.0.now
cut_then_recovered κs a r e promised done small was_clean κt b q f answered same-array same-stripe meanwhile untouched =
    let s = stripe_of a.0 a.1.0 in
    let found = b.1.1.0.now in
    let last = b.1.1.1.0.now in
    let law = cut_recovered a.0 a.1.0 a.1.1.0.now a.1.1.1.0.now a.1.1.1.1.0.now a.1.1.1.1.1.0 small (sym promised.0 ∙ done) was_clean found last
    (rw promised.1.1 at meanwhile) (rw (promised.1.1, promised.1.0) at untouched) in
    rw (answered.0, answered.1.0, answered.1.1, same-array, same-stripe) law
