-- `intent::recovering::recover_in` meets its contract. Assumes nothing.
use mathlib.Core.Path.{sym, ap, ◌∙◌}
use mathlib.Core.Logic.{◌≢◌}
use Prim.Native.Nat.{ℕ, suc, ◌+◌, ◌<◌}
use native.Mathlib.Numerals.{add-one}
use native.Mathlib.Omega.{arith}
use lib.ListN.{length}
use Rattle.std.proofs.lemmas.Result.{err_from_is_err_and}
use Rattle.refusal.proofs.Passing.{number-some}
use Rattle.layout.proofs.Ranges.{stripe_sound}
use Rattle.stripe.proofs.Scrubs.{scrub_sound}
use Rattle.intent.specs.Records.{entries, many, entries_fit}
use Rattle.intent.proofs.Calling.{log_told, recover_by_log, recovery_refused, recovery_absent, recovery_made}
use Rattle.intent.proofs.recovering.recover_in.Goals as goal

pub returns-in_err-demand : goal.returns-in_err-demand
returns-in_err-demand c =
    let a = c.args in
    let told = log_told a.array a.log.now c.entries_fit.result (c.entries_fit.ensures ∙ ap (entries_fit a.array.stripes) c.entries_of-entries.ensures) ∙ recover_by_log a.array a.stripe (length a.bytes.now) a.log.now c.requires c.told-log in
    let p = err_from_is_err_and c.from_residual.result c.from_residual.ensures.1 in
    let both = recovery_refused a.array a.stripe a.bytes.now a.log.now _ (c.in_err-demand.ensures ∙ told) (number-some _) in record {
      result_value = rw (p.1, p.2) both.0;
      bytes_after = both.1.0;
      log_after = both.1.1;
    }

pub overflow_add-stripe : goal.overflow_add-stripe
overflow_add-stripe c =
    let a = c.args in
    let inside = stripe_sound a.array a.stripe (scrub_sound a.array a.stripe (length a.bytes.now) c.requires).0 in
    omega (arith, inside.here, inside.array.most)

pub returns-then-many-eq0 : goal.returns-then-many-eq0
returns-then-many-eq0 c =
    let a = c.args in
    let told = log_told a.array a.log.now c.entries_fit.result (c.entries_fit.ensures ∙ ap (entries_fit a.array.stripes) c.entries_of-entries.ensures) ∙ recover_by_log a.array a.stripe (length a.bytes.now) a.log.now c.requires c.told-log in
    let taken = sym (c.in_ok-demand.ensures ∙ told) in
    let named_are = c.many.ensures ∙ ap (many (a.stripe + 1)) c.entries_of-entries.ensures in
    let both = recovery_absent a.array a.stripe a.bytes.now a.log.now taken (sym named_are ∙ c.if-many-eq0.true) in record { result_value = both.0; bytes_after = both.1.0; log_after = both.1.1 }

pub remake-requires-clause-stripe_bound : goal.remake-requires-clause-stripe_bound
remake-requires-clause-stripe_bound c =
    let a = c.args in
    let inside = stripe_sound a.array a.stripe (scrub_sound a.array a.stripe (length a.bytes.now) c.requires).0 in
    omega (arith, inside.here, inside.array.most)

pub returns : goal.returns
returns c =
    let a = c.args in
    let told = log_told a.array a.log.now c.entries_fit.result (c.entries_fit.ensures ∙ ap (entries_fit a.array.stripes) c.entries_of-entries.ensures) ∙ recover_by_log a.array a.stripe (length a.bytes.now) a.log.now c.requires c.told-log in
    let taken = sym (c.in_ok-demand.ensures ∙ told) in
    let named_are = c.many.ensures ∙ ap (many (a.stripe + 1)) c.entries_of-entries.ensures in
    let there : 0 < many (suc a.stripe) (entries a.log.now) =
    let some : many (suc a.stripe) (entries a.log.now) ≢ 0 = λ e. c.if-many-eq0.false (named_are ∙ ap (λ (k : ℕ). many k (entries a.log.now)) (add-one a.stripe) ∙ e) in
    omega arith in
    let both = recovery_made a.array a.stripe a.bytes.now a.log.now taken _ _ _ there c.remake.ensures.result_value c.remake.ensures.bytes_after c.remake.ensures.log_after in record { result_value = both.0; bytes_after = both.1.0; log_after = both.1.1 }
