-- `intent::recovering::recover` meets its contract. Assumes nothing.
use mathlib.Core.Path.{sym, ◌∙◌}
use native.Mathlib.Omega.{arith}
use lib.ListN.{length}
use Rattle.std.proofs.lemmas.Result.{err_from_is_err_and}
use Rattle.refusal.proofs.Passing.{number-some}
use Rattle.layout.proofs.Answers.{after_reason}
use Rattle.intent.proofs.Calling.{recover_steps, recover_other_log, recovery_refused}
use Rattle.intent.proofs.recovering.recover.Goals as goal

pub returns-in_err-check_scrub : goal.returns-in_err-check_scrub
returns-in_err-check_scrub c =
    let a = c.args in
    let p = err_from_is_err_and c.from_residual.result c.from_residual.ensures.1 in
    let refused = after_reason _ _ _ c.in_err-check_scrub.ensures ∙ recover_steps a.array a.stripe (length a.bytes.now) a.log.now in
    let both = recovery_refused a.array a.stripe a.bytes.now a.log.now _ refused (number-some _) in record {
      result_value = rw (p.1, p.2) both.0;
      bytes_after = both.1.0;
      log_after = both.1.1;
    }

pub returns-in-None : goal.returns-in-None
returns-in-None c =
    let a = c.args in
    let refused = recover_other_log a.array a.stripe (length a.bytes.now) a.log.now (sym c.in_ok-check_scrub.ensures) c.in-None.ensures.cases in
    let both = recovery_refused a.array a.stripe a.bytes.now a.log.now 6 refused (λ z. omega arith) in record {
      result_value = both.0;
      bytes_after = both.1.0;
      log_after = both.1.1;
    }
