-- `verdict::quick_scrub` meets its contract: its number of guards decides whether it is refused, and their combination what it says.
-- Assumes nothing.
use Rattle.std.proofs.lemmas.Result.{err_from_is_err_and}
use Rattle.verdict.specs.Verdicts.{quick_numbers}
use Rattle.verdict.proofs.Quick.{compared_reason, compared-said}
use Rattle.verdict.proofs.quick_scrub.Goals as goal

pub returns-in_err-check_guards : goal.returns-in_err-check_guards
unfolding quick_numbers
returns-in_err-check_guards c =
    let p = err_from_is_err_and c.from_residual.result c.from_residual.ensures.1 in
    rw (p.1, p.2) (compared_reason 0 c.args.guards.now _ c.in_err-check_guards.ensures)

pub returns : goal.returns
unfolding quick_numbers
returns c = compared-said 0 c.args.guards.now c.combined_guards.result _ c.in_ok-check_guards.ensures c.combined_guards.ensures c.compare.ensures
