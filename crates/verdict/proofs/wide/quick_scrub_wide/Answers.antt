-- `verdict::quick_scrub_wide` meets its contract: the number of guards decides whether it is refused and what is due, their combination what
-- it says. Assumes nothing.
use mathlib.Core.Path.{ap, ◌∙◌}
use Prim.Native.Nat.{ℕ}
use Rattle.std.proofs.lemmas.Result.{err_from_is_err_and}
use Rattle.verdict.specs.Verdicts.{compared_with}
use Rattle.verdict.specs.QuickWide.{quick_wide_numbers}
use Rattle.verdict.proofs.Quick.{compared_reason, compared-said}
use Rattle.verdict.proofs.wide.quick_scrub_wide.Goals as goal

pub returns-in_err-check_guards : goal.returns-in_err-check_guards
unfolding quick_wide_numbers
returns-in_err-check_guards c =
    let p = err_from_is_err_and c.from_residual.result c.from_residual.ensures.1 in
    rw (p.1, p.2) (compared_reason _ c.args.guards.now _ c.in_err-check_guards.ensures)

pub returns : goal.returns
unfolding quick_wide_numbers
returns c =
    compared-said c.wide_due-due.result c.args.guards.now c.combined_wide.result _ c.in_ok-check_guards.ensures c.combined_wide.ensures c.compare.ensures
    ∙ ap (λ (d : ℕ). compared_with d c.args.guards.now) c.wide_due-due.ensures
