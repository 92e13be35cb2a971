-- `scan::starting::check_start` tells `start_refusal`. Assumes nothing.
use mathlib.Core.Path.{◌∙◌}
use Rattle.refusal.proofs.Passing.{passed_on}
use Rattle.layout.proofs.Answers.{after_reason, demanded}
use Rattle.scan.specs.Scans.{start_refusal}
use Rattle.scan.proofs.starting.check_start.Goals as goal

pub returns-in_err-check_stripe : goal.returns-in_err-check_stripe
unfolding start_refusal
returns-in_err-check_stripe c =
    passed_on _ _ c.from_residual.ensures.1
    ∙ after_reason _ _ _ c.in_err-check_stripe.ensures

pub returns : goal.returns
unfolding start_refusal
returns c = c.demand.ensures ∙ rw (← c.in_ok-check_stripe.ensures, ← c.data_length.ensures) (demanded _ 6)
