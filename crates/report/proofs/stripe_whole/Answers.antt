-- The scan refuses, or has a verdict.
use Rattle.report.proofs.StripeSteps.{not-judged, judged_by}
use Rattle.report.proofs.stripe_whole.Goals as goal

pub returns-in-Err : goal.returns-in-Err
returns-in-Err c = let a = c.args in not-judged a.used a.report a.work.now _ c.in-Err.ensures (c.refused.ensures a.work.now)

pub returns-in-Ok : goal.returns-in-Ok
returns-in-Ok c = let a = c.args in judged_by a.used a.report a.work.now _ c.in-Ok.ensures c.stripe_judged.ensures
