-- `check_place` tells `owner_refusal`. Assumes nothing.
use Rattle.std.proofs.Common.{◌∙◌}
use Rattle.refusal.proofs.Passing.{passed_on}
use Rattle.layout.specs.Places.{owner_refusal}
use Rattle.layout.proofs.Answers.{after_reason, demanded}
use Rattle.layout.proofs.check_place.Goals as goal

pub returns-in_err-check_stripe : goal.returns-in_err-check_stripe
unfolding owner_refusal
returns-in_err-check_stripe c =
    passed_on _ _ c.from_residual.ensures.1
    ∙ after_reason _ _ _ c.in_err-check_stripe.ensures

pub returns : goal.returns
unfolding owner_refusal
returns c = rw (c.demand.ensures, ← c.in_ok-check_stripe.ensures) (demanded _ 5)
