-- `check_stripe` tells `stripe_refusal`. Assumes nothing.
use Rattle.std.proofs.Common.{◌∙◌}
use Rattle.refusal.proofs.Passing.{passed_on}
use Rattle.layout.specs.Arrays.{stripe_refusal}
use Rattle.layout.proofs.Answers.{after_reason, demanded}
use Rattle.layout.proofs.check_stripe.Goals as goal

pub returns-in_err-check_array : goal.returns-in_err-check_array
unfolding stripe_refusal
returns-in_err-check_array c =
    passed_on _ _ c.from_residual.ensures.1
    ∙ after_reason _ _ _ c.in_err-check_array.ensures

pub returns : goal.returns
unfolding stripe_refusal
returns c = rw (c.demand.ensures, ← c.in_ok-check_array.ensures) (demanded _ 3)
