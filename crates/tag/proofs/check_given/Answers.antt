-- `check_given` tells `check_refusal`: the place's own reason, then the length. Assumes nothing.
use Rattle.std.proofs.Common.{◌∙◌}
use Rattle.refusal.proofs.Passing.{passed_on}
use Rattle.layout.proofs.Answers.{after_reason, demanded}
use Rattle.tag.specs.Tags.{check_refusal}
use Rattle.tag.proofs.check_given.Goals as goal

pub returns-in_err-check_place : goal.returns-in_err-check_place
unfolding check_refusal
returns-in_err-check_place c = passed_on _ _ c.from_residual.ensures.1 ∙ after_reason _ _ _ c.in_err-check_place.ensures

pub returns : goal.returns
unfolding check_refusal
returns c = rw (c.demand.ensures, ← c.in_ok-check_place.ensures, c.block_length.ensures) (demanded _ 6)
