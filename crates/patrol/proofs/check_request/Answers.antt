-- `patrol::check_request` tells the first reason that holds. Assumes nothing.
use mathlib.Core.Path.{◌∙◌}
use Rattle.refusal.proofs.Passing.{passed_on}
use Rattle.patrol.specs.Patrols.{request_refusal}
use Rattle.patrol.proofs.Answers.{passed, failed}
use Rattle.patrol.proofs.check_request.Goals as goal

pub returns-in_err-demand : goal.returns-in_err-demand
unfolding request_refusal
returns-in_err-demand c = passed_on _ _ c.from_residual.ensures.1 ∙ failed _ _ 2 _ c.in_err-demand.ensures

pub returns : goal.returns
unfolding request_refusal
returns c = rw (passed _ 2 c.in_ok-demand.ensures) c.check_turn.ensures
