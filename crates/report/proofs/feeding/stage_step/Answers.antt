-- Stage by stage.
use Rattle.lines.proofs.Stages.{in_header, in_stripes, behind, over}
use Rattle.report.proofs.Doing.{stage_of_header, stage_of_stripes, stage_of_last, stage_over}
use Rattle.report.proofs.feeding.stage_step.Goals as goal

pub returns-in-Header : goal.returns-in-Header
returns-in-Header c = let a = c.args in stage_of_header a.report a.input.now a.work.now _ _ _ _ (in_header c.from.ensures c.in-Header.is) c.header_step.ensures

pub returns-in-Stripes : goal.returns-in-Stripes
returns-in-Stripes c = let a = c.args in stage_of_stripes a.report a.input.now a.work.now _ _ _ _ (in_stripes c.from.ensures c.in-Stripes.is) c.stripe_step.ensures

pub returns-in-Behind : goal.returns-in-Behind
returns-in-Behind c = let a = c.args in stage_of_last a.report a.input.now a.work.now _ _ _ (behind c.from.ensures c.in-Behind.is) (c.refused.ensures a.work.now)

pub returns-in-Over : goal.returns-in-Over
returns-in-Over c = let a = c.args in stage_over a.report a.input.now a.work.now _ (over c.from.ensures c.in-Over.is)
