-- What `request` answers fits its fields. Assumes nothing.
use mathlib.Core.Path.{sym, subst}
use Rattle.irumbolai.specs.Answers.{Small}
use Rattle.irumbolai.proofs.Behind.{request_small}
use Rattle.irumbolai.proofs.patrols.irumbolai_patrol_request.Goals as goal

pub patrolled_answer-requires : goal.patrolled_answer-requires
patrolled_answer-requires c = subst Small (sym c.request.ensures.seen_value) (request_small _ _ _)
