-- What `turn` answers fits its fields. Assumes nothing.
use mathlib.Core.Path.{sym, subst}
use Rattle.irumbolai.specs.Answers.{Small}
use Rattle.irumbolai.proofs.Behind.{turn_small}
use Rattle.irumbolai.proofs.patrols.irumbolai_patrol_turn.Goals as goal

pub patrolled_answer-requires : goal.patrolled_answer-requires
patrolled_answer-requires c = subst Small (sym c.turn.ensures.seen_value) (turn_small _ _ _)
