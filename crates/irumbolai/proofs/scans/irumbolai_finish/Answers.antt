-- What `finish` answers fits its fields. Assumes nothing.
use mathlib.Core.Path.{sym, subst}
use Rattle.irumbolai.specs.Answers.{Small}
use Rattle.irumbolai.proofs.Verdicts.{finish_small}
use Rattle.irumbolai.proofs.scans.irumbolai_finish.Goals as goal

pub verdict_answer-requires : goal.verdict_answer-requires
verdict_answer-requires c = subst Small (sym c.finish.ensures) (finish_small _ _)
