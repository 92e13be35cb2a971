-- What `scrub` answers fits its fields. Assumes nothing.
use mathlib.Core.Path.{sym, subst}
use Rattle.irumbolai.specs.Answers.{Small}
use Rattle.irumbolai.proofs.Verdicts.{scrub_small}
use Rattle.irumbolai.proofs.scrubs.irumbolai_scrub.Goals as goal

pub verdict_answer-requires : goal.verdict_answer-requires
verdict_answer-requires c = subst Small (sym c.scrub.ensures) (scrub_small _ _ _)
