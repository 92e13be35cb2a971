use Rattle.std.proofs.Common.{◌∙◌, ◌<◌, length, eqb-true, sym, arith}
use Rattle.std.proofs.lemmas.Bool.{eqb-false}
use Rattle.report.proofs.Chunks.{fed_in_front}
use Rattle.report.proofs.Doing.{fed_without_room, fed_without_input}
use Rattle.report.proofs.feeding.feed.Goals as goal

pub returns-then-is_empty : goal.returns-then-is_empty
returns-then-is_empty c =
    let a = c.args in
    fed_without_input a.state a.input.now a.work.now _ _ (eqb-true _ _ (sym c.is_empty.ensures ∙ c.if-is_empty.true))

pub returns-in-Some : goal.returns-in-Some
returns-in-Some c =
    let a = c.args in
    let front = c.in-Some.ensures.cases in
    let none = eqb-false _ _ (sym c.is_empty.ensures ∙ c.if-is_empty.false) in
    let some : 0 < length a.input.now = omega arith in
    fed_in_front a.state a.input.now a.work.now a.out.now front.enough some (rw front.same at c.stage_step.ensures)

pub returns-in-None : goal.returns-in-None
returns-in-None c = let a = c.args in fed_without_room a.state a.input.now a.work.now _ _ c.in-None.ensures.cases
