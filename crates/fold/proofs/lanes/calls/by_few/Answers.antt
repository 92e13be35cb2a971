-- `fold::lanes::calls::by_few` meets its contract. Assumes nothing.
use mathlib.Core.Path.{ap, ◌∙◌}
use native.Mathlib.Omega.{arith}
use Rattle.crc.specs.Guard.{run}
use Rattle.fold.proofs.Wordwise.{few-turn, few-none}
use Rattle.fold.proofs.lanes.calls.by_few.Goals as goal

pub loop-first-preserved : goal.loop-first-preserved
loop-first-preserved c =
    let l = c.loop-first in
    let cut = c.in-Some.ensures.cases in
    let v = c.past_two-after.result in
    ap (run v) cut.1 ∙ few-turn l.after v l.rest.now c.in-Some.field-0-0.now (omega (arith, cut.2)) cut.0 c.past_two-after.ensures ∙ l.invariant

pub returns-in-None : goal.returns-in-None
returns-in-None c =
    let l = c.loop-first in
    few-none l.after l.rest.now (omega (arith, c.in-None.ensures.item.3)) ∙ l.invariant
