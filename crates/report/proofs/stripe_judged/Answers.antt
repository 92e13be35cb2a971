-- Another stripe begins, or it was the last.
use Rattle.std.proofs.Common.{◌≤◌, length, rules}
use Rattle.verdict.specs.Verdicts.{verdict_numbers}
use Rattle.lines.specs.Lines.{line_room}
use Rattle.lines.proofs.Lines.{written-whole}
use Rattle.report.proofs.StripeSteps.{next_begins, last-judged}
use Rattle.report.proofs.stripe_judged.Goals as goal

pub returns-then-next-scan : goal.returns-then-next-scan
returns-then-next-scan c =
    let a = c.args in
    let long : line_room ≤ length a.out.now = search rules in
    next_begins a.used a.report a.work.now (verdict_numbers a.verdict) (written-whole long c.stripe_line-written.ensures)
    c.counted-tally.ensures c.if-next-scan.true c.begin-fresh.ensures.value c.begin-fresh.ensures.work_after c.entering-state.ensures

pub returns : goal.returns
returns c =
    let a = c.args in
    let long : line_room ≤ length a.out.now = search rules in
    last-judged a.used a.report a.work.now (verdict_numbers a.verdict) (written-whole long c.stripe_line-written.ensures)
    c.counted-tally.ensures c.if-next-scan.false c.entering-state-2.ensures
