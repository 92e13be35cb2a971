use Rattle.std.proofs.Common.{◌≤◌, length, rules, ap, ◌∙◌}
use Rattle.lines.specs.Headers.{array_in, header_refusal}
use Rattle.lines.specs.Lines.{line_room}
use Rattle.lines.proofs.Lines.{written-whole}
use Rattle.report.proofs.Counting.{none-is}
use Rattle.report.proofs.Doing.{header_refused, header-accepted}
use Rattle.report.proofs.feeding.header_whole.Goals as goal

pub returns-in-Err : goal.returns-in-Err
returns-in-Err c =
    let a = c.args in
    header_refused a.used a.report a.work.now _ _ _ _ (c.in-Err.ensures ∙ ap header_refusal c.header_came.ensures) (c.refused.ensures a.work.now)

pub returns-in-Ok : goal.returns-in-Ok
returns-in-Ok c =
    let a = c.args in
    let long : line_room ≤ length a.out.now = search rules in
    header-accepted a.used a.report a.work.now _ _ _ _ _ _ _ (c.in-Ok.ensures ∙ ap header_refusal c.header_came.ensures)
    (c.array_in-array.ensures ∙ ap array_in c.header_came-in-Ok.ensures) (written-whole long c.first_line-written.ensures)
    c.begin-scan.ensures.value c.begin-scan.ensures.work_after (rw (none-is {t = c.default.result} c.default.ensures) at c.entering-state.ensures)
