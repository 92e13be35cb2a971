use Rattle.std.proofs.Common.{refl}
use Rattle.std.proofs.Common.{◌≤◌, length, rules}
use Rattle.lines.specs.Lines.{line_room}
use Rattle.lines.proofs.Lines.{written-whole}
use Rattle.report.proofs.Doing.{with_line}
use Rattle.report.proofs.Report.refused.Goals as goal

pub returns : goal.returns
returns c work =
    let long : line_room ≤ length c.args.out.now = search rules in
    with_line _ _ _ work work _ _ _ _ c.ended-state.ensures refl (rw c.from.ensures at (written-whole long c.refused_line-written.ensures))
