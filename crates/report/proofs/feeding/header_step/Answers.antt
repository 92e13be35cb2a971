use Rattle.std.proofs.Common.{arith, ap, ◌∙◌, get_or, length-take}
use Rattle.lines.specs.Headers.{header_size}
use Rattle.lines.proofs.Headers.{size-most}
use Rattle.report.specs.Feeding.{header_came}
use Rattle.report.proofs.feeding.header_step.Goals as goal

pub header_took-requires : goal.header_took-requires
header_took-requires c =
    let size = c.header_size-size.ensures ∙ ap header_size c.header_came.ensures in
    simp length-take (omega (arith, size, size-most (get_or (header_came c.args.report) 2 0), c.saturating_sub-lacks.ensures, c.min-count.ensures))
