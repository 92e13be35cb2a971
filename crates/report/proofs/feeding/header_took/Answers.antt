use Rattle.std.proofs.Common.{ap, ◌∙◌}
use Rattle.lines.specs.Headers.{header_size}
use Rattle.report.proofs.Doing.{header-short, header-long}
use Rattle.report.proofs.feeding.header_took.Goals as goal

pub returns-then-held-header_size : goal.returns-then-held-header_size
returns-then-held-header_size c =
    let a = c.args in
    header-short a.report a.bytes.now a.work.now _ c.header_held-held.ensures _ (c.header_size.ensures ∙ ap header_size c.header_came.ensures) _ c.if-held-header_size.true

pub returns : goal.returns
returns c =
    let a = c.args in
    header-long a.report a.bytes.now a.work.now _ c.header_held-held.ensures _ (c.header_size.ensures ∙ ap header_size c.header_came.ensures) _ _ _ _
    c.if-held-header_size.false c.header_whole.ensures
