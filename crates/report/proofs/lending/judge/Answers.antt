-- `report::lending::judge` meets its contract. Assumes nothing.
use mathlib.Core.Path.{ap, ◌∙◌}
use Rattle.tag.specs.Blocks.{format_at}
use Rattle.scan.specs.Scans.{finish_numbers}
use Rattle.report.proofs.Fronts.{front-lent}
use Rattle.report.proofs.lending.judge.Goals as goal

pub returns : goal.returns
returns c =
    let a = c.args in
    c.finish.ensures ∙ ap (finish_numbers a.scan) (front-lent (format_at a.scan.array).data_length c.front_end-end.result a.work.now c.front_end-end.ensures)
