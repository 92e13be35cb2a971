use Rattle.report.specs.Feeding.{fresh_report}
use Rattle.report.proofs.Counting.{none-is}
use Rattle.report.proofs.feeding.new.Goals as goal

pub returns : goal.returns
unfolding fresh_report
returns c = rw (c.no_scan.ensures, none-is {t = c.default.result} c.default.ensures)
