-- `counted` is `counted`. Assumes nothing.
use Rattle.report.specs.Reports.{counted}
use Rattle.report.proofs.counted.Goals as goal

pub returns-in-Clean : goal.returns-in-Clean
unfolding counted
returns-in-Clean c = rw c.in-Clean.is

pub returns-in-Bad : goal.returns-in-Bad
unfolding counted
returns-in-Bad c = rw c.in-Bad.is

pub returns-in-Unchecked : goal.returns-in-Unchecked
unfolding counted
returns-in-Unchecked c = rw c.in-Unchecked.is

pub returns-in-Torn : goal.returns-in-Torn
unfolding counted
returns-in-Torn c = rw c.in-Torn.is
