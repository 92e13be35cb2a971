-- The invariant is `Filled`. The measure is what is left of the input.
use Rattle.std.proofs.Common.{◌≡◌, ◌-◌, length}
use Rattle.report.specs.Fills.{fill_step}
use Rattle.report.proofs.Filled.{Filled}
use Rattle.report.proofs.fills.fill.Given as goal

abbrev pub invariant-loop-filled : goal.invariant-loop-filled
invariant-loop-filled l = record {
  filled : Filled (fill_step l.fn.state l.input l.initial.work (length l.initial.out)) l.input l.initial.out l.filled.state l.work l.out l.filled.used l.filled.written;
  long : length l.work ≡ length l.initial.work;
}

abbrev pub decreases-loop-filled : goal.decreases-loop-filled
decreases-loop-filled l = length l.input - l.filled.used
