-- `verdict::wide_due` is `wide_due`: what the code has as a number is the guard of a block of zeros. Assumes nothing.
use mathlib.Core.Path.{sym}
use native.Mathlib.Omega.{arith}
use Rattle.verdict.proofs.QuickWide.{due-even, due-odd}
use Rattle.verdict.proofs.wide.wide_due.Goals as goal

pub returns-then-guards-eq0 : goal.returns-then-guards-eq0
returns-then-guards-eq0 c = sym (due-even c.args.guards (omega arith))

pub returns-else-guards-eq0 : goal.returns-else-guards-eq0
returns-else-guards-eq0 c = sym (due-odd c.args.guards (omega arith))
