-- `format::guard_of` meets its contract. Assumes nothing.
use mathlib.Core.Path.{sym, ap, ◌∙◌}
use native.Mathlib.Omega.{arith}
use Rattle.format.specs.Formats.{Format}
use Rattle.format.proofs.Laws.{of_two, of_three, of_other}
use Rattle.format.proofs.guard_of.Goals as goal

pub returns-in-2 : goal.returns-in-2
returns-in-2 c = sym (ap (λ (F : Format). F.guard_of c.args.register) (of_two c.args.method c.in-2.is))

pub returns-in-3 : goal.returns-in-3
returns-in-3 c = c.guard_of.ensures ∙ sym (ap (λ (F : Format). F.guard_of c.args.register) (of_three c.args.method c.in-3.is))

pub returns-in_default : goal.returns-in_default
returns-in_default c = sym (ap (λ (F : Format). F.guard_of c.args.register) (of_other c.args.method (λ e. absurd (omega arith)) (λ e. absurd (omega arith))))
