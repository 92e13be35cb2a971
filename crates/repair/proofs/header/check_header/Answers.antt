-- `repair::header::check_header` meets its contract. Assumes nothing.
use Rattle.std.proofs.Common.{ap, refl, ◌∙◌}
use Rattle.refusal.specs.Refusals.{number, told}
use Rattle.refusal.specs.declared.Refusal.TheVariants.{Row}
use Rattle.refusal.proofs.Passing.{number-some, number_injective}
use Rattle.repair.proofs.Refusals.{not-large, large-accepted, large_row, refused_earlier}
use Rattle.repair.proofs.header.check_header.Goals as goal

pub returns-then-array_in-ne-LARGE : goal.returns-then-array_in-ne-LARGE
returns-then-array_in-ne-LARGE c = not-large c.args.header.now c.check_header-checked.ensures c.array_in.ensures c.if-array_in-ne-LARGE.true

pub returns-in-Ok : goal.returns-in-Ok
returns-in-Ok c = large-accepted c.args.header.now c.in-Ok.ensures c.array_in.ensures c.if-array_in-ne-LARGE.false refl

pub returns-in-Row : goal.returns-in-Row
returns-in-Row c = large_row c.args.header.now c.check_header-checked.ensures c.array_in.ensures c.if-array_in-ne-LARGE.false (ap told c.in-Err.is ∙ ap number c.in-Row.is)

pub returns-in_default : goal.returns-in_default
returns-in_default c =
    refused_earlier c.args.header.now c.in-Err.ensures (number-some c.in-Err.refusal) (λ e. c.in_default.not-Row (number_injective c.in-Err.refusal Row e))
