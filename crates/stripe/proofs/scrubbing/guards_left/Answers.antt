-- `stripe::scrubbing::guards_left` meets its contract. Assumes nothing.
use mathlib.Core.Path.{sym, ◌∙◌}
use native.Mathlib.Omega.{arith}
use Rattle.format.specs.Methods.{format_of}
use Rattle.stripe.specs.Stripes.{stored_guards}
use Rattle.stripe.proofs.Carried.{left-carried, others-guards-all}
use Rattle.stripe.proofs.scrubbing.guards_left.Goals as goal

pub returns-then-carries : goal.returns-then-carries
returns-then-carries c =
    let a = c.args in
    let F = format_of a.method in
    let stored = stored_guards F a.members a.bytes.now in
    c.stored_combined.ensures ∙ others-guards-all F a.members a.members a.bytes.now (omega arith)
    ∙ sym (left-carried F stored (sym c.carries.ensures ∙ c.if-carries.true))
