-- `stripe::updating::guards_agree` meets its contract. Assumes nothing.
use mathlib.Core.Path.{ap₂, ◌∙◌}
use native.Mathlib.Omega.{arith}
use lib.Dec.{eqb}
use Rattle.tag.specs.Blocks.{format_at}
use Rattle.stripe.specs.Jobs.{guards_agree}
use Rattle.stripe.proofs.Carried.{others-guards-all}
use Rattle.stripe.proofs.updating.guards_agree.Goals as goal

pub returns : goal.returns
unfolding guards_agree
returns c =
    let h = c.args.held.now in
    let n = h.stripe.array.members in
    ap₂ eqb (c.stored_combined-combined.ensures ∙ others-guards-all (format_at h.stripe.array) n n h.bytes.now (omega arith)) (c.from.ensures ∙ c.settled.ensures)
