-- `stripe::Stripe::standing_by` meets its contract. Assumes nothing.
use Rattle.std.proofs.Common.{Ok}
use mathlib.Core.Path.{refl, ◌∙◌}
use Rattle.layout.proofs.Seats.{beside_owner}
use Rattle.tag.proofs.Owed.{expected-told}
use Rattle.stripe.proofs.Checked.{standing_by_steps}
use Rattle.stripe.proofs.Rooms.{place_there}
use Rattle.stripe.proofs.Stripe.standing_by.Goals as goal

pub returns : goal.returns
returns c =
    let a = c.args in
    let s = a.self in
    let place = place_there s.array a.member c.requires s.number s.in_array in
    let due = c.expected_to-expected.ensures ∙ expected-told s.array s.number a.member _ a.data_guard (Ok c.owner_beside-owned.result) (c.owner_beside-owned.ensures ∙ beside_owner s.array s.number a.member place s.seat s.seated) a.found.guard refl in
    standing_by_steps s.array s.number a.member a.data_guard place a.found c.expected_to-expected.result c.standing.result due c.standing.ensures
