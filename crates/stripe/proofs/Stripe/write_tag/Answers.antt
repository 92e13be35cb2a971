-- `stripe::Stripe::write_tag` meets its contract.
-- Assumes nothing.
use Rattle.std.proofs.Common.{Ok}
use mathlib.Core.Path.{refl, ap₂, ◌∙◌}
use Prim.Native.Nat.{ℕ, ◌+◌}
use Rattle.layout.proofs.Seats.{beside_owner}
use Rattle.tag.proofs.Owed.{due-told}
use Rattle.stripe.proofs.Blocks.{tag_in_place}
use Rattle.stripe.proofs.Rooms.{block_room, place_there}
use Rattle.stripe.proofs.Stripe.write_tag.Goals as goal

pub returns : goal.returns
returns c =
    let a = c.args in
    let s = a.self in
    let place = place_there s.array a.member c.requires.member_in s.number s.in_array in
    let due = c.due_to-due.ensures ∙ due-told s.array s.number a.member a.guard a.guard (Ok c.owner_beside-place.result) (c.owner_beside-place.ensures ∙ beside_owner s.array s.number a.member place s.seat s.seated) a.guard refl refl in
    tag_in_place s.array s.number a.member a.guard (c.block_at.result + c.data_length.result) c.due_to-due.result a.bytes.now c.write.new.bytes
    place (block_room s.array a.member c.requires.member_in a.bytes.now c.requires.bytes_len) due (ap₂ (λ (x y : ℕ). x + y) c.block_at.ensures c.data_length.ensures)
    c.quarter.result c.quarter.ensures c.write.ensures
