-- `stripe::sealing::write_data` meets its contract. The invariant: the blocks below the member are written, the others are as they were.
-- Assumes nothing.
use mathlib.Core.Path.{ap, ◌∙◌}
use mathlib.Core.List.{List}
use mathlib.Core.Bool.{Bool, true, false, cond}
use Prim.Native.Nat.{ℕ, ◌-◌, ◌≤◌}
use native.Mathlib.Omega.{arith}
use lib.Dec.{ltb}
use lib.ListN.{get_or}
use Rattle.format.specs.Formats.{guards_of}
use Rattle.layout.specs.Places.{parity_member, index_at}
use Rattle.layout.specs.declared.Array.{Array}
use Rattle.layout.proofs.Numbers.{index_right}
use Rattle.layout.proofs.Ranges.{stripe_sound}
use Rattle.tag.specs.Blocks.{format_at}
use Rattle.stripe.proofs.Rooms.{members_most, parity_named}
use Rattle.stripe.proofs.Seals.{one_written, all-written}
use Rattle.stripe.proofs.sealing.write_data.Goals as goal

-- an index is at most its member's number
index_most : (a : Array) (stripe member : ℕ) → index_at a stripe member ≤ member
unfolding index_at
index_most a stripe member = by_test (ltb member (parity_member a stripe))
  where
    by_test : (t : Bool) → cond t member (member - 1) ≤ member
    by_test true = omega arith
    by_test false = omega arith

pub bounds-guards-index : goal.bounds-guards-index
bounds-guards-index c =
    let s = c.args.stripe in
    let m = c.loop-member.member in
    let right = c.index_beside-index.ensures ∙ index_right s.array s.number s.seat.parity m (parity_named s.array s.number s.in_array s.seat s.seated) in
    omega (arith, right, index_most s.array s.number m, members_most s.array s.number s.in_array)

pub write_member-requires-clause-data_guard_value : goal.write_member-requires-clause-data_guard_value
write_member-requires-clause-data_guard_value c =
    let a = c.args in
    let s = a.stripe in
    let F = format_at s.array in
    let right = c.index_beside-index.ensures ∙ index_right s.array s.number s.seat.parity c.loop-member.member (parity_named s.array s.number s.in_array s.seat s.seated) in
    ap (λ (l : List ℕ). get_or l c.index_beside-index.result 0) c.requires.guards_value ∙ ap (λ (k : ℕ). get_or (guards_of F 16 F.data_length a.content.now) k 0) right

pub loop-member-preserved : goal.loop-member-preserved
loop-member-preserved c =
    let at = c.loop-member in
    let a = c.args in
    let s = a.stripe in
    one_written s.array s.number a.content.now (stripe_sound s.array s.number s.in_array) c.requires.content_len a.bytes.now c.requires.bytes_len at.member at.bytes
    c.write_member.new.bytes (omega arith) at.invariant c.write_member.ensures

pub returns : goal.returns
returns c =
    let at = c.loop-member in
    let a = c.args in
    let s = a.stripe in
    all-written s.array s.number a.content.now (stripe_sound s.array s.number s.in_array) c.requires.content_len a.bytes.now c.requires.bytes_len at.bytes at.member (omega arith) at.invariant
