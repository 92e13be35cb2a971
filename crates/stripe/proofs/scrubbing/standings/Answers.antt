-- `stripe::scrubbing::standings` meets its contract. The invariant: the members passed are told as they stand.
-- Assumes nothing.
use mathlib.Core.Path.{ap, ◌∙◌}
use mathlib.Core.List.{List}
use Prim.Native.Nat.{ℕ}
use native.Mathlib.Omega.{arith}
use lib.ListN.{get_or, length-set}
use Rattle.tag.specs.Blocks.{format_at}
use Rattle.stripe.proofs.Checked.{stands-there}
use Rattle.stripe.proofs.Guards.{member_guard}
use Rattle.stripe.proofs.Rooms.{members_most}
use Rattle.stripe.proofs.Scrubs.{standings-next, standings-all}
use Rattle.stripe.proofs.scrubbing.standings.Goals as goal

pub bounds-guards-member : goal.bounds-guards-member
bounds-guards-member c = let s = c.args.held.now.stripe in omega (arith, members_most s.array s.number s.in_array)

pub bounds-standing-member : goal.bounds-standing-member
bounds-standing-member c = let s = c.args.held.now.stripe in omega (arith, members_most s.array s.number s.in_array)

pub loop-member-preserved : goal.loop-member-preserved
loop-member-preserved c =
    let at = c.loop-member in
    let a = c.args in
    let s = a.held.now.stripe in
    let few = members_most s.array s.number s.in_array in
    let own = ap (λ (c : List ℕ). get_or c at.member 0) c.guards-guards.ensures
    ∙ member_guard (format_at s.array) a.held.now.bytes.now at.member (omega (arith, few)) in
    let how = stands-there s.array s.number at.member _ c.standing_by-how.result a.held.now.bytes.now c.stored-found.result c.stored-found.ensures own c.standing_by-how.ensures in
    let long = at.invariant.0 in (
      length-set at.standing at.member c.standing_by-how.result ∙ long,
      standings-next s.array s.number a.held.now.bytes.now at.standing at.member c.standing_by-how.result (omega (arith, few, long)) at.invariant.1 how,
    )

pub returns : goal.returns
returns c =
    let at = c.loop-member in
    let s = c.args.held.now.stripe in
    standings-all s.array s.number c.args.held.now.bytes.now at.standing at.member (omega arith) at.invariant.1
