-- `stripe::Held::others_good` meets its contract. The invariant: whether the members still to come pass is whether all do.
-- Assumes nothing.
use mathlib.Core.Path.{sym, ap, ◌∙◌}
use mathlib.Core.List.{List}
use Prim.Native.Nat.{ℕ}
use native.Mathlib.Omega.{arith}
use lib.ListN.{get_or}
use Rattle.tag.specs.Blocks.{format_at}
use Rattle.stripe.proofs.Guards.{member_guard}
use Rattle.stripe.proofs.Others.{watched_end, watched-whole}
use Rattle.stripe.proofs.Rooms.{members_most}
use Rattle.stripe.proofs.Held.others_good.Goals as goal

pub loop-member-init : goal.loop-member-init
loop-member-init c = let a = c.args in watched-whole a.self.now.stripe.array a.self.now.stripe.number a.skip a.self.now.bytes.now

pub bounds-guards-member : goal.bounds-guards-member
bounds-guards-member c = let s = c.args.self.now.stripe in omega (arith, members_most s.array s.number s.in_array)

pub passes-requires-clause-data_guard_value : goal.passes-requires-clause-data_guard_value
passes-requires-clause-data_guard_value c =
    let h = c.args.self.now in
    let s = h.stripe in
    let m = c.loop-member.member in
    ap (λ (l : List ℕ). get_or l m 0) c.requires ∙ member_guard (format_at s.array) h.bytes.now m (omega (arith, members_most s.array s.number s.in_array))

pub returns : goal.returns
returns c =
    let at = c.loop-member in
    let a = c.args in
    sym (watched_end a.self.now.stripe.array a.self.now.stripe.number a.skip a.self.now.bytes.now at.member (omega arith)) ∙ at.invariant
