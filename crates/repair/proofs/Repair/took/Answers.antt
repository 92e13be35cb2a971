-- `repair::Repair::took` meets its contract. Assumes nothing.
use Rattle.std.proofs.Common.{length}
use Rattle.lines.proofs.Stages.{in_header, not_in_header}
use Rattle.repair.proofs.Ranges.{lacking_here}
use Rattle.repair.proofs.Doing.{bytes-held, lacks_still, now_whole, whole-header, whole-stripe}
use Rattle.repair.proofs.Repair.took.Goals as goal

pub returns-then-next-size_now : goal.returns-then-next-size_now
returns-then-next-size_now c =
    let a = c.args in
    bytes-held a.self a.bytes.now a.held.now c.put.ensures c.holding-next.ensures
    (lacks_still (length a.bytes.now) c.holding-next.result c.put.new.dst c.size_now.ensures c.if-next-size_now.true c.silent.ensures a.image.now a.list.now)

pub returns-in-Header : goal.returns-in-Header
returns-in-Header c =
    let a = c.args in
    let next = c.holding-next.result in
    let count = length a.bytes.now in
    bytes-held a.self a.bytes.now a.held.now c.put.ensures c.holding-next.ensures
    (now_whole count next c.put.new.dst c.size_now.ensures c.if-next-size_now.false
    (whole-header count next c.put.new.dst (in_header c.from.ensures c.in-Header.is) c.header_whole.ensures))

pub stripe_whole-requires-clause-is_stripe : goal.stripe_whole-requires-clause-is_stripe
stripe_whole-requires-clause-is_stripe c =
    let now = c.holding-next.ensures in
    rw now (lacking_here c.args.self c.args.held.now c.requires.lacks_some (not_in_header (rw now at c.from.ensures) c.in_default.not-Header))

pub returns-in_default : goal.returns-in_default
returns-in_default c =
    let a = c.args in
    let next = c.holding-next.result in
    let count = length a.bytes.now in
    bytes-held a.self a.bytes.now a.held.now c.put.ensures c.holding-next.ensures
    (now_whole count next c.put.new.dst c.size_now.ensures c.if-next-size_now.false
    (whole-stripe count next c.put.new.dst (not_in_header c.from.ensures c.in_default.not-Header) c.stripe_whole.ensures))
