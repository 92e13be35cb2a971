-- `member_at` is `member_at`. Assumes nothing.
use Rattle.std.proofs.Common.{le-ltb, lt-ltb}
use Rattle.layout.specs.Places.{member_at}
use Rattle.layout.proofs.member_at.Goals as goal

pub returns-then-index-parity_member : goal.returns-then-index-parity_member
unfolding member_at
returns-then-index-parity_member c = rw (← c.parity_member.ensures, lt-ltb _ _ c.if-index-parity_member.true)

pub returns-else-index-parity_member : goal.returns-else-index-parity_member
unfolding member_at
returns-else-index-parity_member c = rw (← c.parity_member.ensures, le-ltb _ _ c.if-index-parity_member.false)
