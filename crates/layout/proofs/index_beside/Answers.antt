-- `index_beside` is `index_beside`. Assumes nothing.
use Rattle.std.proofs.Common.{le-ltb, lt-ltb}
use Rattle.layout.proofs.index_beside.Goals as goal

pub returns-then-member-parity : goal.returns-then-member-parity
returns-then-member-parity c = rw (lt-ltb _ _ c.if-member-parity.true)

pub returns-else-member-parity : goal.returns-else-member-parity
returns-else-member-parity c = rw (le-ltb _ _ c.if-member-parity.false) c.saturating_sub.ensures
