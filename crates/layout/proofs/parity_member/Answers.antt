-- `parity_member` is `parity_member`, with no members too. Assumes nothing.
use Rattle.layout.specs.Places.{parity_member}
use Rattle.layout.proofs.parity_member.Goals as goal

pub returns : goal.returns
unfolding parity_member
returns c = rw (c.rest.ensures, c.over.ensures)
