-- `row_fits` is `row_fit`. Assumes nothing.
use Rattle.std.proofs.Common.{ne_eqb}
use Rattle.layout.proofs.row_fits.Goals as goal

pub returns-then-rest-eq0 : goal.returns-then-rest-eq0
returns-then-rest-eq0 c = rw (← c.rest.ensures, c.if-rest-eq0.true, c.rest-then-rest-eq0.ensures)

pub returns-else-rest-eq0 : goal.returns-else-rest-eq0
returns-else-rest-eq0 c = rw (← c.rest.ensures, ne_eqb _ _ c.if-rest-eq0.false)
