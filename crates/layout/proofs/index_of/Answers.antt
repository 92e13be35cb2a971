-- `index_of` is `index_of`. Assumes nothing.
use Rattle.layout.specs.Places.{index_of}
use Rattle.layout.proofs.index_of.Goals as goal

pub returns : goal.returns
unfolding index_of
returns c = rw (c.rest.ensures, c.data_members.ensures, c.over.ensures)
