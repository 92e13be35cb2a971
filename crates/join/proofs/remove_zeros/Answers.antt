-- `join::remove_zeros` meets its contract: its table is computed from the rule, and compared entry by entry.
-- Assumes nothing.
use Rattle.crc.specs.Crc.{bit_step}
use Rattle.join.specs.Remainders.{horner, product, squares}
use Rattle.join.specs.Joins.{inverses, remove_zeros}
use Rattle.join.proofs.remove_zeros.Goals as goal

pub returns : goal.returns
unfolding remove_zeros inverses squares product horner bit_step
returns c = c.scaled.ensures
