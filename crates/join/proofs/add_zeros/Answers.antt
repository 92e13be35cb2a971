-- `join::add_zeros` meets its contract: its table is computed from the rule, and compared entry by entry.
-- Assumes nothing.
use Rattle.crc.specs.Crc.{bit_step, bits, bits_of, feed}
use Rattle.crc.specs.Guard.{run}
use Rattle.join.specs.Remainders.{horner, product, squares}
use Rattle.join.specs.Joins.{factors, add_zeros}
use Rattle.join.proofs.add_zeros.Goals as goal

pub returns : goal.returns
unfolding add_zeros factors squares product horner run feed bits_of bits bit_step
returns c = c.scaled.ensures
