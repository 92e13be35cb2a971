-- `table::high::high_table` meets its contract: the table is computed from its rule, and is the one in the source.
-- Assumes nothing.
use mathlib.Core.Path.{refl}
use Rattle.crc.specs.Crc.{feed, bits_of, bits, bit_step}
use Rattle.crc.specs.Guard.{run, guard}
use Rattle.table.specs.Tables.{highs}
use Rattle.table.proofs.high.high_table.Goals as goal

pub returns : goal.returns
unfolding highs guard run feed bits_of bits bit_step
returns c = refl
