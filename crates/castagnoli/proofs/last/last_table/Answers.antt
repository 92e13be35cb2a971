-- `castagnoli::last::last_table` meets its contract: the table is computed from its rule, and is the one in the source.
-- Assumes nothing.
use mathlib.Core.Path.{refl}
use Rattle.castagnoli.specs.Reflected.{feed_down, bits_up_of, bits_up, step_down}
use Rattle.castagnoli.specs.Castagnoli.{advance}
use Rattle.castagnoli.specs.Tables.{lasts}
use Rattle.castagnoli.proofs.last.last_table.Goals as goal

pub returns : goal.returns
unfolding lasts advance feed_down bits_up_of bits_up step_down
returns c = refl
