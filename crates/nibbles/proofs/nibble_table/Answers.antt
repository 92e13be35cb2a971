-- `nibbles::nibble_table` meets its contract: the 160 entries are computed and compared.
-- Assumes nothing.
use mathlib.Core.Path.{refl}
use Rattle.crc.specs.Crc.{feed, bits, bit_step}
use Rattle.words.specs.Words.{rest}
use Rattle.nibbles.specs.Nibbles.{nibble, nibbles}
use Rattle.nibbles.proofs.nibble_table.Goals as goal

pub returns : goal.returns
unfolding nibbles nibble rest feed bits bit_step
returns c = refl
