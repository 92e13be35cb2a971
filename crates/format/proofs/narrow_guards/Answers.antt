-- `format::narrow_guards` meets its contract. Assumes nothing.
use mathlib.Core.Path.{◌∙◌}
use Rattle.format.proofs.Laws.{guards-t10, guards-checksummed}
use Rattle.format.proofs.narrow_guards.Goals as goal

pub returns-in-Crc : goal.returns-in-Crc
returns-in-Crc c = let a = c.args in rw c.in-Crc.is (c.guards.ensures ∙ guards-t10 16 a.stride a.bytes.now)

pub returns-in-Checksum : goal.returns-in-Checksum
returns-in-Checksum c = let a = c.args in rw c.in-Checksum.is (c.checksums.ensures ∙ guards-checksummed 16 a.stride a.bytes.now)
