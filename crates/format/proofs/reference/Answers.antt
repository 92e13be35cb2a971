-- `format::reference` meets its contract. Assumes nothing.
use mathlib.Core.Path.{sym}
use borrow.Author.Rules.{rules}
use Rattle.format.proofs.Meant.{is_large, kind_small, small_kind}
use Rattle.format.proofs.References.{low_told, all_told}
use Rattle.format.proofs.reference.Goals as goal

pub returns-in-Crc : goal.returns-in-Crc
returns-in-Crc c = sym (low_told _ _ (kind_small _ _ c.kind_of.ensures (small_kind _ c.in-Crc.is)))

pub returns-in-Large : goal.returns-in-Large
returns-in-Large c = sym (all_told _ _ (is_large _ c.in-Large.ensures) (search rules))
