-- `format::settled` meets its contract. Assumes nothing.
use mathlib.Core.Path.{sym, ◌∙◌}
use Rattle.format.proofs.Meant.{is_large, kind_small, small_kind}
use Rattle.format.proofs.Laws.{settled-large, settled-none}
use Rattle.format.proofs.settled.Goals as goal

pub returns-in-Crc : goal.returns-in-Crc
returns-in-Crc c = let a = c.args in sym (settled-none a.method a.members (kind_small _ _ c.kind_of.ensures (small_kind _ c.in-Crc.is)))

pub returns-in-Large : goal.returns-in-Large
returns-in-Large c = let a = c.args in c.blank_if_odd.ensures ∙ sym (settled-large a.method a.members (is_large _ c.in-Large.ensures))
