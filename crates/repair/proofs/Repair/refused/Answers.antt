-- `repair::Repair::refused` meets its contract. Assumes nothing.
use Rattle.lines.proofs.Lines.{written-whole}
use Rattle.repair.specs.Feeding.{over}
use Rattle.repair.proofs.Doing.{with_line}
use Rattle.repair.proofs.Repair.refused.Goals as goal

pub returns : goal.returns
returns c = λ held image.
    let a = c.args in
    with_line a.used _ (over a.self) held image a.list.now _ _ _ c.over.ensures (written-whole c.requires (rw c.from.ensures at c.refused_line-listed.ensures))
