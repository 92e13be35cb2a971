-- `repair::Repair::passed` meets its contract. Assumes nothing.
use Rattle.lines.proofs.Stages.{behind, not_behind}
use Rattle.repair.proofs.Doing.{does_same, one_too_many, passed_over}
use Rattle.repair.proofs.Repair.passed.Goals as goal

pub returns-in-Behind : goal.returns-in-Behind
returns-in-Behind c = λ held image.
    let a = c.args in
    does_same (one_too_many a.count a.self held image a.list.now (behind c.from.ensures c.in-Behind.is)) (c.refused.ensures held image)

pub returns-in_default : goal.returns-in_default
returns-in_default c = λ held image.
    let a = c.args in
    passed_over a.count a.self held image a.list.now (not_behind c.from.ensures c.in_default.not-Behind) c.silent.ensures
