-- `scan::taking::next` meets its contract. Assumes nothing.
use mathlib.Core.Path.{sym, ◌∙◌}
use borrow.Author.Tests.{eqb-true, eqb-false}
use Rattle.scan.proofs.Fitness.{taken_in, piece_refused}
use Rattle.scan.proofs.taking.next.Goals as goal

pub returns-then-not-done : goal.returns-then-not-done
returns-then-not-done c =
    let a = c.args in
    let both = piece_refused a.state a.member a.bytes.now a.work.now (eqb-false _ 0 (sym c.requires ∙ c.if-not-done.true)) in
    record { value = both.0; work_after = both.1 }

pub returns : goal.returns
returns c =
    let a = c.args in
    let none = eqb-true _ 0 (sym c.requires ∙ c.if-not-done.false) in
    let both = taken_in a.state a.member a.bytes.now a.work.now none c.take_in.result c.take_in.new.work c.take_in.ensures.value c.take_in.ensures.work_after in
    record { value = both.0; work_after = both.1 }
