-- `repair::Repair::step` meets its contract. Assumes nothing.
use Rattle.std.proofs.Common.{List, ℕ, ◌-◌, sym, ap, ◌∙◌, arith}
use borrow.Author.Tests.{eqb-true, eqb-false}
use Rattle.repair.specs.Feeding.{took}
use Rattle.repair.proofs.Doing.{does_same, silent, without_input, without_line, passing, held_too_short, image_too_short, taking, part_lacking, part-short}
use Rattle.repair.proofs.Repair.step.Goals as goal
use Rattle.repair.proofs.Repair.step.Goals.{then-is_empty-via-then-is_empty, then-is_empty-via-else-is_empty+then-list-lt-ROOM}
use Rattle.repair.proofs.Repair.step.Goals.{then-held-size-via-then-held-size, then-held-size-via-else-held-size+then-image-size}

pub returns-then-is_empty : goal.returns-then-is_empty
returns-then-is_empty c =
    let a = c.args in
    does_same (elim c.then-is_empty.branch [
      | then-is_empty-via-then-is_empty w ↦ without_input a.self a.input.now a.held.now _ _ (eqb-true _ _ (sym c.is_empty.ensures ∙ w.if-is_empty.true))
      | then-is_empty-via-else-is_empty+then-list-lt-ROOM w ↦
          without_line a.self a.input.now a.held.now _ _ (eqb-false _ _ (sym c.is_empty.ensures ∙ w.if-is_empty.false)) w.if-list-lt-ROOM.true
    ]) (silent 0 a.self _ _ _ c.silent.ensures)

pub returns-then-self-size : goal.returns-then-self-size
returns-then-self-size c =
    let a = c.args in
    let some = eqb-false _ _ (sym c.is_empty.ensures ∙ c.if-is_empty.false) in
    does_same (passing a.self a.input.now a.held.now _ _ some c.if-list-lt-ROOM.false (rw (sym c.size_now-size.ensures) c.if-self-size.true)) (c.passed.ensures _ _)

pub returns-then-held-size : goal.returns-then-held-size
returns-then-held-size c =
    let a = c.args in
    let some = eqb-false _ _ (sym c.is_empty.ensures ∙ c.if-is_empty.false) in
    let size = c.size_now-size.ensures in
    let lacks = rw size at c.if-self-size.false in
    does_same (elim c.then-held-size.branch [
      | then-held-size-via-then-held-size w ↦ held_too_short a.self a.input.now a.held.now _ _ some c.if-list-lt-ROOM.false lacks (rw size at w.if-held-size.true)
      | then-held-size-via-else-held-size+then-image-size w ↦
          image_too_short a.self a.input.now a.held.now _ _ some c.if-list-lt-ROOM.false lacks (rw size at w.if-held-size.false) (rw size at w.if-image-size.true)
    ]) (silent 0 a.self _ _ _ c.silent-then-held-size.ensures)

pub took-requires : goal.took-requires
took-requires c =
    let a = c.args in
    let size = c.size_now-size.ensures in
    let few = part-short a.input.now (ap (λ (n : ℕ). n - a.self.have) size) c.min-count.ensures in record {
      lacks_some = rw size at c.if-self-size.false;
      no_more = omega (arith, few, size, c.if-self-size.false);
      room = record { held_has = rw size at c.if-held-size.false; image_has = rw size at c.if-image-size.false; list_has = c.if-list-lt-ROOM.false };
    }

pub returns : goal.returns
returns c =
    let a = c.args in
    let some = eqb-false _ _ (sym c.is_empty.ensures ∙ c.if-is_empty.false) in
    let size = c.size_now-size.ensures in
    let bytes = part_lacking a.input.now (ap (λ (n : ℕ). n - a.self.have) size) c.min-count.ensures in
    does_same (taking a.self a.input.now a.held.now _ _ some c.if-list-lt-ROOM.false (rw size at c.if-self-size.false) (rw size at c.if-held-size.false) (rw size at c.if-image-size.false)
    ∙ ap (λ (l : List ℕ). took a.self l a.held.now) (sym bytes)) c.took.ensures
