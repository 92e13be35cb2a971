-- `checksum::machine::by_words` meets its contract. Assumes nothing.
use mathlib.Core.Path.{ap, ◌∙◌}
use native.Mathlib.Omega.{arith}
use Rattle.checksum.specs.Machine.{register_of, advance}
use Rattle.checksum.proofs.Joined.{advance-two, advance-last, advance-empty}
use Rattle.checksum.proofs.machine.by_words.Goals as goal

pub loop-high-preserved : goal.loop-high-preserved
loop-high-preserved c =
    let l = c.loop-high in
    let cut = c.in-Some.ensures.cases in
    let v = c.take_word-value.result in
    ap (advance 0 (register_of v 0)) cut.1
    ∙ advance-two (register_of l.value l.waiting) l.rest.now c.in-Some.field-0-0.now v (omega (arith, cut.2)) cut.0 c.take_word-value.ensures
    ∙ l.invariant

pub returns-in-Some-first : goal.returns-in-Some-first
returns-in-Some-first c =
    let l = c.loop-high in
    let item = c.in-Some-first.ensures.item in
    advance-last (register_of l.value l.waiting) l.rest.now c.in-Some-first.last.now item.3.0 (omega (arith, c.in_default.ensures.cases)) (item.3.1 0) (omega arith)
    ∙ l.invariant

pub returns-in_default-first : goal.returns-in_default-first
returns-in_default-first c =
    let l = c.loop-high in
    advance-empty 0 (register_of l.value l.waiting) l.rest.now (omega (arith, c.in_default-first.ensures.item.3)) ∙ l.invariant
