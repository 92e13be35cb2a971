-- `checksum::machine::from_even` meets its contract. Assumes nothing.
use mathlib.Core.Path.{refl, ap, ◌∙◌}
use native.Mathlib.Omega.{arith}
use Rattle.checksum.specs.Machine.{register_of, advance}
use Rattle.checksum.proofs.Joined.{advance-part}
use Rattle.checksum.proofs.machine.from_even.Goals as goal

pub loop-first-preserved : goal.loop-first-preserved
loop-first-preserved c =
    let l = c.loop-first in
    let cut = c.in-Some.ensures.cases in
    let v = c.block-value.result in
    ap (advance 0 (register_of v 0)) cut.1
    ∙ advance-part 512 (register_of l.value l.waiting) l.rest.now c.in-Some.first.now v refl (omega arith) (omega (arith, cut.2)) cut.0 c.block-value.ensures
    ∙ l.invariant

pub loop-first-2-preserved : goal.loop-first-2-preserved
loop-first-2-preserved c =
    let l = c.loop-first-2 in
    let cut = c.in-Some-split_first_chunk.ensures.cases in
    let v = c.row-value.result in
    ap (advance 0 (register_of v 0)) cut.1
    ∙ advance-part 32 (register_of l.value l.waiting) l.rest.now c.in-Some-split_first_chunk.first.now v refl (omega arith) (omega (arith, cut.2)) cut.0 c.row-value.ensures
    ∙ l.invariant
