-- `format::waits` meets its contract. Assumes nothing.
use mathlib.Core.Path.{◌≡◌, sym, ap, ◌∙◌}
use mathlib.Core.Bool.{false}
use Prim.Native.Nat.{◌%◌}
use borrow.Author.Tests.{ne_eqb}
use lib.Dec.{eqb}
use Rattle.format.specs.Formats.{Format}
use Rattle.format.specs.Packed.{may_wait}
use Rattle.format.proofs.waits.Goals as goal

pub returns-then-position-eq1 : goal.returns-then-position-eq1
unfolding may_wait
returns-then-position-eq1 c =
    let p = c.args.position in
    sym (sym (ap (λ (F : Format). F.waits p) c.in-Checksum.ensures) ∙ rw c.if-position-eq1.true)

pub returns-else-position-eq1 : goal.returns-else-position-eq1
unfolding may_wait
returns-else-position-eq1 c =
    let p = c.args.position in
    let even : eqb (p % 2) 1 ≡ false = ne_eqb (p % 2) 1 c.if-position-eq1.false in
    even ∙ sym (sym (ap (λ (F : Format). F.waits p) c.in-Checksum.ensures) ∙ rw even)
