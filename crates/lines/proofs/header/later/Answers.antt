use Rattle.std.proofs.Common.{arith, get_or}
use borrow.Author.Tests.{lt-ltb, le-ltb}
use Rattle.lines.specs.Headers.{later}
use Rattle.lines.proofs.Headers.{later-inside}
use Rattle.lines.proofs.header.later.Goals as goal

pub overflow_add-form : goal.overflow_add-form
overflow_add-form c =
    let inside = later-inside (get_or c.args.header.now 2 0) c.args.k c.form_in-form.result c.form_in-form.ensures c.if-k-form.true in
    omega arith

pub overflow_add-form-then-k-form : goal.overflow_add-form-then-k-form
overflow_add-form-then-k-form c =
    let inside = later-inside (get_or c.args.header.now 2 0) c.args.k c.form_in-form.result c.form_in-form.ensures c.if-k-form.true in
    omega arith

pub returns-then-k-form : goal.returns-then-k-form
unfolding later
returns-then-k-form c = rw (← c.form_in-form.ensures, lt-ltb _ _ c.if-k-form.true) c.byte.ensures

pub returns-else-k-form : goal.returns-else-k-form
unfolding later
returns-else-k-form c = rw (← c.form_in-form.ensures, le-ltb _ _ c.if-k-form.false)
