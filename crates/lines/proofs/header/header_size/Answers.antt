use Rattle.std.proofs.Common.{arith, get_or}
use borrow.Author.Tests.{ne_eqb}
use Rattle.lines.specs.Headers.{form_size}
use Rattle.lines.proofs.Headers.{form-most}
use Rattle.lines.proofs.header.header_size.Goals as goal

pub overflow_add-result : goal.overflow_add-result
overflow_add-result c = let most = form-most (get_or c.args.header.now 2 0) c.form_in-form.result c.form_in-form.ensures in omega arith

pub overflow_add-result-else-form-eq0 : goal.overflow_add-result-else-form-eq0
overflow_add-result-else-form-eq0 c = let most = form-most (get_or c.args.header.now 2 0) c.form_in-form.result c.form_in-form.ensures in omega arith

pub returns-then-form-eq0 : goal.returns-then-form-eq0
unfolding form_size
returns-then-form-eq0 c = rw (← c.form_in-form.ensures, c.if-form-eq0.true)

pub returns-else-form-eq0 : goal.returns-else-form-eq0
unfolding form_size
returns-else-form-eq0 c = rw (← c.form_in-form.ensures, ne_eqb _ 0 c.if-form-eq0.false)
