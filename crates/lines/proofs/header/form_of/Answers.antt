-- The table is `form_of`, row by row.
use Rattle.std.proofs.Common.{◌≢◌, arith}
use borrow.Author.Tests.{ne_eqb}
use Rattle.lines.specs.Headers.{form_of}
use Rattle.lines.proofs.header.form_of.Goals as goal

pub returns-in-1 : goal.returns-in-1
unfolding form_of
returns-in-1 c = rw c.in-1.is

pub returns-in-2 : goal.returns-in-2
unfolding form_of
returns-in-2 c = rw c.in-2.is

pub returns-in-3 : goal.returns-in-3
unfolding form_of
returns-in-3 c = rw c.in-3.is

pub returns-in-4 : goal.returns-in-4
unfolding form_of
returns-in-4 c = rw c.in-4.is

pub returns-in_default : goal.returns-in_default
unfolding form_of
returns-in_default c =
    let v = c.args.version in
    let n1 : v ≢ 1 = omega arith in
    let n2 : v ≢ 2 = omega arith in
    let n3 : v ≢ 3 = omega arith in
    let n4 : v ≢ 4 = omega arith in
    rw (ne_eqb v 1 n1, ne_eqb v 2 n2, ne_eqb v 3 n3, ne_eqb v 4 n4)
