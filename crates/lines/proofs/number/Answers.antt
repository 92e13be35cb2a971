-- The digits that `io` answers are `decimal`.
use Rattle.std.proofs.Common.{◌∙◌}
use Rattle.lines.proofs.Digits.{few-digits, digits_decimal}
use Rattle.lines.proofs.number.Goals as goal

pub put-requires : goal.put-requires
put-requires c =
    let few = few-digits _ c.decimal-count.result c.ranges.n.fits c.decimal-count.ensures.len in
    let e = c.decimal-count.ensures in
    rw (e.digits ∙ digits_decimal c.args.n c.decimal-count.result c.ranges.n.fits e.len) c.requires

pub returns : goal.returns
returns c =
    let e = c.decimal-count.ensures in
    rw (e.digits ∙ digits_decimal c.args.n c.decimal-count.result c.ranges.n.fits e.len) at c.put.ensures
