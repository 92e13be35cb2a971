use Rattle.std.proofs.Common.{◌∙◌, get_or}
use Rattle.lines.specs.Headers.{array_in}
use Rattle.lines.proofs.Headers.{wide_most}
use Rattle.lines.proofs.header.array_in.Goals as goal

pub number_at-stripes-requires : goal.number_at-stripes-requires
number_at-stripes-requires c = rw c.form_in.ensures (wide_most (get_or c.args.header.now 2 0))

pub returns : goal.returns
unfolding array_in
returns c =
    c.array_of.ensures
    ∙ rw (c.later-row.ensures, c.later-method.ensures, c.number_at-stripes.ensures, c.form_in.ensures, c.byte-volume.ensures, c.from.ensures, c.byte-members.ensures)
