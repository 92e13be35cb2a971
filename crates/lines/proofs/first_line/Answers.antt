use Rattle.lines.specs.Text.{scrub_word, members_word, stripes_word}
use Rattle.lines.proofs.Lines.{first-line-parts, first-line-fits}
use Rattle.lines.proofs.first_line.Goals as goal

pub write-requires : goal.write-requires
unfolding scrub_word members_word stripes_word
write-requires c = rw first-line-parts at (first-line-fits c.args.array)

pub returns : goal.returns
unfolding scrub_word members_word stripes_word
returns c = rw first-line-parts c.write.ensures
