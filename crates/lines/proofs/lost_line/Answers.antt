use Rattle.lines.specs.Lines.{lost_line}
use Rattle.lines.specs.Text.{lost_word}
use Rattle.lines.proofs.Lines.{lost-line-fits}
use Rattle.lines.proofs.lost_line.Goals as goal

pub write-requires : goal.write-requires
unfolding lost_line lost_word
write-requires c = lost-line-fits c.args.stripe

pub returns : goal.returns
unfolding lost_line lost_word
returns c = c.write.ensures
