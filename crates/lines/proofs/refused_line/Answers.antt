use Rattle.lines.specs.Lines.{refused_line}
use Rattle.lines.specs.Text.{refused_word}
use Rattle.lines.proofs.Lines.{refused_line-fits}
use Rattle.lines.proofs.refused_line.Goals as goal

pub write-requires : goal.write-requires
unfolding refused_line refused_word
write-requires c = refused_line-fits c.from.result

pub returns : goal.returns
unfolding refused_line refused_word
returns c = rw c.from.ensures at c.write.ensures
