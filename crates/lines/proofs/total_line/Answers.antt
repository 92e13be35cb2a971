use Rattle.lines.specs.Text.{total_word, clean_count, bad_count, unchecked_count, torn_count}
use Rattle.lines.proofs.Lines.{total_line-parts, total_line-fits}
use Rattle.lines.proofs.total_line.Goals as goal

pub write-requires : goal.write-requires
unfolding total_word clean_count bad_count unchecked_count torn_count
write-requires c = rw total_line-parts at (total_line-fits c.args.array c.args.tally)

pub returns : goal.returns
unfolding total_word clean_count bad_count unchecked_count torn_count
returns c = rw total_line-parts c.write.ensures
