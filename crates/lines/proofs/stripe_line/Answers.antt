-- Verdict by verdict.
use Rattle.std.proofs.Common.{append-nil}
use Rattle.verdict.specs.Verdicts.{verdict_numbers}
use Rattle.lines.specs.Text.{clean_word, bad_word, unchecked_word, torn_word}
use Rattle.lines.proofs.Lines.{clean_line, bad-line, unchecked-line, torn-line, stripe-line-fits}
use Rattle.lines.proofs.stripe_line.Goals as goal

pub write-requires : goal.write-requires
unfolding clean_word
write-requires c = rw (c.in-Clean.is, clean_line) at (stripe-line-fits c.args.stripe (verdict_numbers c.args.verdict))

pub write-requires-in-Bad : goal.write-requires-in-Bad
unfolding bad_word
write-requires-in-Bad c =
    rw (append-nil, c.bad_ending-ending.ensures) (rw (c.in-Bad.is, bad-line) at (stripe-line-fits c.args.stripe (verdict_numbers c.args.verdict)))

pub write-requires-in-Unchecked : goal.write-requires-in-Unchecked
unfolding unchecked_word
write-requires-in-Unchecked c = rw (c.in-Unchecked.is, unchecked-line) at (stripe-line-fits c.args.stripe (verdict_numbers c.args.verdict))

pub write-requires-in-Torn : goal.write-requires-in-Torn
unfolding torn_word
write-requires-in-Torn c = rw (c.in-Torn.is, torn-line) at (stripe-line-fits c.args.stripe (verdict_numbers c.args.verdict))

pub returns-in-Clean : goal.returns-in-Clean
unfolding clean_word
returns-in-Clean c = rw (c.in-Clean.is, clean_line) c.write.ensures

pub returns-in-Bad : goal.returns-in-Bad
unfolding bad_word
returns-in-Bad c = rw (c.in-Bad.is, bad-line) (rw (append-nil, c.bad_ending-ending.ensures) at c.write-in-Bad.ensures)

pub returns-in-Unchecked : goal.returns-in-Unchecked
unfolding unchecked_word
returns-in-Unchecked c = rw (c.in-Unchecked.is, unchecked-line) c.write-in-Unchecked.ensures

pub returns-in-Torn : goal.returns-in-Torn
unfolding torn_word
returns-in-Torn c = rw (c.in-Torn.is, torn-line) c.write-in-Torn.ensures
