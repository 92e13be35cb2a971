use Rattle.lines.specs.Text.{letters}
use Rattle.lines.proofs.bad_ending.Goals as goal

pub returns : goal.returns
unfolding letters
returns c = rw (c.letter-guard.ensures, c.letter-application.ensures, c.letter-reference.ensures)
