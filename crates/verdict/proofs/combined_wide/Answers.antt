-- `verdict::combined_wide` meets its contract. Assumes nothing.
use Rattle.verdict.proofs.Quick.{guards_folded}
use Rattle.verdict.proofs.combined_wide.Goals as goal

pub returns : goal.returns
returns c = let folded = c.combined.ensures in guards_folded c.args.guards.now folded.0 _ folded.1 folded.2
