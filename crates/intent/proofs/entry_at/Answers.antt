-- `intent::entry_at` meets its contract. Assumes nothing.
use mathlib.Core.Path.{◌∙◌}
use native.Mathlib.Omega.{arith}
use Rattle.intent.proofs.Entries.{eight_there}
use Rattle.intent.proofs.entry_at.Goals as goal

pub returns : goal.returns
returns c =
    let a = c.args in
    c.from_be_bytes.ensures ∙ eight_there a.at a.log.now (omega arith)
