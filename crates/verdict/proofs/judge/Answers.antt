-- `verdict::judge` meets its contract. Assumes nothing.
use mathlib.Core.Path.{◌∙◌}
use Rattle.verdict.proofs.Behind.{judged-told}
use Rattle.verdict.proofs.judge.Goals as goal

pub returns : goal.returns
returns c =
    let p = c.first_nonzero-place in
    let a = c.args in
    c.judge_at.ensures ∙ judged-told a.combined.now a.left a.members.now p.result p.ensures
