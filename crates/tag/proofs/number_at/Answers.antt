-- `tag::number_at` meets its contract. Assumes nothing.
use mathlib.Core.Path.{◌∙◌}
use Rattle.tag.proofs.Numbers.{number_there}
use Rattle.tag.proofs.number_at.Goals as goal

pub returns : goal.returns
returns c =
    let a = c.args in
    c.number_of.ensures ∙ number_there a.at a.count a.bytes.now (λ k. (c.type_inv.bytes k).fits) c.requires.count_bound
