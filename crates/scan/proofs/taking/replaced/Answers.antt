-- `scan::taking::replaced` meets its contract. Assumes nothing.
use mathlib.Core.Path.{sym, ◌∙◌}
use mathlib.Core.Bool.{cond}
use lib.Dec.{eqb}
use lib.ListN.{get_or}
use Rattle.std.proofs.Common.{rules}
use Rattle.scan.proofs.Replacing.{made_by, chosen-set}
use Rattle.scan.proofs.taking.replaced.Goals as goal

pub returns : goal.returns
returns g c =
    let a = c.args in
    made_by _ _ (λ i. cond (eqb i a.place) a.value (get_or a.held i a.value)) 16 (λ i y q h k. search rules) c.from_fn.result c.from_fn.ensures.items a.value
    ∙ sym (chosen-set a.held a.place a.value 16 (search rules))
