-- `intent::entries_fit` meets its contract. Assumes nothing.
use mathlib.Core.Path.{sym, ◌∙◌}
use Rattle.std.proofs.Common.{rules, tests}
use Rattle.std.proofs.lemmas.Iterator.{YieldsList-from_slice}
use Rattle.std.proofs.lemmas.Iterator.Search.{all_from_yields_List}
use Rattle.intent.specs.Records.{entry_fits, entries_fit}
use Rattle.intent.proofs.Entries.{all-map}
use Rattle.intent.proofs.entries_fit.Goals as goal

pub returns : goal.returns
unfolding entries_fit
returns c =
    let a = c.args in
    let test = entry_fits a.stripes a.entries.now in
    all_from_yields_List test _ _ _ c.all.ensures.ran (YieldsList-from_slice a.entries.now cc) (λ x b q k. search (rules, tests))
    ∙ sym (all-map test a.entries.now)
