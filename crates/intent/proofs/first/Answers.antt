-- `intent::first` meets its contract. Assumes nothing.
use mathlib.Core.Path.{◌∙◌}
use Prim.Native.Nat.{ℕ}
use lib.Dec.{eqb}
use Rattle.std.proofs.Common.{rules, tests}
use Rattle.std.proofs.lemmas.Iterator.{YieldsList-from_slice}
use Rattle.std.proofs.lemmas.Iterator.Search.{position_from_yields_List}
use Rattle.verdict.proofs.Flags.{place_or-length}
use Rattle.intent.proofs.first.Goals as goal

pub returns : goal.returns
returns c =
    let a = c.args in
    let test = λ (e : ℕ). eqb e a.number in
    c.unwrap_or.ensures
    ∙ place_or-length test a.entries.now c.position.result
    (position_from_yields_List test _ _ c.position.result c.position.ensures.ran (YieldsList-from_slice a.entries.now cc) (λ x b q k. search (rules, tests)))
