-- `scan::members_fit` meets its contract. Assumes nothing.
use mathlib.Core.Path.{refl, sym, ap, ◌∙◌}
use mathlib.Core.Bool.{Bool}
use Prim.Native.Nat.{ℕ}
use native.Mathlib.Omega.{arith}
use lib.ListN.{get_or}
use Rattle.std.proofs.Common.{rules, tests}
use Rattle.std.specs.List.{range_with_len}
use Rattle.std.proofs.lemmas.Iterator.{YieldsList-from_range}
use Rattle.std.proofs.lemmas.Iterator.Search.{all_from_yields_List}
use Rattle.stripe.specs.Tables.{all}
use Rattle.format.specs.Methods.{format_of}
use Rattle.scan.specs.Steps.{member_fit}
use Rattle.scan.proofs.Replacing.{list_all_flags, table-range}
use Rattle.scan.proofs.members_fit.Goals as goal

pub returns : goal.returns
returns c =
    let a = c.args in
    let n = a.members in
    let test : ℕ → Bool = λ m. member_fit (format_of a.method) (get_or a.at.now m 0) (get_or a.register.now m 0) (get_or a.waiting.now m 0) in
    all_from_yields_List test _ _ c.all.result c.all.ensures.ran (YieldsList-from_range 0 n n refl (omega arith)) (λ x b q k. search (rules, tests))
    ∙ list_all_flags test (range_with_len 0 n) ∙ ap all (sym (table-range test n))
