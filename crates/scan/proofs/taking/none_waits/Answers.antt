-- `scan::taking::none_waits` meets its contract. Assumes nothing.
use mathlib.Core.Path.{refl, sym, ◌∙◌}
use mathlib.Core.Bool.{Bool, true, ◌&&◌}
use Prim.Native.Nat.{ℕ}
use native.Mathlib.Omega.{arith}
use borrow.Author.Tests.{eqb-true}
use lib.Dec.{eqb}
use lib.ListN.{get_or}
use Rattle.std.proofs.Common.{rules, tests}
use Rattle.std.specs.List.{list_all}
use Rattle.std.proofs.lemmas.Iterator.{YieldsList-from_slice}
use Rattle.std.proofs.lemmas.Iterator.Consumers.{fold_from_yields_List}
use Rattle.std.proofs.lemmas.List.Recursion.{and_at}
use Rattle.scan.proofs.Replacing.{fold_flag}
use Rattle.scan.proofs.taking.none_waits.Goals as goal

pub returns : goal.returns
returns c =
    let xs = c.args.waiting.now in
    let test : ℕ → Bool = λ x. eqb x 0 in
    let same = fold_from_yields_List _ (λ b x. b && test x) true c.fold.result c.fold.ensures.ran (YieldsList-from_slice xs cc) (λ b x r q k. search (rules, tests)) ∙ fold_flag test true xs in
    λ e i h. eqb-true (get_or xs i 0) 0 (and_at (list_all test) test refl (λ _ _. refl) xs i 0 (omega arith) (sym same ∙ e))
