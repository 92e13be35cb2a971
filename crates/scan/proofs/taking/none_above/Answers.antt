-- `scan::taking::none_above` meets its contract. Assumes nothing.
use native.Mathlib.Omega.{arith}
use borrow.Author.Tests.{leb-true}
use lib.Bits.{bit_or}
use Rattle.std.proofs.Common.{rules, tests}
use Rattle.std.proofs.lemmas.Iterator.{YieldsList-from_slice}
use Rattle.std.proofs.lemmas.Iterator.Consumers.{fold_from_yields_List}
use Rattle.scan.proofs.Replacing.{fold_bits}
use Rattle.scan.proofs.taking.none_above.Goals as goal

pub returns : goal.returns
returns c =
    let a = c.args in
    let xs = a.register.now in
    let same = fold_from_yields_List _ (λ b x. bit_or b x) 0 c.fold.result c.fold.ensures.ran (YieldsList-from_slice xs cc) (λ b x r q k. search (rules, tests)) in
    λ e i h. omega (arith, leb-true c.fold.result a.most e, same, fold_bits xs 0 i (omega arith))
