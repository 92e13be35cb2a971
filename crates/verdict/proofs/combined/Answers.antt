-- `verdict::combined` meets its contract: each guard is one more step. Assumes nothing.
use mathlib.Core.Path.{refl, subst}
use Rattle.std.proofs.Common.{rules}
use Rattle.std.specs.List.{FoldsTo}
use Rattle.std.proofs.lemmas.Fn.{fold_over, slice_gives, fronts, FoldsTo-push}
use Rattle.verdict.proofs.combined.Goals as goal

pub returns : goal.returns
returns g c =
    let gives = g.G.BitXor.bitxor_gives in
    let none = c.default.result in
    let all = fold_over fronts (λ y. y.now) _ (λ ys b. FoldsTo gives none ys b) _
    (λ ys a x b f' j k. (FoldsTo-push gives none ys a x.now b j (search rules), search rules)) c.iter.result c.iter.result.rest.now none c.fold.result (slice_gives c.iter.result) refl c.fold.ensures.ran in
    (none, c.default.ensures, subst (λ l. FoldsTo gives none l c.fold.result) c.iter.ensures.rest all)
