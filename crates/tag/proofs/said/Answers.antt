-- `said` answers `told`. Assumes nothing.
use mathlib.Core.Path.{sym, ap, ◌∙◌}
use mathlib.Core.List.{List, ◌∷◌}
use Prim.Native.Nat.{ℕ}
use Rattle.tag.proofs.Checks.{told-exempt, told_checked}
use Rattle.tag.proofs.said.Goals as goal

pub returns-then-is_exempt : goal.returns-then-is_exempt
returns-then-is_exempt c = ap (λ (l : List ℕ). 1 ∷ 0 ∷ l) (sym (told-exempt _ _ _ (sym c.is_exempt.ensures ∙ c.if-is_exempt.true)))

pub returns : goal.returns
returns c = ap (λ (l : List ℕ). 1 ∷ 0 ∷ l) (sym (told_checked _ _ _ (sym c.is_exempt.ensures ∙ c.if-is_exempt.false)))
