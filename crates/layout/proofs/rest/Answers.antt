-- `rest` is the rest, by 0 and by 1 too. Assumes nothing.
use Rattle.std.proofs.Common.{ℕ, ◌%◌, sym, ap, ◌∙◌}
use native.Mathlib.Nat.{mod-zero, mod-one}
use Rattle.layout.proofs.rest.Goals as goal

pub returns-then-m-eq1 : goal.returns-then-m-eq1
returns-then-m-eq1 c = let x = c.args.x in sym (ap (λ (m : ℕ). x % m) c.if-m-eq1.true ∙ mod-one x)

pub returns-then-m-eq0 : goal.returns-then-m-eq0
returns-then-m-eq0 c = let x = c.args.x in sym (ap (λ (m : ℕ). x % m) c.if-m-eq0.true ∙ mod-zero x)
