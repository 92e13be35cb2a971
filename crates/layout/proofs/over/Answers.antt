-- `over` is the quotient, by 0 and by 1 too. Assumes nothing.
use Rattle.std.proofs.Common.{ℕ, ◌/◌, sym, ap, ◌∙◌, div-one}
use native.Mathlib.Nat.{div-zero}
use Rattle.layout.proofs.over.Goals as goal

pub returns-then-m-eq1 : goal.returns-then-m-eq1
returns-then-m-eq1 c = let x = c.args.x in sym (ap (λ (m : ℕ). x / m) c.if-m-eq1.true ∙ div-one x)

pub returns-then-m-eq0 : goal.returns-then-m-eq0
returns-then-m-eq0 c = let x = c.args.x in sym (ap (λ (m : ℕ). x / m) c.if-m-eq0.true ∙ div-zero x)
