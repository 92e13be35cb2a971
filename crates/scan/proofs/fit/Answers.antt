-- `scan::fit` is `fit`, of the parts of a state: by the members one by one. Assumes nothing.
use mathlib.Core.Path.{sym, ◌∙◌}
use mathlib.Core.List.{List, []}
use Prim.Native.Nat.{ℕ}
use native.Mathlib.Omega.{arith}
use Rattle.layout.specs.declared.Array.{Array}
use Rattle.layout.proofs.Ranges.{stripe_sound}
use Rattle.scan.specs.declared.Scan.{Scan}
use Rattle.scan.specs.Scans.{fit}
use Rattle.scan.proofs.Fitness.{numbers-unfit, numbers_fit}
use Rattle.scan.proofs.Refusals.{is-done, not-done}
use Rattle.scan.proofs.fit.Goals as goal

-- a state of these parts
abbrev whole : Array → ℕ → List ℕ → List ℕ → List ℕ → Scan
whole array stripe at register waiting = record { array = array; stripe = stripe; at = at; register = register; waiting = waiting; tag = [] }

pub members_fit-requires : goal.members_fit-requires
members_fit-requires c =
    let p = c.args in
    let sound = sym c.check_stripe.ensures ∙ is-done _ (sym c.is_ok.ensures.value ∙ c.if-is_ok.true) in
    (stripe_sound p.array p.stripe sound).array.many

pub returns-then-is_ok : goal.returns-then-is_ok
unfolding fit
returns-then-is_ok c =
    let p = c.args in
    let sound = sym c.check_stripe.ensures ∙ is-done _ (sym c.is_ok.ensures.value ∙ c.if-is_ok.true) in
    c.members_fit.ensures ∙ numbers_fit (whole p.array p.stripe p.at.now p.register.now p.waiting.now) sound (omega (arith, (stripe_sound p.array p.stripe sound).array.many))

pub returns-else-is_ok : goal.returns-else-is_ok
unfolding fit
returns-else-is_ok c =
    let p = c.args in
    let none = not-done _ (sym c.is_ok.ensures.value ∙ c.if-is_ok.false) in
    c.if-is_ok.false ∙ sym (numbers-unfit (whole p.array p.stripe p.at.now p.register.now p.waiting.now) (λ z. none (c.check_stripe.ensures ∙ z)))
