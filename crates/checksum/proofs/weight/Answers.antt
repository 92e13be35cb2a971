-- `checksum::weight` meets its contract. Assumes nothing.
use mathlib.Core.Path.{◌≡◌, refl, sym, ap, ◌∙◌}
use mathlib.Core.List.{List}
use Prim.Native.Nat.{ℕ, ◌+◌, ◌*◌, ◌≤◌}
use native.Mathlib.Omega.{arith}
use lib.ListN.{get_or}
use borrow.Author.Rules.{elem_Fits}
use mir.Syntax.{w16}
use Rattle.checksum.specs.Lanes.{pairs}
use Rattle.checksum.specs.Weights.{made}
use Rattle.checksum.proofs.Rows.{made-front, made-short, weight_le, front-most}
use Rattle.checksum.proofs.weight.Goals as goal

pub overflow_add-t-in-Some : goal.overflow_add-t-in-Some
overflow_add-t-in-Some c =
    let l = c.loop-high in
    let cut = c.in-Some.ensures.cases in
    let small : (k : ℕ) → get_or c.args.lanes k 0 ≤ 65535 = λ k. omega (arith, (elem_Fits w16 w16 c.args.lanes c.well_formed.0.0 k c.well_formed.0.1.1 tt).fits) in
    let most : made l.t (pairs l.rest.now) ≤ 1103789752320 = omega (arith, l.invariant, weight_le c.args.lanes 65535 (omega arith) small) in
    let few = front-most l.t c.from.result c.from-in-Some.result l.rest.now c.in-Some.field-0-0.now 1103789752320 (omega (arith, cut.2)) cut.0 c.from.ensures c.from-in-Some.ensures most in
    omega (arith, few)

pub overflow_mul-t : goal.overflow_mul-t
overflow_mul-t c =
    let l = c.loop-high in
    let cut = c.in-Some.ensures.cases in
    let small : (k : ℕ) → get_or c.args.lanes k 0 ≤ 65535 = λ k. omega (arith, (elem_Fits w16 w16 c.args.lanes c.well_formed.0.0 k c.well_formed.0.1.1 tt).fits) in
    let most : made l.t (pairs l.rest.now) ≤ 1103789752320 = omega (arith, l.invariant, weight_le c.args.lanes 65535 (omega arith) small) in
    let few = front-most l.t (get_or c.in-Some.field-0-0.now 0 0) (get_or c.in-Some.field-0-0.now 1 0) l.rest.now c.in-Some.field-0-0.now 1103789752320 (omega (arith, cut.2)) cut.0 refl refl most in
    omega (arith, few)

pub loop-high-preserved : goal.loop-high-preserved
loop-high-preserved c =
    let l = c.loop-high in
    let cut = c.in-Some.ensures.cases in
    ap (λ (r : List ℕ). made (l.t * 2 + (c.from.result * 256 + c.from-in-Some.result)) (pairs r)) cut.1
    ∙ made-front l.t c.from.result c.from-in-Some.result l.rest.now c.in-Some.field-0-0.now (omega (arith, cut.2)) cut.0 c.from.ensures c.from-in-Some.ensures
    ∙ l.invariant

pub returns : goal.returns
returns c =
    let l = c.loop-high in
    let small : (k : ℕ) → get_or c.args.lanes k 0 ≤ 65535 = λ k. omega (arith, (elem_Fits w16 w16 c.args.lanes c.well_formed.0.0 k c.well_formed.0.1.1 tt).fits) in
    let e : l.t ≡ made 0 (pairs c.args.lanes) = sym (made-short l.t l.rest.now (omega (arith, c.in_default.ensures.cases))) ∙ l.invariant in
    (e, omega (arith, e, weight_le c.args.lanes 65535 (omega arith) small))
