-- `check_array` tells `array_refusal`: the tests in their order. Assumes nothing.
use Rattle.std.proofs.Common.{◌≡◌, ℕ, suc, Bool, true, false, cond, not, sym, ◌∙◌, refl, arith}
use Rattle.refusal.specs.Refusals.{number}
use Rattle.refusal.specs.declared.Refusal.{Refusal}
use Rattle.refusal.proofs.Passing.{passed_on, number-some}
use Rattle.layout.specs.Answers.{refuse}
use Rattle.layout.specs.Arrays.{array_refusal}
use Rattle.layout.proofs.Answers.{demanded}
use Rattle.layout.proofs.check_array.Goals as goal

-- a test that is passed, and one that gives a reason
passed : (t : Bool) (k : ℕ) → 0 ≡ cond t 0 (suc k) → t ≡ true
passed true k e = refl
passed false k e = absurd (omega arith)

failed : (refusal : Refusal) (t : Bool) (k later : ℕ) → number refusal ≡ cond t 0 (suc k) → number refusal ≡ refuse (not t) (suc k) later
failed refusal true k later e = absurd (number-some refusal e)
failed refusal false k later e = e

pub returns-in_err-demand : goal.returns-in_err-demand
unfolding array_refusal
returns-in_err-demand c =
    passed_on _ _ c.from_residual.ensures.1
    ∙ rw (← c.is_within-members.ensures) (failed _ _ 0 _ c.in_err-demand.ensures)

pub returns-in_err-demand-2 : goal.returns-in_err-demand-2
unfolding array_refusal
returns-in_err-demand-2 c =
    let m = sym c.is_within-members.ensures ∙ passed _ 0 c.in_ok-demand.ensures in
    passed_on _ _ c.from_residual-in_err-demand-2.ensures.1
    ∙ rw (m, ← c.is_within-stripes.ensures) (failed _ _ 1 _ c.in_err-demand-2.ensures)

pub returns-in_err-demand-3 : goal.returns-in_err-demand-3
unfolding array_refusal
returns-in_err-demand-3 c =
    let m = sym c.is_within-members.ensures ∙ passed _ 0 c.in_ok-demand.ensures in
    let s = sym c.is_within-stripes.ensures ∙ passed _ 1 c.in_ok-demand-2.ensures in
    passed_on _ _ c.from_residual-in_err-demand-3.ensures.1
    ∙ rw (m, s, ← c.is_within-method.ensures) (failed _ _ 11 _ c.in_err-demand-3.ensures)

pub returns : goal.returns
unfolding array_refusal
returns c =
    let m = sym c.is_within-members.ensures ∙ passed _ 0 c.in_ok-demand.ensures in
    let s = sym c.is_within-stripes.ensures ∙ passed _ 1 c.in_ok-demand-2.ensures in
    let k = sym c.is_within-method.ensures ∙ passed _ 11 c.in_ok-demand-3.ensures in
    c.demand-4.ensures ∙ rw (m, s, k, ← c.row_fits-row.ensures) (demanded _ 13)
