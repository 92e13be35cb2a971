-- The header's own tests give the first reason, and behind them the array's.
use Rattle.std.proofs.Common.{◌≡◌, ℕ, Bool, true, false, cond, not, refl, arith, ◌∙◌}
use Rattle.refusal.specs.Refusals.{number}
use Rattle.refusal.specs.declared.Refusal.{Refusal}
use Rattle.refusal.proofs.Passing.{passed_on, number-some}
use Rattle.layout.specs.Answers.{refuse}
use Rattle.lines.specs.Headers.{header_refusal}
use Rattle.lines.proofs.header.check_header.Goals as goal

failed : (refusal : Refusal) (whole : Bool) (later : ℕ) → number refusal ≡ cond whole 0 10 → number refusal ≡ refuse (not whole) 10 later
failed refusal true later e = absurd (number-some refusal e)
failed refusal false later e = e

passed : (whole : Bool) (later : ℕ) → ◌≡◌ {A = ℕ} 0 (cond whole 0 10) → later ≡ refuse (not whole) 10 later
passed true later e = refl
passed false later e = absurd (omega arith)

pub returns-in_err-demand : goal.returns-in_err-demand
unfolding header_refusal
returns-in_err-demand c = passed_on _ _ c.from_residual.ensures.1 ∙ rw (← c.is_whole.ensures) (failed _ _ _ c.in_err-demand.ensures)

pub returns : goal.returns
unfolding header_refusal
returns c = rw (c.check_array.ensures, c.array_in.ensures, ← c.is_whole.ensures) (passed _ _ c.in_ok-demand.ensures)
