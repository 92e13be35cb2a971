-- `patrol::check_turn` tells the first reason that holds. Assumes nothing.
use mathlib.Core.Path.{◌≡◌, sym, ap, ◌∙◌}
use mathlib.Core.Bool.{Bool, not, ◌&&◌, true≢false}
use Prim.Native.Nat.{ℕ}
use native.Mathlib.Omega.{arith}
use lib.Dec.{eqb}
use Rattle.refusal.proofs.Passing.{passed_on}
use Rattle.format.proofs.Sizes.{block-times}
use Rattle.layout.specs.Answers.{refuse}
use Rattle.layout.proofs.Answers.{demanded}
use Rattle.tag.specs.Blocks.{format_at}
use Rattle.stripe.specs.Stripes.{stripe_length}
use Rattle.patrol.specs.Patrols.{fit, turn_refusal}
use Rattle.patrol.specs.Rows.{FitPatrol, done}
use Rattle.patrol.proofs.Answers.{ok-told, passed, failed}
use Rattle.patrol.proofs.Rows.{fit_exactly, turn_refused_exactly}
use Rattle.patrol.proofs.check_turn.Goals as goal

pub returns-in_err-demand : goal.returns-in_err-demand
unfolding turn_refusal
returns-in_err-demand c =
    let a = c.args in
    let fit_is : c.is_ok.result ≡ fit a.state = c.is_ok.ensures.value ∙ ok-told c.check_stripe.result ∙ ap (λ (n : ℕ). eqb n 0) c.check_stripe.ensures in
    passed_on _ _ c.from_residual.ensures.1 ∙ failed _ c.is_ok.result 3 _ c.in_err-demand.ensures
    ∙ ap (λ (f : Bool). refuse (not f) 4 (refuse (a.idle && not (eqb a.length (stripe_length a.state.array))) 6 0)) fit_is

pub returns-then-not-idle : goal.returns-then-not-idle
returns-then-not-idle c =
    let a = c.args in
    let fit_is : c.is_ok.result ≡ fit a.state = c.is_ok.ensures.value ∙ ok-told c.check_stripe.result ∙ ap (λ (n : ℕ). eqb n 0) c.check_stripe.ensures in
    let fits : FitPatrol a.state = (fit_exactly a.state).0 (sym fit_is ∙ passed _ 3 c.in_ok-demand.ensures) in
    sym ((turn_refused_exactly a.state a.idle a.length 0).1 (done fits (λ e. absurd (true≢false (sym e ∙ c.if-not-idle.true)))))

pub overflow_mul-block_length : goal.overflow_mul-block_length
overflow_mul-block_length c =
    let a = c.args in
    let fit_is : c.is_ok.result ≡ fit a.state = c.is_ok.ensures.value ∙ ok-told c.check_stripe.result ∙ ap (λ (n : ℕ). eqb n 0) c.check_stripe.ensures in
    let fits : FitPatrol a.state = (fit_exactly a.state).0 (sym fit_is ∙ passed _ 3 c.in_ok-demand.ensures) in
    rw c.block_length.ensures (omega (arith, block-times (format_at a.state.array) a.state.array.members, fits.array.many))

pub returns : goal.returns
unfolding turn_refusal
returns c =
    let a = c.args in
    let fit_is : c.is_ok.result ≡ fit a.state = c.is_ok.ensures.value ∙ ok-told c.check_stripe.result ∙ ap (λ (n : ℕ). eqb n 0) c.check_stripe.ensures in
    let fits = sym fit_is ∙ passed _ 3 c.in_ok-demand.ensures in
    rw (fits, c.if-not-idle.false, c.demand-2.ensures, c.block_length.ensures) (demanded _ 6)
