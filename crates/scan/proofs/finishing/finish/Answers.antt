-- `scan::finishing::finish` meets its contract: refused by its own tests, else the judgement of how the members stand, of the work buffer
-- and of what is left of the guards. Assumes nothing.
use mathlib.Core.Path.{refl, sym, ap, ◌∙◌}
use mathlib.Core.List.{[], ◌∷◌}
use Prim.Native.Nat.{ℕ, ◌-◌}
use native.Mathlib.Omega.{arith}
use lib.ListN.{length, take}
use Rattle.std.proofs.lemmas.Result.{err_from_is_err_and}
use Rattle.refusal.proofs.Passing.{number-some}
use Rattle.verdict.specs.Verdicts.{verdict_numbers}
use Rattle.stripe.proofs.Fronts.{lent-front}
use Rattle.scan.specs.Steps.{standings_held}
use Rattle.scan.proofs.Fitness.{finish-fit}
use Rattle.scan.proofs.Judging.{finish-found, finish_refused}
use Rattle.scan.proofs.finishing.finish.Goals as goal

pub returns-in_err-check_finish : goal.returns-in_err-check_finish
returns-in_err-check_finish c =
    let a = c.args in
    let told = c.in_err-check_finish.ensures in
    let p = err_from_is_err_and c.from_residual.result c.from_residual.ensures.1 in
    rw (p.1, p.2) (ap (λ (n : ℕ). 0 ∷ n ∷ 0 ∷ 0 ∷ 0 ∷ 0 ∷ []) told ∙ sym (finish_refused a.state a.work.now (λ e. number-some _ (told ∙ e))))

pub standings-standing-requires : goal.standings-standing-requires
standings-standing-requires c = finish-fit c.args.state (length c.args.work.now) (sym c.in_ok-check_finish.ensures)

pub guards_left-left-requires : goal.guards_left-left-requires
guards_left-left-requires c = (finish-fit c.args.state (length c.args.work.now) (sym c.in_ok-check_finish.ensures)).few

pub slice_bounds-judge-end : goal.slice_bounds-judge-end
slice_bounds-judge-end c =
    let fits = finish-fit c.args.state (length c.args.work.now) (sym c.in_ok-check_finish.ensures) in
    omega (arith, fits.few)

pub returns : goal.returns
returns c =
    let a = c.args in
    let n = a.state.array.members in
    let none = sym c.in_ok-check_finish.ensures in
    finish-found a.state a.work.now none (finish-fit a.state (length a.work.now) none).few
    (take (n - 0) c.standings-standing.result) (verdict_numbers c.judge.result) c.guards_left-left.result
    (lent-front (standings_held a.state) c.standings-standing.result n n refl c.standings-standing.ensures) c.guards_left-left.ensures c.judge.ensures
