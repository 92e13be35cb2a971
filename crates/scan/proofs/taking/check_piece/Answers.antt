-- `scan::taking::check_piece` tells `piece_refusal`: the tests in their order. Assumes nothing.
use mathlib.Core.Path.{◌≡◌, sym, ◌∙◌}
use native.Mathlib.Omega.{arith}
use borrow.Author.Tests.{ltb-true}
use Rattle.refusal.proofs.Passing.{passed_on}
use Rattle.scan.specs.Scans.{fit, piece_refusal}
use Rattle.scan.proofs.Fitness.{fit-state}
use Rattle.scan.proofs.Refusals.{passed, failed, demanded-least}
use Rattle.scan.proofs.taking.check_piece.Goals as goal

pub returns-in_err-demand : goal.returns-in_err-demand
unfolding piece_refusal fit
returns-in_err-demand c =
    let told : c.fit_at_once.result ≡ fit c.args.state = c.fit_at_once.ensures in
    passed_on _ _ c.from_residual.ensures.1
    ∙ rw (← told) (failed _ _ 3 _ c.in_err-demand.ensures)

pub returns-in_err-demand-2 : goal.returns-in_err-demand-2
unfolding piece_refusal fit
returns-in_err-demand-2 c =
    let told : c.fit_at_once.result ≡ fit c.args.state = c.fit_at_once.ensures in
    let f = sym told ∙ passed _ 3 c.in_ok-demand.ensures in
    passed_on _ _ c.from_residual-in_err-demand-2.ensures.1
    ∙ rw f (failed _ _ 4 _ c.in_err-demand-2.ensures)

pub returns-in_err-demand-3 : goal.returns-in_err-demand-3
unfolding piece_refusal fit
returns-in_err-demand-3 c =
    let told : c.fit_at_once.result ≡ fit c.args.state = c.fit_at_once.ensures in
    let f = sym told ∙ passed _ 3 c.in_ok-demand.ensures in
    let m = passed _ 4 c.in_ok-demand-2.ensures in
    passed_on _ _ c.from_residual-in_err-demand-3.ensures.1
    ∙ rw (f, m, ← c.data_length.ensures) (failed _ _ 5 _ c.in_err-demand-3.ensures)

pub offset_bounds-at-member : goal.offset_bounds-at-member
unfolding fit
offset_bounds-at-member c =
    let told : c.fit_at_once.result ≡ fit c.args.state = c.fit_at_once.ensures in
    let s = fit-state c.args.state (sym told ∙ passed _ 3 c.in_ok-demand.ensures) in
    let here = ltb-true _ _ (passed _ 4 c.in_ok-demand-2.ensures) in
    omega (arith, here, s.few)

pub bounds-at-member : goal.bounds-at-member
unfolding fit
bounds-at-member c =
    let told : c.fit_at_once.result ≡ fit c.args.state = c.fit_at_once.ensures in
    let s = fit-state c.args.state (sym told ∙ passed _ 3 c.in_ok-demand.ensures) in
    let here = ltb-true _ _ (passed _ 4 c.in_ok-demand-2.ensures) in
    omega (arith, here, s.few)

pub overflow_sub-block_length : goal.overflow_sub-block_length
unfolding fit
overflow_sub-block_length c =
    let told : c.fit_at_once.result ≡ fit c.args.state = c.fit_at_once.ensures in
    let s = fit-state c.args.state (sym told ∙ passed _ 3 c.in_ok-demand.ensures) in
    let here = ltb-true _ _ (passed _ 4 c.in_ok-demand-2.ensures) in
    omega (arith, s.near _ here, c.from-position.ensures, c.block_length.ensures)

pub returns : goal.returns
unfolding piece_refusal fit
returns c =
    let told : c.fit_at_once.result ≡ fit c.args.state = c.fit_at_once.ensures in
    let f = sym told ∙ passed _ 3 c.in_ok-demand.ensures in
    let m = passed _ 4 c.in_ok-demand-2.ensures in
    let l = passed _ 5 c.in_ok-demand-3.ensures in
    c.demand-4.ensures ∙ rw (f, m, ← c.data_length.ensures, l, ← c.block_length.ensures, ← c.from-position.ensures) (demanded-least _ _ 7)
