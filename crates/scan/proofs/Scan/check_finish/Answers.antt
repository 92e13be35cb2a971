-- `scan::Scan::check_finish` tells `finish_refusal`: the tests in their order. Assumes nothing.
use mathlib.Core.Path.{◌≡◌, sym, ◌∙◌}
use Rattle.refusal.proofs.Passing.{passed_on}
use Rattle.layout.proofs.Answers.{demanded}
use Rattle.scan.specs.Scans.{fit, finish_refusal}
use Rattle.scan.proofs.Fitness.{fit-state}
use Rattle.scan.proofs.Refusals.{passed, failed}
use Rattle.scan.proofs.Scan.check_finish.Goals as goal

pub returns-in_err-demand : goal.returns-in_err-demand
unfolding finish_refusal fit
returns-in_err-demand c =
    let told : c.fit-fits.result ≡ fit c.args.self = c.fit-fits.ensures in
    passed_on _ _ c.from_residual.ensures.1
    ∙ rw (← told) (failed _ _ 3 _ c.in_err-demand.ensures)

pub returns-in_err-demand-2 : goal.returns-in_err-demand-2
unfolding finish_refusal fit
returns-in_err-demand-2 c =
    let told : c.fit-fits.result ≡ fit c.args.self = c.fit-fits.ensures in
    let f = sym told ∙ passed _ 3 c.in_ok-demand.ensures in
    passed_on _ _ c.from_residual-in_err-demand-2.ensures.1
    ∙ rw (f, ← c.data_length.ensures) (failed _ _ 5 _ c.in_err-demand-2.ensures)

pub all_whole-requires : goal.all_whole-requires
unfolding fit
all_whole-requires c =
    let told : c.fit-fits.result ≡ fit c.args.self = c.fit-fits.ensures in
    (fit-state c.args.self (sym told ∙ passed _ 3 c.in_ok-demand.ensures)).few

pub returns : goal.returns
unfolding finish_refusal fit
returns c =
    let told : c.fit-fits.result ≡ fit c.args.self = c.fit-fits.ensures in
    let f = sym told ∙ passed _ 3 c.in_ok-demand.ensures in
    let l = passed _ 5 c.in_ok-demand-2.ensures in
    c.demand-3.ensures ∙ rw (f, ← c.data_length.ensures, l, ← c.all_whole.ensures) (demanded _ 8)
