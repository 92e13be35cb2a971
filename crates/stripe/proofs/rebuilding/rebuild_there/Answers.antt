-- `stripe::rebuilding::rebuild_there` meets its contract.
-- Assumes nothing.
use mathlib.Core.Path.{refl, sym, ◌∙◌}
use mathlib.Core.Bool.{true}
use mathlib.Core.Logic.{◌≢◌}
use Rattle.refusal.proofs.Passing.{passed_on, number-some}
use Rattle.stripe.specs.Steps.{sources_refusal, fitting}
use Rattle.stripe.proofs.Carried.{fit_plain}
use Rattle.stripe.proofs.Rebuilds.{sources_serving, rebuild_sources_refused, rebuild-fits, rebuild-kept, rebuild-left, rebuild-done}
use Rattle.stripe.proofs.rebuilding.rebuild_there.Goals as goal

pub returns-in_err-check_sources : goal.returns-in_err-check_sources
returns-in_err-check_sources c =
    let a = c.args in
    let s = a.stripe in
    let e = c.in_err-check_sources.ensures in
    let refused : sources_refusal s.array s.number a.member a.bytes.now ≢ 0 = λ z. number-some _ (e ∙ z) in
    let same = rebuild_sources_refused s.array s.number a.member a.bytes.now refused in record {
      value = passed_on _ _ c.from_residual.ensures.1 ∙ e ∙ sym same;
      bytes_after = rebuild-kept s.array s.number a.member a.bytes.now (λ e. refused (sym same ∙ e));
    }

pub rebuild_carried-requires-clause-bytes_len : goal.rebuild_carried-requires-clause-bytes_len
rebuild_carried-requires-clause-bytes_len c =
    let a = c.args in
    (sources_serving a.stripe.array a.stripe.number a.member a.bytes.now (sym c.in_ok-check_sources.ensures)).long

pub returns-then-carries : goal.returns-then-carries
returns-then-carries c =
    let a = c.args in
    let s = a.stripe in
    let serving = sources_serving s.array s.number a.member a.bytes.now (sym c.in_ok-check_sources.ensures) in record {
      value = c.rebuild_carried.ensures.value ∙ sym (rebuild-fits s.array s.number a.member a.bytes.now serving (fitting s.array s.number a.member a.bytes.now) refl);
      bytes_after = c.rebuild_carried.ensures.bytes_after ∙ rebuild-left s.array s.number a.member a.bytes.now serving;
    }

pub rebuild_plain-requires-clause-bytes_len : goal.rebuild_plain-requires-clause-bytes_len
rebuild_plain-requires-clause-bytes_len c =
    let a = c.args in
    (sources_serving a.stripe.array a.stripe.number a.member a.bytes.now (sym c.in_ok-check_sources.ensures)).long

pub returns : goal.returns
returns c =
    let a = c.args in
    let s = a.stripe in
    let serving = sources_serving s.array s.number a.member a.bytes.now (sym c.in_ok-check_sources.ensures) in
    let plain = sym c.carries.ensures ∙ c.if-carries.false in
    let none = rebuild-fits s.array s.number a.member a.bytes.now serving true (fit_plain s.array s.number a.member a.bytes.now _ plain) in record {
      value = sym none;
      bytes_after = c.rebuild_plain.ensures ∙ rebuild-done s.array s.number a.member a.bytes.now none;
    }
