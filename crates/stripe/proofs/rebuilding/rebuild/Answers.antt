-- `stripe::rebuilding::rebuild` meets its contract.
-- Assumes nothing.
use mathlib.Core.Path.{sym, ◌∙◌}
use Rattle.refusal.proofs.Passing.{passed_on, number-some}
use Rattle.layout.proofs.Ranges.{place_sound, sound_stripe}
use Rattle.stripe.proofs.Rebuilds.{sources_nowhere, rebuild_sources_refused, rebuild-kept}
use Rattle.stripe.proofs.rebuilding.rebuild.Goals as goal

pub returns-in_err-check_place : goal.returns-in_err-check_place
returns-in_err-check_place c =
    let a = c.args in
    let e = c.in_err-check_place.ensures in
    let nowhere = sources_nowhere a.array a.stripe a.member a.bytes.now (λ z. number-some _ (e ∙ z)) in
    let same = rebuild_sources_refused a.array a.stripe a.member a.bytes.now (λ z. number-some _ (e ∙ sym nowhere ∙ z)) ∙ nowhere in record {
      value = passed_on _ _ c.from_residual.ensures.1 ∙ e ∙ sym same;
      bytes_after = rebuild-kept a.array a.stripe a.member a.bytes.now (λ z. number-some _ (e ∙ sym same ∙ z));
    }

pub at-requires : goal.at-requires
at-requires c = let a = c.args in sound_stripe a.array a.stripe (place_sound a.array a.stripe a.member (sym c.in_ok-check_place.ensures)).stripe

pub rebuild_there-requires : goal.rebuild_there-requires
rebuild_there-requires c = let a = c.args in rw c.at.ensures.array_kept (place_sound a.array a.stripe a.member (sym c.in_ok-check_place.ensures)).here
