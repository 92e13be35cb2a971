-- `intent::updating::update` meets its contract. Assumes nothing.
use mathlib.Core.Path.{◌∙◌}
use native.Mathlib.Omega.{arith}
use Rattle.refusal.proofs.Passing.{passed_on}
use Rattle.stripe.proofs.Served.{placed_at}
use Rattle.intent.proofs.Calling.{update_nowhere, update-closed, open_other_log}
use Rattle.intent.proofs.updating.update.Goals as goal

pub returns-in_err-place : goal.returns-in_err-place
returns-in_err-place c =
    let a = c.args in
    let both = update_nowhere a.array a.block a.content.now a.bytes.now a.log.now a.stores _ c.in_err-place.ensures in record {
      value = passed_on _ _ c.from_residual.ensures.1 ∙ both.0;
      bytes_after = both.1.0;
      log_after = both.1.1;
    }

pub update_in-requires : goal.update_in-requires
update_in-requires c =
    let a = c.args in
    let p = c.in_ok-place.place in
    let at = placed_at a.array a.block p.stripe p.member c.in_ok-place.ensures in record {
      block_value = at.taken;
      stripe_value = at.in_stripe_lem;
    }

pub returns-in-None : goal.returns-in-None
returns-in-None c =
    let a = c.args in
    let p = c.in_ok-place.place in
    let at = placed_at a.array a.block p.stripe p.member c.in_ok-place.ensures in
    let both = update-closed a.array a.block a.content.now a.bytes.now a.log.now a.stores p.stripe at.taken at.in_stripe_lem 6 (open_other_log a.array p.stripe _ _ a.log.now c.in-None.ensures.cases) (λ z. omega arith) in record {
      value = both.0;
      bytes_after = both.1.0;
      log_after = both.1.1;
    }
