-- `intent::updating::check_entry` tells the first reason that holds. Assumes nothing.
use mathlib.Core.Path.{refl, ap, ◌∙◌}
use Prim.Native.Nat.{◌+◌}
use Rattle.refusal.proofs.Passing.{passed_on}
use Rattle.layout.proofs.Answers.{after_reason}
use Rattle.intent.specs.Records.{entries, many, entries_fit}
use Rattle.intent.proofs.Calling.{passed, entry_steps}
use Rattle.intent.proofs.updating.check_entry.Goals as goal

pub returns-in_err-demand : goal.returns-in_err-demand
returns-in_err-demand c =
    let a = c.args in
    passed_on _ _ c.from_residual.ensures.1 ∙ after_reason _ _ _ c.in_err-demand.ensures
    ∙ entry_steps a.array a.stripe a.log.now c.entries_fit.result (many 0 (entries a.log.now)) (many (a.stripe + 1) (entries a.log.now))
    (c.entries_fit.ensures ∙ ap (entries_fit a.array.stripes) c.entries_of-entries.ensures) refl refl

pub returns-in_err-demand-2 : goal.returns-in_err-demand-2
returns-in_err-demand-2 c =
    let a = c.args in
    passed_on _ _ c.from_residual-in_err-demand-2.ensures.1 ∙ passed _ _ _ c.in_ok-demand.ensures (after_reason _ _ _ c.in_err-demand-2.ensures)
    ∙ entry_steps a.array a.stripe a.log.now c.entries_fit.result c.many.result (many (a.stripe + 1) (entries a.log.now))
    (c.entries_fit.ensures ∙ ap (entries_fit a.array.stripes) c.entries_of-entries.ensures) (c.many.ensures ∙ ap (many 0) c.entries_of-entries.ensures) refl

pub returns : goal.returns
returns c =
    let a = c.args in
    passed _ _ _ c.in_ok-demand.ensures (passed _ _ _ c.in_ok-demand-2.ensures c.demand-3.ensures)
    ∙ entry_steps a.array a.stripe a.log.now c.entries_fit.result c.many.result c.many-2.result
    (c.entries_fit.ensures ∙ ap (entries_fit a.array.stripes) c.entries_of-entries.ensures) (c.many.ensures ∙ ap (many 0) c.entries_of-entries.ensures)
    (c.many-2.ensures ∙ ap (many (a.stripe + 1)) c.entries_of-entries.ensures)
