-- `scan::starting::start` meets its contract. Assumes nothing.
use mathlib.Core.Path.{sym, ap, ◌∙◌}
use Rattle.layout.specs.declared.Array.{Array}
use Rattle.std.proofs.Common.{rules}
use Rattle.scan.specs.Scans.{empty_scan}
use Rattle.scan.proofs.Fitness.{started, start_refused}
use Rattle.scan.proofs.Refusals.{is-refused, not-refused}
use Rattle.scan.proofs.starting.start.Goals as goal

pub returns-then-is_err : goal.returns-then-is_err
returns-then-is_err c =
    let a = c.args in
    let some = is-refused _ (sym c.is_err.ensures.value ∙ c.if-is_err.true) in
    let state = c.empty-state.ensures ∙ ap (λ (x : Array). empty_scan x 0) c.no_array.ensures in
    let more = start_refused a.array a.stripe a.work.now (λ e. some (c.check_start-answer.ensures ∙ e)) c.empty-state.result state in
    record {
      refusal_value = c.check_start-answer.ensures;
      state_value = more.0;
      work_after = more.1;
    }

pub returns : goal.returns
returns c =
    let a = c.args in
    let none = sym c.check_start-answer.ensures ∙ not-refused _ (sym c.is_err.ensures.value ∙ c.if-is_err.false) in
    let more = started a.array a.stripe a.work.now none c.empty-state-2.result _ c.empty-state-2.ensures (c.fill.ensures.after (λ y k. search rules)) in
    record {
      refusal_value = c.check_start-answer.ensures;
      state_value = more.0;
      work_after = more.1;
    }
