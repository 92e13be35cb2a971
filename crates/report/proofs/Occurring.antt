-- Every list of pieces has a run, from wherever a report stands: the fills that use up each piece in turn, and a close, write `fed_text`.
-- So what is said of runs is said of every cut of an image.
-- Assumes nothing.
use mathlib.Core.Path.{refl, subst}
use mathlib.Core.List.{List, [], ◌∷◌, ◌++◌}
use Prim.Native.Nat.{ℕ, zero, suc, ◌-◌, ◌≤◌, ◌<◌}
use native.Mathlib.Nat.{zero-lt-suc}
use native.Mathlib.Omega.{arith}
use lib.ListN.{length, drop, length-drop}
use lib.Seq.{take_all}
use Rattle.stripe.specs.Tables.{joined}
use Rattle.lines.specs.Lines.{line_room}
use Rattle.report.specs.declared.Report.{Report}
use Rattle.report.specs.Feeding.{close_line}
use Rattle.report.specs.Fills.{fill_step, fill_all, fed_text}
use Rattle.report.specs.Runs.{ReportRun, closed, StepRuns}
use Rattle.report.proofs.Storing.{written-there}
use Rattle.report.proofs.Within.{close_fits}
use Rattle.report.proofs.FillRuns.{both_run, fill_runs, Standing, fill_stands, standing_goes_on}

fewer : (n used calls : ℕ) → n ≤ suc calls → (0 < n → 0 < used) → n - used ≤ calls
fewer zero used calls h goes = omega arith
fewer (suc n) used calls h goes = omega (arith, goes (zero-lt-suc n))

-- the fills may all have the same output buffer
module _ (out : List ℕ) (wide : line_room ≤ length out) where
  fills_run : (fills : ℕ) (r : Report) (input w : List ℕ) → StepRuns r w input (fill_all (length out) fills r input w)
  fills_run zero r input w = λ image text run. run
  fills_run (suc fills) r input w =
      let first = fill_step r input w (length out) in
      both_run r input w first (fill_all (length out) fills first.state (drop first.used input) first.work) (fill_runs r input w (length out))
      (fills_run fills first.state (drop first.used input) first.work)

  fills_stand : (fills : ℕ) (r : Report) (input w : List ℕ) → Standing r w
      → Standing (fill_all (length out) fills r input w).state (fill_all (length out) fills r input w).work
  fills_stand zero r input w here = here
  fills_stand (suc fills) r input w here =
      let first = fill_step r input w (length out) in
      fills_stand fills first.state (drop first.used input) first.work (fill_stands r input w (length out) here)

  -- a piece whose bytes are no more than the fills is used up
  fills_use_all : (fills : ℕ) (r : Report) (input w : List ℕ) → Standing r w → length input ≤ fills
      → length input ≤ (fill_all (length out) fills r input w).used
  fills_use_all zero r input w here l = omega arith
  fills_use_all (suc fills) r input w here l =
      let first = fill_step r input w (length out) in
      let goes = standing_goes_on r input w (length out) here wide in
      let left : length (drop first.used input) ≤ fills = rw length-drop (fewer (length input) first.used fills l goes) in
      let rest = rw length-drop at (fills_use_all fills first.state (drop first.used input) first.work (fill_stands r input w (length out) here) left) in
      omega arith

  pub pieces-run : (pieces : List (List ℕ)) (r : Report) (w : List ℕ) → Standing r w → ReportRun r w (joined pieces) (fed_text (length out) r pieces w)
  pieces-run [] r w here =
      subst (λ (y : List ℕ). ReportRun r w [] y)
      (written-there out (close_line r (length out)) (close_fits r (length out)))
      (closed out (length (close_line r (length out))) wide refl refl)
  pieces-run (piece ∷ pieces) r w here =
      let all = fill_all (length out) (length piece) r piece w in
      let text = fed_text (length out) all.state pieces all.work in
      subst (λ (x : List ℕ). ReportRun r w (x ++ joined pieces) (all.line ++ text))
      (take_all all.used piece (fills_use_all (length piece) r piece w here (omega arith)))
      (fills_run (length piece) r piece w (joined pieces) text
      (pieces-run pieces all.state all.work (fills_stand (length piece) r piece w here)))
