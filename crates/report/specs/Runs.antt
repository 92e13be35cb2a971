-- A run of calls of feed, and then one of close: each gets the state and the work buffer that the one before it left, and its answer,
-- state and buffers are what its promise says. And which states and work buffers the calls lead to. Assumes nothing.
use Rattle.std.specs.Prelude.{◌≡◌, List, [], ◌++◌, ℕ, ◌≤◌, length, take}
use Rattle.std.proofs.lemmas.List.Edits.{sets}
use Rattle.lines.specs.Lines.{line_room}
use Rattle.report.specs.declared.Report.{Report}
use Rattle.report.specs.declared.Fed.{Fed}
use Rattle.report.specs.Feeding.{Step, work_length, feed_used, feed_state, feed_work, feed_line, close_line, fresh_report}
use Rattle.report.specs.Fills.{fill_step}

-- from a state and a work buffer, over the bytes that the calls use, to the bytes that they write; each call has an input, and an
-- output buffer, of its own
pub data ReportRun : Report → List ℕ → List ℕ → List ℕ → Type 0 where
  closed : {s : Report} {w out' : List ℕ} (out : List ℕ) (written : ℕ)
      → line_room ≤ length out
      → written ≡ length (close_line s (length out))
      → out' ≡ sets out 0 (close_line s (length out))
      → ReportRun s w [] (take written out')
  fed : {s : Report} {w w' out' image text : List ℕ} (input out : List ℕ) (r : Fed)
      → r.used ≡ feed_used s input w (length out)
      → r.state ≡ feed_state s input w (length out)
      → r.written ≡ length (feed_line s input w (length out))
      → w' ≡ feed_work s input w (length out)
      → out' ≡ sets out 0 (feed_line s input w (length out))
      → ReportRun r.state w' image text
      → ReportRun s w (take r.used input ++ image) (take r.written out' ++ text)

-- a step is part of runs: every run from where it ends is one from where it began, over what it used of the input, and what it wrote
abbrev pub StepRuns : Report → List ℕ → List ℕ → Step → Type 0
StepRuns s w input step =
    (image text : List ℕ) → ReportRun step.state step.work image text → ReportRun s w (take step.used input ++ image) (step.line ++ text)

-- from a new report and any work buffer of a block's data, by calls of feed and of fill
pub data Reached : Report → List ℕ → Type 0 where
  begun : {w : List ℕ} → length w ≡ work_length → Reached fresh_report w
  by_feed : {s : Report} {w : List ℕ} (input : List ℕ) (room : ℕ) → Reached s w → Reached (feed_state s input w room) (feed_work s input w room)
  by_fill : {s : Report} {w : List ℕ} (input : List ℕ) (room : ℕ) → Reached s w
      → Reached (fill_step s input w room).state (fill_step s input w room).work
