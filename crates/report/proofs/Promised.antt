-- The theorem on the code's own promises. What a caller learns from the `ensures` of `new`, `feed`, `fill` and `close`, which the check
-- writes into each function's `Reads`, is a step of a `ReportRun`, or begins one. So what is said of every run is said of the calls: with an
-- `ensures` weakened, these laws are refused. `a` are the arguments, `r` the result, `e` the lent buffers at the end. Assumes nothing.
use mathlib.Core.Path.{◌≡◌}
use mathlib.Core.List.{List, [], ◌++◌}
use Prim.Native.Nat.{ℕ, ◌≤◌}
use lib.ListN.{length, take}
use contract.Lifetimes.{Lfts}
use borrow.Fn.Kinds.{Dens, ended_of}
use denote.Triple.Clauses.{AtExit}
use Rattle.lines.specs.Lines.{line_room}
use Rattle.report.specs.declared.Report.{Report}
use Rattle.report.specs.declared.Fed.{Fed}
use Rattle.report.specs.Reports.{report_of}
use Rattle.report.specs.Feeding.{work_length}
use Rattle.report.specs.Runs.{ReportRun, closed, fed}
use Rattle.report.proofs.FillRuns.{filled_runs}
use Rattle.report.proofs.Theorem.{run-writes_the_report}
use Rattle.report.proofs.feeding.new.Kinds as new-kinds
use Rattle.report.proofs.feeding.new.Reads as new-reads
use Rattle.report.proofs.feeding.feed.Kinds as feed-kinds
use Rattle.report.proofs.feeding.feed.Reads as feed-reads
use Rattle.report.proofs.fills.fill.Kinds as fill-kinds
use Rattle.report.proofs.fills.fill.Reads as fill-reads
use Rattle.report.proofs.feeding.close.Kinds as close-kinds
use Rattle.report.proofs.feeding.close.Reads as close-reads

-- a call of feed, and then a run from where it ended
module _ (κs : Lfts 3) (a : Dens κs feed-kinds.ps) (r : Fed) (e : AtExit (ended_of 3 feed-kinds.ps feed-kinds.r) κs) where
  pub feed_call_runs : feed-reads.Learnt κs a r e → {image text : List ℕ} → ReportRun r.state e.1.1.0.now image text
      → ReportRun a.0 a.1.1.0.now (take r.used a.1.0.now ++ image) (take r.written e.1.1.1.0.now ++ text)
  feed_call_runs p run = fed a.1.0.now a.1.1.1.0.now r p.uses p.leaves p.writes p.combines p.shows run

-- a call of fill, likewise
module _ (κs : Lfts 3) (a : Dens κs fill-kinds.ps) (r : Fed) (e : AtExit (ended_of 3 fill-kinds.ps fill-kinds.r) κs) where
  pub fill_call_runs : fill-reads.Learnt κs a r e → {image text : List ℕ} → ReportRun r.state e.1.1.0.now image text
      → ReportRun a.0 a.1.1.0.now (take r.used a.1.0.now ++ image) (take r.written e.1.1.1.0.now ++ text)
  fill_call_runs p run = filled_runs a.0 a.1.0.now a.1.1.0.now p run

-- a call of close, with room for a line
module _ (κs : Lfts 1) (a : Dens κs close-kinds.ps) (written : ℕ) (e : AtExit (ended_of 1 close-kinds.ps close-kinds.r) κs) where
  pub close_call_runs : close-reads.Learnt κs a written e → line_room ≤ length a.1.0.now → {w : List ℕ}
      → ReportRun a.0 w [] (take written e.1.0.now)
  close_call_runs p wide = closed a.1.0.now written wide p.0 p.1

-- from what new gives: the text of every run is the report of all that it used
module _ (κs : Lfts 0) (a : Dens κs new-kinds.ps) (r : Report) (e : AtExit (ended_of 0 new-kinds.ps new-kinds.r) κs) where
  pub calls_write_the_report : new-reads.Learnt κs a r e → {w image text : List ℕ} → length w ≡ work_length → ReportRun r w image text
      → text ≡ report_of image
  calls_write_the_report p long run = run-writes_the_report p long run
