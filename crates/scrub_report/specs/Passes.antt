-- What the program does with a piece of its input. Assumes nothing.
use Rattle.std.specs.Prelude.{List, ℕ, ◌++◌}
use Rattle.report.specs.declared.Report.{Report}
use Rattle.report.specs.Runs.{ReportRun, Reached}

-- from one state and work buffer to another: the piece is used up, and so much is said of it
pub record Passes (r : Report) (w piece : List ℕ) (s : Report) (v said : List ℕ) : Type 0 where
  pub reached : Reached s v
  pub runs : (image text : List ℕ) → ReportRun s v image text → ReportRun r w (piece ++ image) (said ++ text)
