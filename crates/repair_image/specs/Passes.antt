-- What the program does with a piece of its input. Assumes nothing.
use Rattle.std.specs.Prelude.{List, ℕ, ◌++◌}
use Rattle.repair.specs.declared.Repair.{Repair}
use Rattle.repair.specs.Repairs.{Output, and_then}
use Rattle.repair.specs.Runs.{RepairRun, Reached}

-- from one state and buffer that holds to another: the piece is used up, and so much is written for it
pub record Passes (r : Repair) (h piece : List ℕ) (s : Repair) (k : List ℕ) (put : Output) : Type 0 where
  pub reached : Reached s k
  pub runs : (rest : List ℕ) (out : Output) → RepairRun s k rest out → RepairRun r h (piece ++ rest) (and_then put out)
