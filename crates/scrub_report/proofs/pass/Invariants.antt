-- The invariant: what was used of the input is passed, and what was said of it is written. The measure is what is left of the input.
use Rattle.std.proofs.Common.{◌≡◌, length, ◌++◌, ℕ, List, ◌≤◌}
use Rattle.std.specs.Io.KnownBytes.{Appends}
use Rattle.lines.specs.Lines.{line_room}
use Rattle.report.specs.Runs.{Reached}
use Rattle.scrub_report.specs.Passes.{Passes}
use Rattle.scrub_report.proofs.pass.Given as goal

abbrev pub invariant-loop-rest : goal.invariant-loop-rest
invariant-loop-rest g l =
    Reached l.fn.report l.fn.work → line_room ≤ length l.fn.lines
    → (done said : List ℕ) × (done ++ l.rest ≡ l.fn.input) × Passes l.fn.report l.fn.work done l.state l.work said
    × Appends (g.W.Write.contents l.fn.out) (g.W.Write.contents l.out) said

abbrev pub decreases-loop-rest : goal.decreases-loop-rest
decreases-loop-rest g l = length l.rest
