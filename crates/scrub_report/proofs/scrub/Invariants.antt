-- The invariant: what was read is passed, and what was said of it is written; each turn read a byte at least.
use Rattle.std.proofs.Common.{◌≡◌, ◌≤◌, List, ℕ, length}
use Rattle.std.specs.Io.KnownBytes.{Appends, Consumes}
use Rattle.report.specs.Feeding.{work_length, fresh_report}
use Rattle.scrub_report.specs.Passes.{Passes}
use Rattle.scrub_report.proofs.scrub.Given as goal

abbrev pub invariant-loop : goal.invariant-loop
invariant-loop g l = (given said : List ℕ) × (length l.initial.work ≡ work_length) × (length l.lines ≡ 512) × (l.counter ≤ length given)
    × Passes fresh_report l.initial.work given l.state l.work said
    × Consumes (g.R.Read.remaining l.initial.image) (g.R.Read.remaining l.image) given
    × Appends (g.W.Write.contents l.initial.out) (g.W.Write.contents l.out) said
