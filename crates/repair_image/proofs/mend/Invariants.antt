-- The invariant: what was read is passed, and what was put out for it is written; each turn read a byte at least.
use Rattle.std.proofs.Common.{◌≤◌, List, ℕ, length}
use Rattle.std.specs.Io.KnownBytes.{Appends, Consumes}
use Rattle.repair.specs.Repairs.{Output}
use Rattle.repair.specs.Feeding.{fresh_repair}
use Rattle.repair_image.specs.Passes.{Passes}
use Rattle.repair_image.proofs.mend.Given as goal

abbrev pub invariant-loop : goal.invariant-loop
invariant-loop g l = (given : List ℕ) × (put : Output) × (l.counter ≤ length given)
    × Passes fresh_repair l.initial.buffers.held given l.state l.buffers.held put
    × Consumes (g.R.Read.remaining l.initial.image) (g.R.Read.remaining l.image) given
    × Appends (g.I.Write.contents l.initial.mended) (g.I.Write.contents l.mended) put.image
    × Appends (g.L.Write.contents l.initial.list) (g.L.Write.contents l.list) put.list
