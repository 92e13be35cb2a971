-- The invariant: what is not in the rest of the input is passed, and what was put out for it is written. The measure is the rest.
use Rattle.std.proofs.Common.{◌≡◌, List, ℕ, ◌++◌, length}
use Rattle.std.specs.Io.KnownBytes.{Appends}
use Rattle.repair.specs.Repairs.{Output}
use Rattle.repair.specs.Runs.{Reached}
use Rattle.repair_image.specs.Passes.{Passes}
use Rattle.repair_image.proofs.pass.Given as goal

abbrev pub invariant-loop-rest : goal.invariant-loop-rest
invariant-loop-rest g l = (length l.buffers.image ≡ 65792) × (length l.buffers.list ≡ 4096) × ((done : List ℕ) × (l.input ≡ done ++ l.rest)
    × (Reached l.fn.repair l.fn.buffers.held → (put : Output) × Passes l.fn.repair l.fn.buffers.held done l.state l.buffers.held put
    × Appends (g.I.Write.contents l.fn.mended) (g.I.Write.contents l.mended) put.image
    × Appends (g.L.Write.contents l.fn.list) (g.L.Write.contents l.list) put.list))

abbrev pub decreases-loop-rest : goal.decreases-loop-rest
decreases-loop-rest g l = length l.rest
