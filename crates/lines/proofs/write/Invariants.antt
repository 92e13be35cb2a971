-- The invariant: the parts so far are written, one behind the other.
use Rattle.std.proofs.Common.{take}
use Rattle.lines.specs.Text.{Written}
use Rattle.lines.specs.Parts.{text}
use Rattle.lines.proofs.write.Given as goal

abbrev pub invariant-loop-part : goal.invariant-loop-part
invariant-loop-part l = Written l.initial.out 0 (text (take l.part-index l.parts)) l.out l.at
