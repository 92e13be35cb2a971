use Rattle.std.proofs.Common.{arith, take_all}
use Rattle.lines.proofs.Lines.{none_written, fits-there}
use Rattle.lines.proofs.Parts.{text_more, text_within}
use Rattle.lines.proofs.Texts.{text_behind}
use Rattle.lines.proofs.write.Goals as goal
use Rattle.lines.proofs.write.Goals.{in-Bytes, in-Decimal}

pub returns-then-out-lt-ROOM : goal.returns-then-out-lt-ROOM
returns-then-out-lt-ROOM c = none_written _ _ (omega arith)

pub put-at-requires : goal.put-at-requires
put-at-requires c = let within = text_within c.args.parts.now c.loop-part.part-index _ c.in-Bytes.is (omega arith) in omega arith

pub number-at-requires : goal.number-at-requires
number-at-requires c = let within = text_within c.args.parts.now c.loop-part.part-index _ c.in-Decimal.is (omega arith) in omega arith

pub loop-part-preserved : goal.loop-part-preserved
loop-part-preserved c =
    elim c.match-part.branch [
      | in-Bytes w ↦
          rw (text_more c.args.parts.now c.loop-part.part-index _ w.in-Bytes.is (omega arith), w.out-is, w.at-is) (text_behind c.loop-part.invariant w.put-at.ensures)
      | in-Decimal w ↦
          rw (text_more c.args.parts.now c.loop-part.part-index _ w.in-Decimal.is (omega arith), w.out-is, w.at-is) (text_behind c.loop-part.invariant w.number-at.ensures)
    ]

pub returns : goal.returns
returns c = fits-there c.if-out-lt-ROOM.false (rw (take_all c.loop-part.part-index c.args.parts.now (omega arith)) at c.loop-part.invariant)
