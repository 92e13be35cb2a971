-- `report::lending::take_in` meets its contract. Assumes nothing.
use mathlib.Core.Path.{ap, ◌∙◌}
use mathlib.Core.List.{List}
use Prim.Native.Nat.{ℕ}
use borrow.Author.Rules.{rules}
use lib.ListN.{length}
use lib.Seq.{sets}
use Rattle.tag.specs.Blocks.{format_at}
use Rattle.scan.specs.Scans.{piece_state, piece_work}
use Rattle.report.proofs.Fronts.{front-lent, front-back}
use Rattle.report.proofs.lending.take_in.Goals as goal

pub returns : goal.returns
returns c =
    let a = c.args in
    let d = (format_at a.scan.array).data_length in
    let w = a.work.now in
    let end = c.front_end-end.result in
    let lent = front-lent d end w c.front_end-end.ensures in record {
      value = c.piece.ensures.state_value ∙ ap (λ (front : List ℕ). piece_state a.scan a.member a.bytes.now (length front)) lent;
      work_after = front-back d end w c.front_end-end.ensures c.piece.new.work (search rules)
          ∙ ap (sets w 0) (c.piece.ensures.work_after ∙ ap (piece_work a.scan a.member a.bytes.now) lent);
    }
