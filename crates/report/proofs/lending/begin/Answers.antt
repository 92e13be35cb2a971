-- `report::lending::begin` meets its contract. Assumes nothing.
use mathlib.Core.Path.{ap, ◌∙◌}
use mathlib.Core.List.{List}
use Prim.Native.Nat.{ℕ}
use borrow.Author.Rules.{rules}
use lib.ListN.{length}
use lib.Seq.{sets}
use Rattle.tag.specs.Blocks.{format_at}
use Rattle.scan.specs.Scans.{start_state, start_work}
use Rattle.report.proofs.Fronts.{front-lent, front-back}
use Rattle.report.proofs.lending.begin.Goals as goal

pub returns : goal.returns
returns c =
    let a = c.args in
    let d = (format_at a.array).data_length in
    let w = a.work.now in
    let end = c.front_end-end.result in
    let lent = front-lent d end w c.front_end-end.ensures in record {
      value = c.start.ensures.state_value ∙ ap (λ (front : List ℕ). start_state a.array a.stripe (length front)) lent;
      work_after = front-back d end w c.front_end-end.ensures c.start.new.work (search rules)
          ∙ ap (sets w 0) (c.start.ensures.work_after ∙ ap (start_work a.array a.stripe) lent);
    }
