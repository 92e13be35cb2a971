-- A step whose line was written into the first bytes of a buffer, as many as a line has room in. Assumes nothing.
use Rattle.std.proofs.Common.{◌≡◌, ℕ, ◌+◌, ◌≤◌, ◌<◌, List, ◌++◌, length, take, drop, sym, ap, ◌∙◌, append_assoc, arith, length-take}
use Rattle.std.proofs.Math.Seq.{sets-eq, drop-append-le}
use Rattle.std.proofs.lemmas.List.Edits.{sets}
use Rattle.std.proofs.lemmas.List.{take-append-drop}
use Rattle.lines.specs.Lines.{line_room}
use Rattle.report.specs.declared.Report.{Report}
use Rattle.report.specs.declared.Fed.{Fed}
use Rattle.report.specs.Feeding.{Does, stage_step, feed_step}
use Rattle.report.proofs.Choosing.{with_both}
use Rattle.report.proofs.Within.{feed-within}

-- what is set in the first bytes is set in all
set_in_front : (n : ℕ) (out line : List ℕ) → n ≤ length out → length line ≤ n → sets (take n out) 0 line ++ drop n out ≡ sets out 0 line
set_in_front n out line there fits =
    let front : 0 + length line ≤ length (take n out) = rw length-take (omega arith) in
    let whole : 0 + length line ≤ length out = omega arith in
    let rest : drop (0 + length line) (take n out) ++ drop n out ≡ drop (0 + length line) out =
    sym (drop-append-le (0 + length line) (take n out) (drop n out) front) ∙ ap (drop (0 + length line)) (take-append-drop n out) in
    rw (sets-eq line (take n out) 0 front, sets-eq line out 0 whole, append_assoc, ← rest)

module _ (r : Report) (input w out : List ℕ) (room : line_room ≤ length out) (some : 0 < length input) where
  pub fed_in_front : {a : Fed} {v front : List ℕ} → Does (stage_step r input w) a v (take line_room out) front
      → Does (feed_step r input w (length out)) a v out (front ++ drop line_room out)
  fed_in_front d =
      let step = with_both r input w (length out) room some in
      let small = feed-within r input w line_room in
      rw step record {
        uses = d.uses;
        leaves = d.leaves;
        writes = d.writes;
        combines = d.combines;
        shows = rw d.shows (set_in_front line_room out (stage_step r input w).line room (rw (with_both r input w line_room (omega arith) some) at small.fits));
      }
