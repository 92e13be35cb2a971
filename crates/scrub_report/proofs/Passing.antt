-- Pieces that are passed: none yet, and what a fill uses of a piece behind what was passed of it. When all are passed the close ends the report
-- of them. Assumes nothing.
use Rattle.std.proofs.Common.{◌≡◌, ℕ, ◌-◌, ◌≤◌, ◌<◌, List, [], ◌++◌, length, take, drop, refl, sym, ap, ◌∙◌, append_assoc, append-nil}
use Rattle.std.proofs.lemmas.List.{take-append-drop}
use Rattle.lines.proofs.Reading.{rest-is}
use Rattle.std.proofs.lemmas.List.Edits.{sets}
use Rattle.lines.specs.Lines.{line_room}
use Rattle.report.specs.declared.Report.{Report}
use Rattle.report.specs.declared.Fed.{Fed}
use Rattle.report.specs.Reports.{report_of}
use Rattle.report.specs.Feeding.{Does, work_length, fresh_report, close_line}
use Rattle.report.specs.Fills.{fill_step}
use Rattle.report.specs.Runs.{Reached, by_fill, closed}
use Rattle.report.proofs.Storing.{written-there}
use Rattle.report.proofs.Within.{close_fits}
use Rattle.report.proofs.FillRuns.{filled_runs}
use Rattle.report.proofs.Theorem.{fill_goes_on, run-writes_the_report}
use Rattle.scrub_report.specs.Passes.{Passes}

pub nothing_passes : {r : Report} {w : List ℕ} → Reached r w → Passes r w [] r w []
nothing_passes here = record { reached = here; runs = λ image text run. run }

-- two pieces, one behind the other
pub both_pass : {r s t : Report} {w v u first second said told : List ℕ} → Passes r w first s v said → Passes s v second t u told
    → Passes r w (first ++ second) t u (said ++ told)
both_pass {first = first} {second = second} {said = said} {told = told} p q = record {
  reached = q.reached;
  runs = λ image text run. rw (append_assoc first second image, append_assoc said told text) (p.runs _ _ (q.runs image text run));
}

-- a fill of what is left of a piece
module _ (s : Report) (rest v : List ℕ) {out v' after : List ℕ} {a : Fed} (d : Does (fill_step s rest v (length out)) a v' out after) where
  -- it uses something, where there is room for a line
  pub fill_goes : Reached s v → line_room ≤ length out → 0 < length rest → 0 < a.used
  fill_goes here room some = rw d.uses (fill_goes_on here rest (length out) room some)

  pub fill_passes : {r : Report} {w done said : List ℕ} → Passes r w done s v said
      → Passes r w (done ++ take a.used rest) a.state v' (said ++ take a.written after)
  fill_passes {r} {w} {done} {said} p =
      both_pass p record {
        reached = rw (d.leaves, d.combines) (by_fill rest (length out) p.reached);
        runs = λ image text run. filled_runs s rest v d run;
      }

-- what is left of it then, as the code cuts it
pub rest_of_rest : (input done rest : List ℕ) (used : ℕ) → done ++ rest ≡ input → (done ++ take used rest) ++ take (length rest - used) (drop used rest) ≡ input
rest_of_rest input done rest used e = rw (rest-is rest used, append_assoc, take-append-drop used rest) e

-- a close shows its line at the start of the buffer
pub close_shows : (s : Report) (lines : List ℕ) {last : ℕ} {after : List ℕ} → last ≡ length (close_line s (length lines)) → after ≡ sets lines 0 (close_line s (length lines))
    → take last after ≡ close_line s (length lines)
close_shows s lines e f = rw (e, f) (written-there lines (close_line s (length lines)) (close_fits s (length lines)))

-- the whole input of a new report
pub all_passed : {w v input said : List ℕ} {s : Report} (lines : List ℕ) → length w ≡ work_length → Passes fresh_report w input s v said → line_room ≤ length lines
    → said ++ close_line s (length lines) ≡ report_of input
all_passed {w} {v} {input} {said} {s} lines long p room =
    let last = close_line s (length lines) in
    let whole = p.runs [] _ (closed lines (length last) room refl refl) in
    ap (λ (l : List ℕ). said ++ l) (sym (close_shows s lines refl refl)) ∙ run-writes_the_report refl long whole ∙ ap report_of (append-nil input)
