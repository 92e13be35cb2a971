-- The theorem of the report: however the image is cut, all that is written, joined, is the report of all that was used, joined.
-- The invariant: what is yet to be said, by where the report stands, is what the calls to come write.
-- `ReportRun` is the relation of specs/Runs; `fed_text`, of specs/Fills, is what a list of pieces writes, each filled until it is used up.
-- That the calls promise the steps of a run is proved in Promised.antt, from their own `ensures`.
-- Assumes nothing.
use mathlib.Core.Path.{◌≡◌, sym, ap, ap₂, refl, ◌∙◌, subst}
use mathlib.Core.List.{List, [], ◌++◌}
use Prim.Native.Nat.{ℕ, ◌+◌, ◌≤◌, ◌<◌}
use lib.ListN.{length, take, replicate, length-replicate}
use Rattle.stripe.specs.Tables.{joined}
use Rattle.lines.specs.Lines.{line_room}
use Rattle.report.specs.declared.Report.{Report}
use Rattle.report.specs.Reports.{report_of}
use Rattle.report.specs.Feeding.{work_length, fresh_report, feed_line, close_line}
use Rattle.report.specs.Fills.{fill_step, fed_text}
use Rattle.report.specs.Runs.{ReportRun, closed, fed, Reached, begun, by_feed, by_fill}
use Rattle.report.proofs.Storing.{written-there}
use Rattle.report.proofs.Stages.{Stage, in_header, to_say, Stands}
use Rattle.report.proofs.Beginning.{fresh-stands}
use Rattle.report.proofs.Stepping.{feed_leads}
use Rattle.report.proofs.Closing.{close_says}
use Rattle.report.proofs.Within.{close_fits}
use Rattle.report.proofs.FillRuns.{Standing, fill_stands, standing_goes_on, standing-uses-all}
use Rattle.report.proofs.Occurring.{pieces-run}

run_says : {s : Report} {w image text : List ℕ} → ReportRun s w image text → (g : Stage) → Stands g s w → text ≡ to_say g image
run_says (closed {s = s} {w = w} {out' = out'} out written wide e f) g q =
    let line : take written out' ≡ close_line s (length out) =
    rw (e, f) (written-there out (close_line s (length out)) (close_fits s (length out))) in
    line ∙ close_says s w (length out) wide g q
run_says (fed {s = s} {w = w} {w' = w'} {out' = out'} {image = image} input out r e f k d o run) g q =
    let m = feed_leads s input w (length out) g q in
    let line : take r.written out' ≡ feed_line s input w (length out) =
    rw (k, o) (written-there out (feed_line s input w (length out)) m.fits) in
    let stands : Stands m.to r.state w' = rw (f, d) m.stands in
    ap₂ (λ (x y : List ℕ). x ++ y) line (run_says run m.to stands)
    ∙ sym (m.says image) ∙ ap (λ (n : ℕ). to_say g (take n input ++ image)) (sym e)

-- ---- from the new state, with any work buffer of as many bytes as a block has of data, whatever it holds

-- every run of the calls, as they promise: with any inputs, of which each call uses what it does, and any output buffers
pub run-writes_the_report : {s : Report} {w image text : List ℕ} → s ≡ fresh_report → length w ≡ work_length
    → ReportRun s w image text → text ≡ report_of image
run-writes_the_report {s} {w} new long run = run_says run (in_header []) (rw new (fresh-stands w long))

-- every list of pieces, empty ones too, where each call has room for a line
pub pieces_write_the_report : (room : ℕ) → line_room ≤ room → (w : List ℕ) → length w ≡ work_length
    → (pieces : List (List ℕ)) → fed_text room fresh_report pieces w ≡ report_of (joined pieces)
pieces_write_the_report room wide w long pieces =
    subst (λ (n : ℕ). fed_text n fresh_report pieces w ≡ report_of (joined pieces)) (length-replicate {A = ℕ} room 0)
    (run-writes_the_report refl long
    (pieces-run (replicate room 0) (rw (length-replicate {A = ℕ} room 0) wide) pieces fresh_report w
    (record { place = in_header []; stands = fresh-stands w long })))

-- ---- and a loop of fills ends: wherever the calls lead to

reached_stands : {s : Report} {w : List ℕ} → Reached s w → Standing s w
reached_stands (begun {w = w} long) = record { place = in_header []; stands = fresh-stands w long }
reached_stands (by_feed {s = s} {w = w} input room before) =
    let here = reached_stands before in
    let m = feed_leads s input w room here.place here.stands in
    record { place = m.to; stands = m.stands }
reached_stands (by_fill {s = s} {w = w} input room before) = fill_stands s input w room (reached_stands before)

module _ {s : Report} {w : List ℕ} (reached : Reached s w) (input : List ℕ) (room : ℕ) where
  -- a fill with an input and room for a line uses something
  pub fill_goes_on : line_room ≤ room → 0 < length input → 0 < (fill_step s input w room).used
  fill_goes_on = standing_goes_on s input w room (reached_stands reached)

  -- a fill that leaves room for a line has used all of its input
  pub fill_uses-all : line_room + length (fill_step s input w room).line ≤ room → (fill_step s input w room).used ≡ length input
  fill_uses-all = standing-uses-all s input w room (reached_stands reached)
