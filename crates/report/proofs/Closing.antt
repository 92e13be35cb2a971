-- The close: what it writes is what is to be said when no byte is to come. Assumes nothing.
use mathlib.Core.Path.{◌≡◌, ap₂}
use mathlib.Core.List.{List, [], ◌++◌, append-nil}
use Prim.Native.Nat.{ℕ, ◌-◌, ◌≤◌, ◌<◌}
use native.Mathlib.Omega.{arith}
use borrow.Author.Tests.{le-ltb, lt-ltb}
use lib.ListN.{length}
use lib.Seq.{take_all}
use Rattle.layout.specs.declared.Array.{Array}
use Rattle.layout.proofs.Ranges.{stripe_sound}
use Rattle.stripe.specs.Stripes.{stripe_length}
use Rattle.lines.specs.declared.tally.Tally.{Tally}
use Rattle.lines.specs.Lines.{refused_line, total_line, line_room}
use Rattle.lines.specs.Headers.{header_size}
use Rattle.lines.proofs.Headers.{short_refused}
use Rattle.report.specs.declared.Report.{Report}
use Rattle.report.specs.Reports.{ending, stripe_lines, report_of}
use Rattle.report.specs.Feeding.{close_line}
use Rattle.report.proofs.Stages.{Stage, in_header, in_stripe, behind, over, to_say, Stands}
use Rattle.report.proofs.Striping.{one_left}

short-header_refused : (h : List ℕ) → length h < header_size h → refused_line 10 ≡ report_of (h ++ [])
unfolding report_of
short-header_refused h l = rw (append-nil h, take_all (header_size h) h (omega arith), short_refused h l)

short-stripe_refused : (a : Array) (stripe : ℕ) (t : Tally) (h : List ℕ) → stripe < a.stripes → length h < stripe_length a
    → refused_line 11 ≡ stripe_lines a (a.stripes - stripe) stripe t (h ++ [])
unfolding stripe_lines
short-stripe_refused a stripe t h here l = rw (append-nil h, one_left a stripe t here, lt-ltb (length h) (stripe_length a) l)

module _ (r : Report) (w : List ℕ) (room : ℕ) (wide : line_room ≤ room) where
  pub close_says : (g : Stage) → Stands g r w → close_line r room ≡ to_say g []
  unfolding close_line ending
  close_says (in_header h) q = rw (le-ltb room line_room wide, q.stage) (short-header_refused h q.short)
  close_says (in_stripe a stripe t h) q =
      rw (le-ltb room line_room wide, q.stage) (short-stripe_refused a stripe t h (stripe_sound a stripe q.sound).here q.short)
  close_says (behind a t) q = rw (le-ltb room line_room wide, q.stage) (ap₂ total_line q.array q.tally)
  close_says over q = rw (le-ltb room line_room wide, q)
