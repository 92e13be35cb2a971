-- Fills are runs: a fill is the calls of feed that it makes. From wherever a report stands it uses a byte at least, where there is one and
-- there is room for a line, and it stops only for want of input or of room. Assumes nothing.
use mathlib.Core.Path.{◌≡◌, refl, subst}
use mathlib.Core.Bool.{Bool, true, false, cond}
use mathlib.Core.List.{List, ◌++◌, append_assoc}
use Prim.Native.Nat.{ℕ, zero, suc, ◌+◌, ◌-◌, ◌≤◌, ◌<◌, zero-le}
use native.Mathlib.Decide.{dec_lt}
use native.Mathlib.Omega.{arith}
use borrow.Author.Tests.{eq-eqb, ne_eqb}
use lib.Dec.{eqb}
use lib.ListN.{length, take, drop, replicate, length-append, length-drop, length-replicate}
use lib.Seq.{take-add}
use Rattle.lines.specs.Lines.{line_room}
use Rattle.report.specs.declared.Report.{Report}
use Rattle.report.specs.declared.Fed.{Fed}
use Rattle.report.specs.Feeding.{Step, Does, feed_step}
use Rattle.report.specs.Fills.{and_then, fill_steps, fill_step}
use Rattle.report.specs.Runs.{ReportRun, fed, StepRuns}
use Rattle.report.proofs.Storing.{written-there}
use Rattle.report.proofs.Stages.{Stage, Stands}
use Rattle.report.proofs.Stepping.{feed_leads}
use Rattle.report.proofs.Within.{Within, feed-within}

-- ---- runs, from any state

-- one call
module _ (r : Report) (input w : List ℕ) where
  call_into : (out : List ℕ) → StepRuns r w input (feed_step r input w (length out))
  call_into out image text run =
      let step = feed_step r input w (length out) in
      let answer : Fed = record { state = step.state; used = step.used; written = length step.line } in
      subst (λ (y : List ℕ). ReportRun r w (take step.used input ++ image) (y ++ text))
      (written-there out step.line (feed-within r input w (length out)).fits) (fed input out answer refl refl refl refl refl run)

  call_runs : (room : ℕ) → StepRuns r w input (feed_step r input w room)
  call_runs room =
      subst (λ (n : ℕ). StepRuns r w input (feed_step r input w n)) (length-replicate {A = ℕ} room 0) (call_into (replicate room 0))

  -- a step, and another from where it ended
  pub both_run : (first rest : Step) → StepRuns r w input first → StepRuns first.state first.work (drop first.used input) rest
      → StepRuns r w input (and_then first rest)
  both_run first rest one other image text run =
      rw (
        take-add first.used rest.used input,
        append_assoc (take first.used input) (take rest.used (drop first.used input)) image,
        append_assoc first.line rest.line text,
      ) (one _ _ (other image text run))

  one-or-both : (test : Bool) (first rest : Step) → StepRuns r w input first → StepRuns r w input (and_then first rest)
      → StepRuns r w input (cond test first (and_then first rest))
  one-or-both true first rest one both = one
  one-or-both false first rest one both = both

calls_run : (calls : ℕ) (r : Report) (input w : List ℕ) (room : ℕ) → StepRuns r w input (fill_steps calls r input w room)
unfolding fill_steps
calls_run zero r input w room = λ image text run. run
calls_run (suc calls) r input w room =
    let first = feed_step r input w room in
    let rest = fill_steps calls first.state (drop first.used input) first.work (room - length first.line) in
    let one = call_runs r input w room in
    let other = calls_run calls first.state (drop first.used input) first.work (room - length first.line) in
    one-or-both r input w (eqb first.used 0) first rest one (both_run r input w first rest one other)

pub fill_runs : (r : Report) (input w : List ℕ) (room : ℕ) → StepRuns r w input (fill_step r input w room)
unfolding fill_step
fill_runs r input w room = calls_run (suc (length input)) r input w room

-- it uses no more than the input has, and its lines fit
one-or-both-within : (test : Bool) (first rest : Step) {most room : ℕ} → Within most room first
    → Within (most - first.used) (room - length first.line) rest → Within most room (cond test first (and_then first rest))
one-or-both-within true first rest one other = one
one-or-both-within false first rest one other =
    record { uses = omega (arith, one.uses, other.uses); fits = rw (length-append first.line rest.line) (omega (arith, one.fits, other.fits)) }

calls_within : (calls : ℕ) (r : Report) (input w : List ℕ) (room : ℕ) → Within (length input) room (fill_steps calls r input w room)
unfolding fill_steps
calls_within zero r input w room = record { uses = zero-le; fits = zero-le }
calls_within (suc calls) r input w room =
    let first = feed_step r input w room in
    let rest = fill_steps calls first.state (drop first.used input) first.work (room - length first.line) in
    one-or-both-within (eqb first.used 0) first rest (feed-within r input w room)
    (rw length-drop at (calls_within calls first.state (drop first.used input) first.work (room - length first.line)))

pub fill_within : (r : Report) (input w : List ℕ) (room : ℕ) → Within (length input) room (fill_step r input w room)
unfolding fill_step
fill_within r input w room = calls_within (suc (length input)) r input w room

-- a call that does a fill
module _ (r : Report) (input w : List ℕ) {out : List ℕ} {a : Fed} {v after : List ℕ} (d : Does (fill_step r input w (length out)) a v out after) where
  pub filled_uses : a.used ≤ length input
  filled_uses = rw d.uses (fill_within r input w (length out)).uses

  pub filled_writes : a.written ≤ length out
  filled_writes = rw d.writes (fill_within r input w (length out)).fits

  pub filled_runs : {image text : List ℕ} → ReportRun a.state v image text → ReportRun r w (take a.used input ++ image) (take a.written after ++ text)
  filled_runs {image} {text} run =
      let step = fill_step r input w (length out) in
      let there = written-there out step.line (fill_within r input w (length out)).fits in
      let from : ReportRun step.state step.work image text = rw (d.leaves, d.combines) at run in
      rw (d.uses, d.writes, d.shows, there) (fill_runs r input w (length out) image text from)

-- ---- how far a fill goes, from wherever a report stands

pub record Standing (r : Report) (w : List ℕ) : Type 0 where
  pub place : Stage
  pub stands : Stands place r w

one-or-both_stand : (test : Bool) (first rest : Step) → Standing first.state first.work → Standing rest.state rest.work
    → Standing (cond test first (and_then first rest)).state (cond test first (and_then first rest)).work
one-or-both_stand true first rest one other = one
one-or-both_stand false first rest one other = other

calls_stand : (calls : ℕ) (r : Report) (input w : List ℕ) (room : ℕ) → Standing r w
    → Standing (fill_steps calls r input w room).state (fill_steps calls r input w room).work
unfolding fill_steps
calls_stand zero r input w room here = here
calls_stand (suc calls) r input w room here =
    let first = feed_step r input w room in
    let rest = fill_steps calls first.state (drop first.used input) first.work (room - length first.line) in
    let m = feed_leads r input w room here.place here.stands in
    let next : Standing first.state first.work = record { place = m.to; stands = m.stands } in
    one-or-both_stand (eqb first.used 0) first rest next
    (calls_stand calls first.state (drop first.used input) first.work (room - length first.line) next)

used-up : (input : List ℕ) (room : ℕ) (first rest : Step) → Within (length input) room first
    → (line_room ≤ room → 0 < length input → 0 < first.used)
    → (0 < first.used → line_room + length rest.line ≤ room - length first.line → rest.used ≡ length input - first.used)
    → line_room + length (cond (eqb first.used 0) first (and_then first rest)).line ≤ room
    → (cond (eqb first.used 0) first (and_then first rest)).used ≡ length input
used-up input room first rest within goes later = go (dec_lt 0 first.used) (dec_lt 0 (length input))
  where
    go : Dec (0 < first.used) → Dec (0 < length input)
        → line_room + length (cond (eqb first.used 0) first (and_then first rest)).line ≤ room
        → (cond (eqb first.used 0) first (and_then first rest)).used ≡ length input
    go (yes h) d l =
        let test = ne_eqb first.used 0 (λ e. omega arith) in
        let left : line_room + (length first.line + length rest.line) ≤ room = simp length-append at (rw test at l) in
        rw test (omega (arith, later h (omega arith), within.uses))
    go (no h) (yes some) l =
        let test = eq-eqb first.used 0 (omega arith) in
        let left : line_room + length first.line ≤ room = rw test at l in
        absurd (h (goes (omega arith) some))
    go (no h) (no none) l = rw (eq-eqb first.used 0 (omega arith)) (omega arith)

calls_use_all : (calls : ℕ) (r : Report) (input w : List ℕ) (room : ℕ) → Standing r w → length input < calls
    → line_room + length (fill_steps calls r input w room).line ≤ room → (fill_steps calls r input w room).used ≡ length input
unfolding fill_steps
calls_use_all zero r input w room here enough l = absurd (omega arith)
calls_use_all (suc calls) r input w room here enough l =
    let first = feed_step r input w room in
    let rest = fill_steps calls first.state (drop first.used input) first.work (room - length first.line) in
    let m = feed_leads r input w room here.place here.stands in
    let within = feed-within r input w room in
    let later : 0 < first.used → line_room + length rest.line ≤ room - length first.line → rest.used ≡ length input - first.used =
    λ some fits. rw length-drop at (calls_use_all calls first.state (drop first.used input) first.work (room - length first.line)
    (record { place = m.to; stands = m.stands }) (rw length-drop (omega (arith, within.uses))) fits) in
    used-up input room first rest within m.goes later l

module _ (r : Report) (input w : List ℕ) (room : ℕ) (here : Standing r w) where
  pub fill_stands : Standing (fill_step r input w room).state (fill_step r input w room).work
  unfolding fill_step
  fill_stands = calls_stand (suc (length input)) r input w room here

  pub standing_goes_on : line_room ≤ room → 0 < length input → 0 < (fill_step r input w room).used
  unfolding fill_step fill_steps
  standing_goes_on wide some =
      let more : 0 < (feed_step r input w room).used = (feed_leads r input w room here.place here.stands).goes wide some in
      rw (ne_eqb (feed_step r input w room).used 0 (λ e. omega arith)) (omega arith)

  -- where a line would still have room, all of the input was used
  pub standing-uses-all : line_room + length (fill_step r input w room).line ≤ room → (fill_step r input w room).used ≡ length input
  unfolding fill_step
  standing-uses-all l = calls_use_all (suc (length input)) r input w room here (omega arith) l
