-- The steps within the stripes, one law for each way out: what the calls on the way give makes the step done. Assumes nothing.
use mathlib.Core.Path.{◌≡◌, refl, ap, ap₂, ◌∙◌, subst}
use mathlib.Core.List.{List}
use Prim.Native.Nat.{ℕ, ◌+◌, ◌≤◌, ◌<◌}
use native.Mathlib.Omega.{arith}
use borrow.Author.Tests.{lt-ltb, le-ltb}
use lib.ListN.{length}
use Rattle.verdict.specs.declared.Verdict.{Verdict}
use Rattle.std.proofs.Common.{Ok, Err}
use Rattle.refusal.specs.Refusals.{number}
use Rattle.refusal.specs.declared.Refusal.{Refusal}
use Rattle.verdict.specs.Verdicts.{verdict_numbers, scrubbed_numbers}
use Rattle.stripe.specs.Stripes.{stripe_length}
use Rattle.scan.specs.declared.Scan.{Scan}
use Rattle.lines.specs.Text.{Written}
use Rattle.lines.specs.declared.tally.Tally.{Tally}
use Rattle.lines.specs.Lines.{stripe_line, refused_line}
use Rattle.lines.proofs.Texts.{line-long}
use Rattle.report.specs.declared.Report.{Report}
use Rattle.report.specs.declared.Fed.{Fed}
use Rattle.report.specs.Reports.{counted}
use Rattle.report.specs.Feeding.{Step, Does, begun_scan, begun_work, took_scan, took_work, judgement, tally_of, holding, entering, ended, stripe_judged, stripe_whole, member_now, stripe_took}

module _ (used : ℕ) (r : Report) (w : List ℕ) where
  -- ---- the stripe has its verdict

  module _ (v : List ℕ) {out out' : List ℕ} {written : ℕ} (line : Written out 0 (stripe_line r.scan.stripe v) out' written)
      {t : Tally} (tally : t ≡ counted (tally_of r) v) {state : Report} where
    -- another comes after it
    pub next_begins : r.scan.stripe + 1 < r.scan.array.stripes → {scan : Scan} {w' : List ℕ}
        → scan ≡ begun_scan r.scan.array (r.scan.stripe + 1) w → w' ≡ begun_work r.scan.array (r.scan.stripe + 1) w
        → state ≡ entering 1 r.header scan t
        → Does (stripe_judged used r w v) (record { state = state; used = used; written = written }) w' out out'
    unfolding stripe_judged
    next_begins l scanned cleared entered =
        rw (lt-ltb (r.scan.stripe + 1) r.scan.array.stripes l) record {
          uses = refl;
          leaves = entered ∙ ap₂ (entering 1 r.header) scanned tally;
          writes = line-long line;
          combines = cleared;
          shows = line.stands;
        }

    -- it was the last
    pub last-judged : r.scan.array.stripes ≤ r.scan.stripe + 1 → state ≡ entering 2 r.header r.scan t
        → Does (stripe_judged used r w v) (record { state = state; used = used; written = written }) w out out'
    unfolding stripe_judged
    last-judged l entered =
        rw (le-ltb (r.scan.stripe + 1) r.scan.array.stripes l) record {
          uses = refl;
          leaves = entered ∙ ap (entering 2 r.header r.scan) tally;
          writes = line-long line;
          combines = refl;
          shows = line.stands;
        }

  -- ---- the stripe is whole, with the scan's answer in numbers

  abbrev refusal_step : ℕ → Step
  refusal_step number = record { used = used; state = ended r; work = w; line = refused_line number }

  module _ {numbers out out' w' : List ℕ} {fed : Fed} where
    pub not-judged : (refusal : Refusal) → scrubbed_numbers (Err refusal) ≡ numbers → Does (refusal_step (number refusal)) fed w' out out'
        → Does (stripe_whole used r w numbers) fed w' out out'
    unfolding stripe_whole
    not-judged refusal told did = rw (← told) did

    pub judged_by : (v : Verdict) → scrubbed_numbers (Ok v) ≡ numbers → Does (stripe_judged used r w (verdict_numbers v)) fed w' out out'
        → Does (stripe_whole used r w numbers) fed w' out out'
    unfolding stripe_whole
    judged_by v told did = rw (← told) did

-- ---- bytes of one block, of a member, with the length of the stripe as the code has them

module _ (r : Report) (bytes w : List ℕ) {member size : ℕ} (there : member ≡ member_now r) (long : size ≡ stripe_length r.scan.array)
    {scan : Scan} {w' : List ℕ} {held : Report}
    (scanned : scan ≡ took_scan r.scan member bytes w) (combined : w' ≡ took_work r.scan member bytes w)
    (holds : held ≡ holding r r.header (r.have + length bytes) scan) where
  -- the state and the buffer as the specification has them
  abbrev due : Report
  due = holding r r.header (r.have + length bytes) (took_scan r.scan (member_now r) bytes w)

  held-due : held ≡ due
  held-due = holds ∙ ap (holding r r.header (r.have + length bytes)) (scanned ∙ ap (λ (m : ℕ). took_scan r.scan m bytes w) there)

  combined-due : w' ≡ took_work r.scan (member_now r) bytes w
  combined-due = combined ∙ ap (λ (m : ℕ). took_work r.scan m bytes w) there

  pub still_short : r.have + length bytes < size → {out : List ℕ}
      → Does (stripe_took r bytes w) (record { state = held; used = length bytes; written = 0 }) w' out out
  unfolding stripe_took
  still_short l =
      rw (lt-ltb (r.have + length bytes) (stripe_length r.scan.array) (omega (arith, long)))
      record { uses = refl; leaves = held-due; writes = refl; combines = combined-due; shows = refl }

  pub now_whole : size ≤ r.have + length bytes → {out out' last : List ℕ} {fed : Fed}
      → Does (stripe_whole (length bytes) held w' (judgement held.scan w')) fed last out out' → Does (stripe_took r bytes w) fed last out out'
  unfolding stripe_took
  now_whole l {out = out} {out' = out'} {last = last} {fed = fed} did =
      rw (le-ltb (r.have + length bytes) (stripe_length r.scan.array) (omega (arith, long)))
      (subst (λ (s : Step). Does s fed last out out')
      (ap₂ (λ (h : Report) (x : List ℕ). stripe_whole (length bytes) h x (judgement h.scan x)) held-due combined-due) did)
