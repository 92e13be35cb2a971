-- Bytes of a stripe: the scan goes on, and with the last of them the stripe has its line, and the next stripe begins if there is one.
-- Assumes nothing.
use mathlib.Core.Path.{◌≡◌, refl, sym, ap, ◌∙◌, subst}
use mathlib.Core.Bool.{Bool, true, false, cond}
use mathlib.Core.List.{List, [], ◌++◌, append_assoc}
use Prim.Native.Nat.{ℕ, suc, ◌+◌, ◌-◌, ◌/◌, ◌%◌, ◌≤◌, ◌<◌, zero-le}
use native.Mathlib.Omega.{arith}
use lib.Dec.{ltb}
use borrow.Author.Tests.{ltb-true, ltb-false, le-ltb, le-leb, lt-ltb}
use lib.ListN.{length, length-append}
use lib.Seq.{take_at, drop_at}
use Rattle.layout.specs.Arrays.{stripe_refusal}
use Rattle.layout.specs.declared.Array.{Array}
use Rattle.layout.proofs.Ranges.{stripe_sound, sound_stripe}
use Rattle.tag.specs.Blocks.{format_at}
use Rattle.stripe.specs.Stripes.{stripe_length}
use Rattle.scan.specs.declared.Scan.{Scan}
use Rattle.scan.specs.Scans.{start_work, piece_work}
use Rattle.lines.specs.declared.tally.Tally.{Tally}
use Rattle.lines.specs.Lines.{stripe_line}
use Rattle.lines.proofs.Lines.{stripe-line-fits}
use Rattle.report.specs.declared.Report.{Report}
use Rattle.report.specs.Reports.{counted, verdict_of, stripe_lines}
use Rattle.report.specs.Feeding.{Step, work_length, front, begun_scan, begun_work, took_scan, took_work, judgement, tally_of, holding, entering, stripe_fit, stripe_judged, stripe_whole, member_now, stripe_took}
use Rattle.report.proofs.Blocks.{stripe-some, blocks-and-rest, block-there, block-ends}
use Rattle.report.proofs.Scanning.{Scanned, fronted-long, scan_starts, scan_goes_on, scan_judges}
use Rattle.report.proofs.Stages.{in_stripe, behind, to_say, Counted, StandsInStripe, Leads}
use Rattle.report.proofs.Counting.{one-more-counted}

-- ---- the lines of the stripes to come

module _ (a : Array) (stripe : ℕ) (t : Tally) (here : stripe < a.stripes) where
  pub one_left : a.stripes - stripe ≡ suc (a.stripes - (stripe + 1))
  one_left = omega arith

  pub stripe_then : (h rest : List ℕ) → length h ≡ stripe_length a
      → to_say (in_stripe a stripe t h) rest
      ≡ stripe_line stripe (verdict_of a stripe h) ++ stripe_lines a (a.stripes - (stripe + 1)) (stripe + 1) (counted t (verdict_of a stripe h)) rest
  unfolding stripe_lines
  stripe_then h rest e =
      let enough : stripe_length a ≤ length (h ++ rest) = rw length-append (omega arith) in
      rw (one_left, le-ltb (length (h ++ rest)) (stripe_length a) enough, take_at h rest (stripe_length a) e, drop_at h rest (stripe_length a) e)

-- ---- the stripe is whole

module _ (used : ℕ) (a : Array) (stripe : ℕ) (sound : stripe_refusal a stripe ≡ 0) (t : Tally) (h : List ℕ) (r : Report) (w : List ℕ)
    (tally : tally_of r ≡ t) (few : Counted stripe t) (long : length w ≡ work_length) (scanned : Scanned a stripe h r.scan w) (full : length h ≡ stripe_length a) where
  -- the next one begins
  next-stands : stripe + 1 < a.stripes
      → StandsInStripe a (stripe + 1) (counted t (verdict_of a stripe h)) []
      (entering 1 r.header (begun_scan a (stripe + 1) w) (counted t (verdict_of a stripe h))) (begun_work a (stripe + 1) w)
  next-stands l =
      let range = stripe_sound a stripe sound in
      let on : stripe_refusal a (stripe + 1) ≡ 0 = sound_stripe a (stripe + 1) (record { array = range.array; here = l }) in
      record {
        stage = refl;
        have = refl;
        short = stripe-some (format_at a) a.members (omega (arith, range.array.few));
        sound = on;
        tally = refl;
        counted = one-more-counted stripe t (verdict_of a stripe h) few;
        work = fronted-long w (start_work a (stripe + 1) (front a w)) long;
        scanned = scan_starts a (stripe + 1) on w long;
      }

  -- the step as it is for these numbers of the array, the stripe and the counts
  abbrev step_for : Array → ℕ → Tally → Step
  step_for b s k =
      cond (ltb (s + 1) b.stripes)
      (record {
        used = used;
        state = entering 1 r.header (begun_scan b (s + 1) w) (counted k (verdict_of a stripe h));
        work = begun_work b (s + 1) w;
        line = stripe_line s (verdict_of a stripe h);
      })
      (record {
        used = used;
        state = entering 2 r.header r.scan (counted k (verdict_of a stripe h));
        work = w;
        line = stripe_line s (verdict_of a stripe h);
      })

  judged_step : stripe_judged used r w (verdict_of a stripe h) ≡ step_for a stripe t
  unfolding stripe_judged
  judged_step =
      ap (λ (b : Array). step_for b r.scan.stripe (tally_of r)) scanned.array ∙ ap (λ (s : ℕ). step_for a s (tally_of r)) scanned.place
      ∙ ap (step_for a stripe) tally

  judged_leads : Leads (to_say (in_stripe a stripe t h)) used (stripe_judged used r w (verdict_of a stripe h))
  unfolding stripe_lines
  judged_leads = rw judged_step (go (ltb (stripe + 1) a.stripes) refl)
    where
      here : stripe < a.stripes
      here = (stripe_sound a stripe sound).here

      next : Tally
      next = counted t (verdict_of a stripe h)

      line : List ℕ
      line = stripe_line stripe (verdict_of a stripe h)

      go : (f : Bool) → ltb (stripe + 1) a.stripes ≡ f
          → Leads (to_say (in_stripe a stripe t h)) used
          (cond f (record { used = used; state = entering 1 r.header (begun_scan a (stripe + 1) w) next; work = begun_work a (stripe + 1) w; line = line })
          (record { used = used; state = entering 2 r.header r.scan next; work = w; line = line }))
      go true e =
          record {
            to = in_stripe a (stripe + 1) next [];
            stands = next-stands (ltb-true (stripe + 1) a.stripes e);
            says = λ rest. stripe_then a stripe t here h rest full;
            uses = refl;
            short = stripe-line-fits stripe (verdict_of a stripe h);
          }
      go false e =
          let last : a.stripes - (stripe + 1) ≡ 0 = omega (arith, ltb-false (stripe + 1) a.stripes e) in
          record {
            to = behind a next;
            stands = record { stage = refl; array = scanned.array; tally = refl };
            says = λ rest. stripe_then a stripe t here h rest full ∙ ap (λ (left : ℕ). line ++ stripe_lines a left (stripe + 1) next rest) last;
            uses = refl;
            short = stripe-line-fits stripe (verdict_of a stripe h);
          }

  pub whole-stripe_leads : Leads (to_say (in_stripe a stripe t h)) used (stripe_whole used r w (judgement r.scan w))
  unfolding stripe_whole
  whole-stripe_leads = rw (scan_judges a stripe sound w long r.scan h scanned full) judged_leads

-- ---- bytes of the stripe

module _ (a : Array) (stripe : ℕ) (t : Tally) (h : List ℕ) (r : Report) (w : List ℕ) (q : StandsInStripe a stripe t h r w) where
  pub is_fit : stripe_fit r ≡ true
  unfolding stripe_fit
  is_fit =
      let same = q.tally in
      let few = q.counted in
      let clean : r.tally.clean ≤ stripe = omega (arith, ap (λ (x : Tally). x.clean) same, few.clean) in
      let bad : r.tally.bad ≤ stripe = omega (arith, ap (λ (x : Tally). x.bad) same, few.bad) in
      let unchecked : r.tally.unchecked ≤ stripe = omega (arith, ap (λ (x : Tally). x.unchecked) same, few.unchecked) in
      let torn : r.tally.torn ≤ stripe = omega (arith, ap (λ (x : Tally). x.torn) same, few.torn) in
      let short : r.have < stripe_length a = omega (arith, q.have, q.short) in
      rw (
        q.scanned.array,
        q.scanned.place,
        q.sound,
        lt-ltb r.have (stripe_length a) short,
        le-leb r.tally.clean stripe clean,
        le-leb r.tally.bad stripe bad,
        le-leb r.tally.unchecked stripe unchecked,
        le-leb r.tally.torn stripe torn,
      )

  module _ (bytes : List ℕ) (room : r.have % (format_at a).block_length + length bytes ≤ (format_at a).block_length) where
    abbrev scan_now : Scan
    scan_now = took_scan r.scan (member_now r) bytes w

    abbrev work_now : List ℕ
    work_now = took_work r.scan (member_now r) bytes w

    abbrev held : Report
    held = holding r r.header (r.have + length bytes) scan_now

    have_short : r.have < stripe_length a
    have_short = omega (arith, q.have, q.short)

    there : r.have / (format_at a).block_length ≡ member_now r
    there = ap (λ (b : Array). r.have / (format_at b).block_length) (sym q.scanned.array)

    scanned_now : Scanned a stripe (h ++ bytes) scan_now work_now
    scanned_now =
        subst (λ (m : ℕ). Scanned a stripe (h ++ bytes) (took_scan r.scan m bytes w) (took_work r.scan m bytes w)) there
        (scan_goes_on a stripe q.sound w q.work r.scan h q.scanned bytes (r.have / (format_at a).block_length) (r.have % (format_at a).block_length)
        (sym q.have ∙ blocks-and-rest (format_at a) r.have) room (block-there (format_at a) r.have a.members have_short))

    long_now : length work_now ≡ work_length
    long_now = fronted-long w (piece_work r.scan (member_now r) bytes (front r.scan.array w)) q.work

    still_short : r.have + length bytes < stripe_length a → StandsInStripe a stripe t (h ++ bytes) held work_now
    still_short l =
        record {
          stage = q.stage;
          have = rw (length-append, q.have);
          short = rw length-append (omega (arith, q.have));
          sound = q.sound;
          tally = q.tally;
          counted = q.counted;
          work = long_now;
          scanned = scanned_now;
        }

    pub stripe_leads : Leads (λ rest. to_say (in_stripe a stripe t h) (bytes ++ rest)) (length bytes) (stripe_took r bytes w)
    unfolding stripe_took
    stripe_leads = go (ltb (r.have + length bytes) (stripe_length r.scan.array)) refl
      where
        size : stripe_length r.scan.array ≡ stripe_length a
        size = ap stripe_length q.scanned.array

        go : (f : Bool) → ltb (r.have + length bytes) (stripe_length r.scan.array) ≡ f
            → Leads (λ rest. to_say (in_stripe a stripe t h) (bytes ++ rest)) (length bytes)
            (cond f (record { used = length bytes; state = held; work = work_now; line = [] })
            (stripe_whole (length bytes) held work_now (judgement scan_now work_now)))
        go true e =
            record {
              to = in_stripe a stripe t (h ++ bytes);
              stands = still_short (omega (arith, size, ltb-true (r.have + length bytes) (stripe_length r.scan.array) e));
              says = λ rest. rw append_assoc;
              uses = refl;
              short = zero-le;
            }
        go false e =
            let full : length (h ++ bytes) ≡ stripe_length a =
            rw length-append (omega (arith, q.have, blocks-and-rest (format_at a) r.have, block-ends (format_at a) r.have a.members have_short, room, size, ltb-false (r.have + length bytes) (stripe_length r.scan.array) e)) in
            let l = whole-stripe_leads (length bytes) a stripe q.sound t (h ++ bytes) held work_now q.tally q.counted long_now scanned_now full in
            record {
              to = l.to;
              stands = l.stands;
              says = λ rest. rw (← append_assoc) (l.says rest);
              uses = l.uses;
              short = l.short;
            }
