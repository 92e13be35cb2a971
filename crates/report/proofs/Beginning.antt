-- How a report begins: bytes of the header let it go on, and with the last of them it has its first line or its refusal.
-- Assumes nothing.
use mathlib.Core.Path.{◌≡◌, refl}
use mathlib.Core.Bool.{Bool, true, false, cond}
use mathlib.Core.List.{List, [], ◌∷◌, ◌++◌, append_assoc, append-nil}
use Prim.Native.Nat.{ℕ, ◌+◌, ◌≤◌, ◌<◌, zero-le}
use native.Mathlib.Nat.{sub-zero}
use native.Mathlib.Omega.{arith}
use lib.Dec.{ltb, eqb}
use borrow.Author.Tests.{ltb-true, ltb-false, eqb-true}
use lib.ListN.{length, get_or, take, length-append}
use lib.Seq.{sets, length-sets, take_at, drop_at}
use Rattle.layout.specs.Arrays.{stripe_refusal}
use Rattle.layout.specs.declared.Array.{Array}
use Rattle.layout.proofs.Ranges.{sound_stripe}
use Rattle.tag.specs.Blocks.{format_at}
use Rattle.scan.specs.Scans.{start_work}
use Rattle.lines.specs.Text.{scrub_word}
use Rattle.lines.specs.Lines.{first_line, refused_line}
use Rattle.lines.specs.Headers.{header_room, header_size, array_in, header_refusal}
use Rattle.lines.proofs.Lines.{first-line-fits, refused_line-fits}
use Rattle.lines.proofs.Headers.{size_least, size-most, size_stays, header_sound}
use Rattle.report.specs.declared.Report.{Report}
use Rattle.report.specs.Reports.{none, stripe_lines, report_of}
use Rattle.report.specs.Feeding.{work_length, front, begun_scan, begun_work, holding, entering, ended, header_came, header_whole, header_held, header_took, fresh_report}
use Rattle.report.proofs.Blocks.{stripe-some}
use Rattle.report.proofs.Scanning.{fronted-long, scan_starts}
use Rattle.report.proofs.Stages.{in_header, in_stripe, over, StandsInHeader, StandsInStripe, Leads}
use Rattle.report.proofs.Storing.{stored}

-- the new state, with nothing of the header
pub fresh-stands : (w : List ℕ) → length w ≡ work_length → StandsInHeader [] fresh_report w
unfolding fresh_report
fresh-stands w e =
    record { stage = refl; have = refl; short = omega (arith, size_least 0); long = refl; bytes = refl; work = e }

-- a report whose header is not refused begins with the eight bytes "SCRUB v1"
pub report_begins : (image : List ℕ) → header_refusal (take (header_size image) image) ≡ 0
    → take 8 (report_of image) ≡ 0x53 ∷ 0x43 ∷ 0x52 ∷ 0x55 ∷ 0x42 ∷ 0x20 ∷ 0x76 ∷ 0x31 ∷ []
unfolding report_of first_line scrub_word
report_begins image e = rw e

-- ---- the header is whole: these are its bytes, whatever follows them

module _ (used : ℕ) (r : Report) (w h : List ℕ) (came : header_came r ≡ h) (whole : (rest : List ℕ) → header_size (h ++ rest) ≡ length h)
    (work : length w ≡ work_length) where
  begins : (rest : List ℕ) → report_of (h ++ rest)
      ≡ cond (eqb (header_refusal h) 0) (first_line (array_in h) ++ stripe_lines (array_in h) (array_in h).stripes 0 none rest) (refused_line (header_refusal h))
  unfolding report_of
  begins rest = rw (whole rest, take_at h rest (length h) refl, drop_at h rest (length h) refl)

  accepted : header_refusal h ≡ 0
      → StandsInStripe (array_in h) 0 none [] (entering 1 r.header (begun_scan (array_in h) 0 w) none) (begun_work (array_in h) 0 w)
  accepted e =
      let a = array_in h in
      let range = header_sound h e in
      let sound : stripe_refusal a 0 ≡ 0 = sound_stripe a 0 (record { array = range; here = range.some }) in
      record {
        stage = refl;
        have = refl;
        short = stripe-some (format_at a) a.members (omega (arith, range.few));
        sound = sound;
        tally = refl;
        counted = record { clean = zero-le; bad = zero-le; unchecked = zero-le; torn = zero-le };
        work = fronted-long w (start_work a 0 (front a w)) work;
        scanned = scan_starts a 0 sound w work;
      }

  pub whole-header_leads : Leads (λ rest. report_of (h ++ rest)) used (header_whole used r w)
  unfolding header_whole
  whole-header_leads = rw came (go (eqb (header_refusal h) 0) refl)
    where
      a : Array
      a = array_in h

      refusal : ℕ
      refusal = header_refusal h

      go : (f : Bool) → eqb refusal 0 ≡ f
          → Leads (λ rest. report_of (h ++ rest)) used
          (cond f (record { used = used; state = entering 1 r.header (begun_scan a 0 w) none; work = begun_work a 0 w; line = first_line a })
          (record { used = used; state = ended r; work = w; line = refused_line refusal }))
      go true e =
          record {
            to = in_stripe a 0 none [];
            stands = accepted (eqb-true refusal 0 e);
            says = λ rest. rw (begins rest, e, sub-zero);
            uses = refl;
            short = first-line-fits a;
          }
      go false e =
          record { to = over; stands = refl; says = λ rest. rw (begins rest, e, append-nil); uses = refl; short = refused_line-fits refusal }

-- ---- bytes of the header, no more than it lacks

module _ (h : List ℕ) (r : Report) (w bytes : List ℕ) (q : StandsInHeader h r w) (few : length h + length bytes ≤ header_size h) where
  abbrev held : Report
  held = holding r (sets r.header r.have bytes) (r.have + length bytes) r.scan

  held_have : r.have + length bytes ≡ length (h ++ bytes)
  held_have = rw (length-append, q.have)

  came : header_came held ≡ h ++ bytes
  came =
      let room : length h + length bytes ≤ header_room = omega (arith, size-most (get_or h 2 0)) in
      rw (held_have, q.have) (stored header_room r.header h bytes q.long q.bytes room)

  still_short : length (h ++ bytes) < header_size (h ++ bytes) → StandsInHeader (h ++ bytes) held w
  still_short l = record { stage = q.stage; have = held_have; short = l; long = rw length-sets q.long; bytes = rw held_have at came; work = q.work }

  pub header_leads : Leads (λ rest. report_of (h ++ (bytes ++ rest))) (length bytes) (header_took r bytes w)
  unfolding header_took header_held
  header_leads = rw came (go (ltb (r.have + length bytes) (header_size (h ++ bytes))) refl)
    where
      go : (f : Bool) → ltb (r.have + length bytes) (header_size (h ++ bytes)) ≡ f
          → Leads (λ rest. report_of (h ++ (bytes ++ rest))) (length bytes)
          (cond f (record { used = length bytes; state = held; work = w; line = [] }) (header_whole (length bytes) held w))
      go true e =
          let l = ltb-true (r.have + length bytes) (header_size (h ++ bytes)) e in
          record {
            to = in_header (h ++ bytes);
            stands = still_short (omega (arith, held_have));
            says = λ rest. rw append_assoc;
            uses = refl;
            short = zero-le;
          }
      go false e =
          let full : header_size (h ++ bytes) ≤ length (h ++ bytes) =
          omega (arith, held_have, ltb-false (r.have + length bytes) (header_size (h ++ bytes)) e) in
          let l = whole-header_leads (length bytes) held w (h ++ bytes) came (size_stays h bytes few full) q.work in
          record {
            to = l.to;
            stands = l.stands;
            says = λ rest. rw (← append_assoc) (l.says rest);
            uses = l.uses;
            short = l.short;
          }
