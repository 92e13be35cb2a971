-- What a call of feed or close does, for each of its returns. Assumes nothing.
use mathlib.Core.Path.{◌≡◌, refl, sym, ap, ◌∙◌}
use mathlib.Core.Bool.{Bool, true, false, cond}
use mathlib.Core.List.{List, []}
use Prim.Native.Nat.{ℕ, ◌+◌, ◌≤◌, ◌<◌, min}
use native.Mathlib.Omega.{arith}
use borrow.Author.Tests.{lt-ltb, le-ltb, eq-eqb, ne_eqb}
use lib.Dec.{ltb}
use lib.ListN.{length, take, length-take}
use lib.Seq.{sets}
use Rattle.std.proofs.lemmas.List.{take_min}
use Rattle.refusal.specs.Refusals.{number}
use Rattle.refusal.specs.declared.Refusal.{Refusal}
use Rattle.refusal.proofs.Passing.{number-some}
use Rattle.layout.specs.declared.Array.{Array}
use Rattle.scan.specs.declared.Scan.{Scan}
use Rattle.lines.specs.Text.{Written}
use Rattle.lines.specs.Lines.{line_room, fitting, first_line, refused_line, total_line}
use Rattle.lines.specs.Headers.{header_size, array_in, header_refusal}
use Rattle.lines.proofs.Texts.{line-long}
use Rattle.report.specs.declared.Report.{Report}
use Rattle.report.specs.declared.Fed.{Fed}
use Rattle.report.specs.Reports.{none}
use Rattle.report.proofs.Choosing.{without_room, without_input, in_the_header, behind_the_last, when_over}
use Rattle.report.specs.Feeding.{Step, Does, begun_scan, begun_work, holding, entering, ended, header_came, header_whole, header_held, header_took, header_lacks, stripe_fit, block_lacks, stripe_took, skipped, stage_step, feed_step, tally_of, close_line}

-- a call that does a step does any that equals it
pub does_same : {s t : Step} {a : Fed} {w o p : List ℕ} → s ≡ t → Does t a w o p → Does s a w o p
does_same e d = rw e d

-- no line is written
pub silent : (used : ℕ) (s : Report) (w o : List ℕ)
    → Does (record { used = used; state = s; work = w; line = [] }) (record { state = s; used = used; written = 0 }) w o o
silent used s w o = record { uses = refl; leaves = refl; writes = refl; combines = refl; shows = refl }

-- a line is written
pub with_line : (used : ℕ) (s t : Report) (w v text o p : List ℕ) (n : ℕ) → s ≡ t → w ≡ v → Written o 0 text p n
    → Does (record { used = used; state = t; work = v; line = text }) (record { state = s; used = used; written = n }) w o p
with_line used s t w v text o p n e f written =
    record { uses = refl; leaves = e; writes = line-long written; combines = f; shows = written.stands }

-- ---- the header

module _ (used : ℕ) (r : Report) (w o p : List ℕ) where
  pub header_refused : (refusal : Refusal) (a : Fed) → number refusal ≡ header_refusal (header_came r)
      → Does (record { used = used; state = ended r; work = w; line = refused_line (number refusal) }) a w o p
      → Does (header_whole used r w) a w o p
  unfolding header_whole
  header_refused refusal a told did = rw (ne_eqb (header_refusal (header_came r)) 0 (λ z. number-some refusal (told ∙ z)), ← told) did

  pub header-accepted : (n : ℕ) (s : Report) (a : Array) (scan : Scan) (v : List ℕ) → 0 ≡ header_refusal (header_came r) → a ≡ array_in (header_came r)
      → Written o 0 (first_line a) p n → scan ≡ begun_scan a 0 w → v ≡ begun_work a 0 w → s ≡ entering 1 r.header scan none
      → Does (header_whole used r w) (record { state = s; used = used; written = n }) v o p
  unfolding header_whole
  header-accepted n s a scan v told same written begun f e =
      let state = e ∙ ap (λ (x : Scan). entering 1 r.header x none) begun in
      rw (eq-eqb (header_refusal (header_came r)) 0 (sym told), sym same)
      (with_line used s (entering 1 r.header (begun_scan a 0 w) none) v (begun_work a 0 w) (first_line a) o p n state f written)

module _ (r : Report) (bytes w : List ℕ) (held : Report)
    (told : held ≡ holding r (sets r.header r.have bytes) (r.have + length bytes) r.scan) where
  took-held : header_took r bytes w ≡ header_held (length bytes) held w
  unfolding header_took
  took-held = ap (λ (s : Report). header_held (length bytes) s w) (sym told)

  -- with the size as the code has it
  module _ (size : ℕ) (asked : size ≡ header_size (header_came held)) where
    pub header-short : (o : List ℕ) → held.have < size
        → Does (header_took r bytes w) (record { state = held; used = length bytes; written = 0 }) w o o
    unfolding header_held
    header-short o h = does_same took-held (rw (← asked, lt-ltb held.have size h) (silent (length bytes) held w o))

    pub header-long : (a : Fed) (v o p : List ℕ) → size ≤ held.have → Does (header_whole (length bytes) held w) a v o p
        → Does (header_took r bytes w) a v o p
    unfolding header_held
    header-long a v o p h d = does_same took-held (rw (← asked, le-ltb held.have size h) d)

-- ---- the part of the input that is lacking

-- the code's count of bytes is that many, or all
module _ (k n count : ℕ) (input : List ℕ) (lacks : k ≡ n) (told : count ≡ min k (length input)) where
  pub part_lacking : take count input ≡ take n input
  part_lacking = rw (told, lacks) (take_min n input)

  pub part-short : length (take count input) ≤ n
  part-short = rw part_lacking (simp length-take (omega arith))

-- ---- the stages

module _ (r : Report) (input w o : List ℕ) where
  pub unfit_passes : stripe_fit r ≡ false
      → Does (cond (stripe_fit r) (stripe_took r (take (block_lacks r) input) w) (skipped r input w))
      (record { state = r; used = length input; written = 0 }) w o o
  unfit_passes e = rw e (silent (length input) r w o)

  module _ (a : Fed) (v p : List ℕ) where
    pub fit_takes : (bytes : List ℕ) → stripe_fit r ≡ true → bytes ≡ take (block_lacks r) input → Does (stripe_took r bytes w) a v o p
        → Does (cond (stripe_fit r) (stripe_took r (take (block_lacks r) input) w) (skipped r input w)) a v o p
    fit_takes bytes e same d = rw (e, sym same) d

    pub stage_of_stripes : r.stage ≡ 1
        → Does (cond (stripe_fit r) (stripe_took r (take (block_lacks r) input) w) (skipped r input w)) a v o p
        → Does (stage_step r input w) a v o p
    unfolding stage_step
    stage_of_stripes e d = rw (ne_eqb r.stage 0 (λ z. omega arith), eq-eqb r.stage 1 e) d

  pub stage_over : 2 < r.stage → Does (stage_step r input w) (record { state = r; used = length input; written = 0 }) w o o
  stage_over h = does_same (when_over r input w h) (silent (length input) r w o)

  pub stage_of_last : (a : Fed) (p : List ℕ) → r.stage ≡ 2
      → Does (record { used = length input; state = ended r; work = w; line = refused_line 11 }) a w o p
      → Does (stage_step r input w) a w o p
  stage_of_last a p e d = does_same (behind_the_last r input w e) d

  pub stage_of_header : (a : Fed) (v p : List ℕ) → r.stage ≡ 0 → Does (header_took r (take (header_lacks r) input) w) a v o p
      → Does (stage_step r input w) a v o p
  stage_of_header a v p e d = does_same (in_the_header r input w e) d

  -- feed, with this room for output
  module _ (room : ℕ) where
    pub fed_without_room : room < line_room → Does (feed_step r input w room) (record { state = r; used = 0; written = 0 }) w o o
    fed_without_room h = does_same (without_room r input w room h) (silent 0 r w o)

    pub fed_without_input : length input ≡ 0 → Does (feed_step r input w room) (record { state = r; used = 0; written = 0 }) w o o
    fed_without_input e = does_same (without_input r input w room e) (silent 0 r w o)

-- ---- close

module _ (r : Report) (room : ℕ) where
  pub closed_in_header : r.stage ≡ 0 → fitting room (refused_line 10) ≡ close_line r room
  unfolding close_line fitting
  closed_in_header e = rw (eq-eqb r.stage 0 e)

  pub closed_in_stripes : r.stage ≡ 1 → fitting room (refused_line 11) ≡ close_line r room
  unfolding close_line fitting
  closed_in_stripes e = rw (ne_eqb r.stage 0 (λ z. omega arith), eq-eqb r.stage 1 e)

  pub closed-behind : r.stage ≡ 2 → fitting room (total_line r.scan.array (tally_of r)) ≡ close_line r room
  unfolding close_line fitting
  closed-behind e = rw (ne_eqb r.stage 0 (λ z. omega arith), ne_eqb r.stage 1 (λ z. omega arith), eq-eqb r.stage 2 e)

  pub closed_already : 2 < r.stage → close_line r room ≡ []
  unfolding close_line
  closed_already h =
      rw (ne_eqb r.stage 0 (λ z. omega arith), ne_eqb r.stage 1 (λ z. omega arith), ne_eqb r.stage 2 (λ z. omega arith)) (none (ltb room line_room))
    where
      none : (t : Bool) → ◌≡◌ {A = List ℕ} (cond t [] []) []
      none true = refl
      none false = refl

-- what a line's writing says of close, and what no line does
pub line_closes : (text line o p : List ℕ) (n : ℕ) → text ≡ line → Written o 0 text p n → (n ≡ length line) × (p ≡ sets o 0 line)
line_closes text line o p n e written = rw (sym e) (line-long written, written.stands)

pub silence_closes : (line o : List ℕ) → line ≡ [] → (0 ≡ length line) × (o ≡ sets o 0 line)
silence_closes line o e = rw e (refl, refl)
