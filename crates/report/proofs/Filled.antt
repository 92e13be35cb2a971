-- The loop of a fill. The invariant: what the calls so far used and wrote, and then what the calls to come do, is the whole fill; and the
-- lines so far stand at the start of the output buffer. Assumes nothing.
use mathlib.Core.Path.{◌≡◌, refl, sym, ap, ap₂, ◌∙◌}
use mathlib.Core.Logic.{◌≢◌}
use mathlib.Core.List.{List, [], ◌++◌, append_assoc, append-nil}
use Prim.Native.Nat.{ℕ, zero, suc, ◌+◌, ◌-◌, ◌≤◌, ◌<◌, zero-le}
use native.Mathlib.Nat.{zero-add, sub-zero, add_assoc}
use native.Mathlib.Omega.{arith}
use borrow.Author.Tests.{eq-eqb, ne_eqb}
use lib.ListN.{length, take, drop, length-append, length-drop, drop_of_length-le}
use lib.Seq.{sets, sets-eq, length-sets, drop-drop, take_all}
use Rattle.copy.proofs.Puts.{sets-append}
use Rattle.report.specs.declared.Report.{Report}
use Rattle.report.specs.declared.Fed.{Fed}
use Rattle.report.specs.Feeding.{Step, Does, feed_step}
use Rattle.report.specs.Fills.{and_then, fill_steps, fill_step}
use Rattle.report.proofs.Within.{Within, feed-within}

-- after some calls: `at` bytes are used, and `filled` bytes of the buffer, which was `before`, are written
pub record Filled (whole : Step) (input before : List ℕ) (r : Report) (w out : List ℕ) (at filled : ℕ) : Type 0 where
  pub calls : ℕ
  pub lines : List ℕ
  pub enough : length input < at + calls
  pub within : at ≤ length input
  pub long : filled ≡ length lines
  pub fits : filled ≤ length before
  pub shows : out ≡ sets before 0 lines
  pub size : length out ≡ length before
  pub left : whole ≡ and_then (record { used = at; state = r; work = w; line = lines }) (fill_steps calls r (drop at input) w (length before - filled))

pub none_filled : (r : Report) (input w out : List ℕ) → Filled (fill_step r input w (length out)) input out r w out 0 0
unfolding fill_step
none_filled r input w out = record {
  calls = suc (length input);
  lines = [];
  enough = omega arith;
  within = zero-le;
  long = refl;
  fits = zero-le;
  shows = refl;
  size = refl;
  left = rw (sub-zero, zero-add);
}

-- a line that is written into the rest of a buffer stands behind the lines before it
behind_them : (before lines line : List ℕ) {out part : List ℕ} {filled : ℕ} → filled ≡ length lines → out ≡ sets before 0 lines
    → part ≡ sets (drop filled out) 0 line → filled + length line ≤ length before → take filled out ++ part ≡ sets before 0 (lines ++ line)
behind_them before lines line {out} {part} {filled} long shows told fits =
    let size : length out ≡ length before = ap length shows ∙ length-sets before 0 lines in
    let rest : 0 + length line ≤ length (drop filled out) = rw length-drop (omega arith) in
    let all : filled + length line ≤ length out = omega arith in
    let same : take filled out ++ part ≡ sets out filled line =
    rw (told, sets-eq line (drop filled out) 0 rest, sets-eq line out filled all, zero-add (length line), drop-drop (length line) filled out)
    (sym (append_assoc (take filled out) line (drop (filled + length line) out))) in
    same ∙ rw (shows, long, sym (zero-add (length lines))) (sets-append before 0 lines line)

-- a call that used nothing leaves nothing to be done
left-last : (whole : Step) (input : List ℕ) (size calls : ℕ) (r : Report) (w lines : List ℕ) (at filled : ℕ) (first : Step)
    → first ≡ feed_step r (drop at input) w (size - filled) → first.used ≡ 0 → 0 < calls
    → whole ≡ and_then (record { used = at; state = r; work = w; line = lines }) (fill_steps calls r (drop at input) w (size - filled))
    → whole ≡ and_then (record { used = at; state = r; work = w; line = lines }) first
unfolding fill_steps
left-last whole input size zero r w lines at filled first e none some left = absurd (omega arith)
left-last whole input size (suc calls) r w lines at filled first e none some left = rw (sym e, eq-eqb first.used 0 none) at left

-- what is left after a call that used something
left_after : (whole : Step) (input : List ℕ) (size calls : ℕ) (r : Report) (w lines : List ℕ) (at filled : ℕ) (first : Step)
    → first ≡ feed_step r (drop at input) w (size - filled) → first.used ≢ 0
    → whole ≡ and_then (record { used = at; state = r; work = w; line = lines }) (fill_steps (suc calls) r (drop at input) w (size - filled))
    → whole ≡ and_then (record { used = at + first.used; state = first.state; work = first.work; line = lines ++ first.line })
    (fill_steps calls first.state (drop (at + first.used) input) first.work (size - (filled + length first.line)))
unfolding fill_steps
left_after whole input size calls r w lines at filled first e some left =
    let room : size - filled - length first.line ≡ size - (filled + length first.line) = omega arith in
    rw (add_assoc, append_assoc) (rw (sym e, ne_eqb first.used 0 some, drop-drop first.used at input, room) at left)

-- a turn of the loop: a call gets the rest of the input and the rest of the buffer, which it leaves as `part`
module _ {whole : Step} {input before : List ℕ} {r : Report} {w out : List ℕ} {at filled : ℕ} (f : Filled whole input before r w out at filled)
    {a : Fed} {v part : List ℕ}
    (given : Does (feed_step r (take (length input - at) (drop at input)) w (length (take (length out - filled) (drop filled out)))) a v
    (take (length out - filled) (drop filled out)) part) where
  does : Does (feed_step r (drop at input) w (length before - filled)) a v (drop filled out) part
  does =
      let rest : length (drop filled out) ≡ length before - filled = length-drop filled out ∙ ap (λ (n : ℕ). n - filled) f.size in
      rw (
        take_all (length input - at) (drop at input) (rw length-drop (omega arith)),
        take_all (length out - filled) (drop filled out) (rw length-drop (omega arith)),
        rest,
      ) at given

  abbrev after : List ℕ
  after = take filled out ++ (part ++ drop (length out - filled) (drop filled out))

  abbrev first : Step
  first = feed_step r (drop at input) w (length before - filled)

  within_first : Within (length input - at) (length before - filled) first
  within_first = rw length-drop at (feed-within r (drop at input) w (length before - filled))

  shown : after ≡ sets before 0 (f.lines ++ first.line)
  shown =
      rw (drop_of_length-le (drop filled out) {i = length out - filled} (rw length-drop (omega arith)), append-nil part)
      (behind_them before f.lines first.line f.long f.shows does.shows (omega (arith, f.fits, within_first.fits)))

  longer : filled + a.written ≡ length (f.lines ++ first.line)
  longer = ap₂ (λ (x y : ℕ). x + y) f.long does.writes ∙ sym (length-append f.lines first.line)

  -- what was used and written stays within the buffers
  pub used-within : at + a.used ≤ length input
  used-within = omega (arith, does.uses, within_first.uses, f.within)

  pub written-within : filled + a.written ≤ length before
  written-within = omega (arith, does.writes, within_first.fits, f.fits)

  -- a call that used nothing is the last
  pub all_filled : a.used ≡ 0
      → Does whole (record { state = a.state; used = at + a.used; written = filled + a.written }) v before after
  all_filled none =
      let whole_is = left-last whole input (length before) f.calls r w f.lines at filled first refl (sym does.uses ∙ none)
      (omega (arith, f.enough, f.within)) f.left in
      rw whole_is record {
        uses = ap (λ (n : ℕ). at + n) does.uses;
        leaves = does.leaves;
        writes = longer;
        combines = does.combines;
        shows = shown;
      }

  pub more_filled : a.used ≢ 0 → Filled whole input before a.state v after (at + a.used) (filled + a.written)
  more_filled some = go f.calls f.enough f.left
    where
      go : (calls : ℕ) → length input < at + calls
          → whole ≡ and_then (record { used = at; state = r; work = w; line = f.lines }) (fill_steps calls r (drop at input) w (length before - filled))
          → Filled whole input before a.state v after (at + a.used) (filled + a.written)
      go zero enough left = absurd (omega (arith, f.within))
      go (suc calls) enough left = record {
        calls = calls;
        lines = f.lines ++ first.line;
        enough = omega (arith, some);
        within = used-within;
        long = longer;
        fits = written-within;
        shows = shown;
        size = ap length shown ∙ length-sets before 0 (f.lines ++ first.line);
        left = rw (does.uses, does.leaves, does.combines, does.writes)
            (left_after whole input (length before) calls r w f.lines at filled first refl (λ z. some (does.uses ∙ z)) left);
      }
