-- The loop of a feed. The invariant: what the steps so far used and wrote, and then what the steps to come do, is the whole feed; and what was
-- written so far stands at the start of each buffer. Assumes nothing.
use mathlib.Core.Path.{◌≡◌, refl, sym, ap, ap₂, ◌∙◌}
use mathlib.Core.Logic.{◌≢◌}
use mathlib.Core.List.{List, [], ◌++◌, append_assoc, append-nil}
use Prim.Native.Nat.{ℕ, zero, suc, ◌+◌, ◌-◌, ◌≤◌, ◌<◌, zero-le}
use native.Mathlib.Nat.{zero-add, sub-zero, add_assoc}
use native.Mathlib.Omega.{arith}
use borrow.Author.Tests.{eq-eqb, ne_eqb}
use lib.ListN.{length, take, drop, length-append, length-drop, drop_of_length-le}
use lib.Seq.{sets, sets-eq, length-sets, drop-drop}
use Rattle.std.proofs.lemmas.List.{take_rest}
use Rattle.copy.proofs.Puts.{sets-append}
use Rattle.repair.specs.declared.Repair.{Repair}
use Rattle.repair.specs.declared.Fed.{Fed}
use Rattle.repair.specs.Feeding.{Step, Does, step_of}
use Rattle.repair.specs.Feeds.{step_then, feed_steps, feed_of}
use Rattle.repair.proofs.Within.{Within, step_within}

-- ---- a buffer that was `before`, with these bytes at its start

pub record Filling (before bytes out : List ℕ) (filled : ℕ) : Type 0 where
  pub long : filled ≡ length bytes
  pub fits : filled ≤ length before
  pub shows : out ≡ sets before 0 bytes
  pub size : length out ≡ length before

pub none_yet : (before : List ℕ) → Filling before [] before 0
none_yet before = record { long = refl; fits = zero-le; shows = refl; size = refl }

-- bytes that are written into its rest stand behind those before
module _ {before bytes out : List ℕ} {filled : ℕ} (f : Filling before bytes out filled) (more : List ℕ) {part : List ℕ} {written : ℕ}
    (told : part ≡ sets (drop filled out) 0 more) (many : written ≡ length more) (fits : filled + length more ≤ length before) where
  abbrev pub after : List ℕ
  after = take filled out ++ (part ++ drop (length out - filled) (drop filled out))

  shown : after ≡ sets before 0 (bytes ++ more)
  shown =
      let size = f.size in
      let rest : 0 + length more ≤ length (drop filled out) = rw length-drop (omega arith) in
      let all : filled + length more ≤ length out = omega arith in
      let none : drop (length out - filled) (drop filled out) ≡ [] = drop_of_length-le (drop filled out) {i = length out - filled} (rw length-drop (omega arith)) in
      let same : take filled out ++ part ≡ sets out filled more =
      rw (told, sets-eq more (drop filled out) 0 rest, sets-eq more out filled all, zero-add (length more), drop-drop (length more) filled out)
      (sym (append_assoc (take filled out) more (drop (filled + length more) out))) in
      rw (none, append-nil part) (same ∙ rw (f.shows, f.long, sym (zero-add (length bytes))) (sets-append before 0 bytes more))

  pub filled_more : Filling before (bytes ++ more) after (filled + written)
  filled_more = record {
    long = ap₂ (λ (x y : ℕ). x + y) f.long many ∙ sym (length-append bytes more);
    fits = omega arith;
    shows = shown;
    size = ap length shown ∙ length-sets before 0 (bytes ++ more);
  }

-- ---- after some steps: `at` bytes are used, and so many are written to the image, whose buffer was `before`, and to the list

pub record Filled (all : Step) (input before listBefore : List ℕ) (r : Repair) (h out list : List ℕ) (at written listed : ℕ) : Type 0 where
  pub steps : ℕ
  pub bytes : List ℕ
  pub lines : List ℕ
  pub enough : length input < at + steps
  pub within : at ≤ length input
  pub image : Filling before bytes out written
  pub told : Filling listBefore lines list listed
  pub left : all ≡ step_then (record { used = at; state = r; held = h; image = bytes; list = lines })
      (feed_steps steps r (drop at input) h (length before - written) (length listBefore - listed))

pub none_filled : (r : Repair) (input h out list : List ℕ) → Filled (feed_of r input h (length out) (length list)) input out list r h out list 0 0 0
unfolding feed_of
none_filled r input h out list = record {
  steps = suc (length input);
  bytes = [];
  lines = [];
  enough = omega arith;
  within = zero-le;
  image = none_yet out;
  told = none_yet list;
  left = rw (sub-zero (length out), sub-zero (length list), zero-add);
}

-- a step that used nothing leaves nothing to be done
left-last : (all : Step) (input : List ℕ) (size listSize steps : ℕ) (r : Repair) (h bytes lines : List ℕ) (at written listed : ℕ) (first : Step)
    → first ≡ step_of r (drop at input) h (size - written) (listSize - listed) → first.used ≡ 0 → 0 < steps
    → all ≡ step_then (record { used = at; state = r; held = h; image = bytes; list = lines }) (feed_steps steps r (drop at input) h (size - written) (listSize - listed))
    → all ≡ step_then (record { used = at; state = r; held = h; image = bytes; list = lines }) first
unfolding feed_steps
left-last all input size listSize zero r h bytes lines at written listed first e none some left = absurd (omega arith)
left-last all input size listSize (suc steps) r h bytes lines at written listed first e none some left = rw (sym e, eq-eqb first.used 0 none) at left

-- what is left after a step that used something
left_after : (all : Step) (input : List ℕ) (size listSize steps : ℕ) (r : Repair) (h bytes lines : List ℕ) (at written listed : ℕ) (first : Step)
    → first ≡ step_of r (drop at input) h (size - written) (listSize - listed) → first.used ≢ 0
    → all ≡ step_then (record { used = at; state = r; held = h; image = bytes; list = lines }) (feed_steps (suc steps) r (drop at input) h (size - written) (listSize - listed))
    → all ≡ step_then (record { used = at + first.used; state = first.state; held = first.held; image = bytes ++ first.image; list = lines ++ first.list })
    (feed_steps steps first.state (drop (at + first.used) input) first.held (size - (written + length first.image)) (listSize - (listed + length first.list)))
unfolding feed_steps
left_after all input size listSize steps r h bytes lines at written listed first e some left =
    let room : size - written - length first.image ≡ size - (written + length first.image) = omega arith in
    let lineroom : listSize - listed - length first.list ≡ listSize - (listed + length first.list) = omega arith in
    let rest = feed_steps steps first.state (drop (at + first.used) input) first.held (size - (written + length first.image)) (listSize - (listed + length first.list)) in
    rw (add_assoc, append_assoc bytes first.image rest.image, append_assoc lines first.list rest.list) (rw (sym e, ne_eqb first.used 0 some, drop-drop first.used at input, room, lineroom) at left)

-- a turn of the loop: a step gets the rest of the input and of both buffers, which it leaves as `part` and `told`
module _ {all : Step} {input before listBefore : List ℕ} {r : Repair} {h out list : List ℕ} {at written listed : ℕ}
    (f : Filled all input before listBefore r h out list at written listed) {a : Fed} {h' part told : List ℕ}
    (given : Does (step_of r (take (length input - at) (drop at input)) h (length (take (length out - written) (drop written out))) (length (take (length list - listed) (drop listed list)))) a h'
    (take (length out - written) (drop written out)) part (take (length list - listed) (drop listed list)) told) where
  does : Does (step_of r (drop at input) h (length before - written) (length listBefore - listed)) a h' (drop written out) part (drop listed list) told
  does =
      let room : length (drop written out) ≡ length before - written = length-drop written out ∙ ap (λ (n : ℕ). n - written) f.image.size in
      let lineroom : length (drop listed list) ≡ length listBefore - listed = length-drop listed list ∙ ap (λ (n : ℕ). n - listed) f.told.size in
      rw (take_rest input at, take_rest out written, take_rest list listed, room, lineroom) at given

  abbrev first : Step
  first = step_of r (drop at input) h (length before - written) (length listBefore - listed)

  within_first : Within (length input - at) (length before - written) (length listBefore - listed) first
  within_first = rw length-drop at (step_within r (drop at input) h (length before - written) (length listBefore - listed))

  abbrev image-after : List ℕ
  image-after = take written out ++ (part ++ drop (length out - written) (drop written out))

  abbrev list-after : List ℕ
  list-after = take listed list ++ (told ++ drop (length list - listed) (drop listed list))

  image-more : Filling before (f.bytes ++ first.image) image-after (written + a.written)
  image-more = filled_more f.image first.image does.shows does.writes (omega (arith, f.image.fits, within_first.fits))

  list-more : Filling listBefore (f.lines ++ first.list) list-after (listed + a.listed)
  list-more = filled_more f.told first.list does.tells does.lists (omega (arith, f.told.fits, within_first.tells))

  -- what was used and written stays within the buffers
  pub used-within : at + a.used ≤ length input
  used-within = omega (arith, does.uses, within_first.uses, f.within)

  pub written-within : written + a.written ≤ length before
  written-within = image-more.fits

  pub listed-within : listed + a.listed ≤ length listBefore
  listed-within = list-more.fits

  -- and both buffers keep their lengths
  pub image-kept : length image-after ≡ length before
  image-kept = image-more.size

  pub list-kept : length list-after ≡ length listBefore
  list-kept = list-more.size

  -- a step that used nothing is the last
  pub all_filled : a.used ≡ 0
      → Does all (record { state = a.state; used = at + a.used; written = written + a.written; listed = listed + a.listed }) h' before image-after listBefore list-after
  all_filled none =
      let all-is = left-last all input (length before) (length listBefore) f.steps r h f.bytes f.lines at written listed first refl (sym does.uses ∙ none)
      (omega (arith, f.enough, f.within)) f.left in
      rw all-is record {
        uses = ap (λ (n : ℕ). at + n) does.uses;
        leaves = does.leaves;
        holds = does.holds;
        writes = image-more.long;
        lists = list-more.long;
        shows = image-more.shows;
        tells = list-more.shows;
      }

  pub more_filled : a.used ≢ 0
      → Filled all input before listBefore a.state h' image-after list-after (at + a.used) (written + a.written) (listed + a.listed)
  more_filled some = go f.steps f.enough f.left
    where
      go : (steps : ℕ) → length input < at + steps
          → all ≡ step_then (record { used = at; state = r; held = h; image = f.bytes; list = f.lines })
          (feed_steps steps r (drop at input) h (length before - written) (length listBefore - listed))
          → Filled all input before listBefore a.state h' image-after list-after (at + a.used) (written + a.written) (listed + a.listed)
      go zero enough left = absurd (omega (arith, f.within))
      go (suc steps) enough left = record {
        steps = steps;
        bytes = f.bytes ++ first.image;
        lines = f.lines ++ first.list;
        enough = omega (arith, some);
        within = used-within;
        image = image-more;
        told = list-more;
        left = rw (does.uses, does.leaves, does.holds, does.writes, does.lists)
            (left_after all input (length before) (length listBefore) steps r h f.bytes f.lines at written listed first refl (λ z. some (does.uses ∙ z)) left);
      }
