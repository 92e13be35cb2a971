-- Pieces that are passed: none yet, and what a feed uses of a piece behind what was passed of it. When all are passed the close ends the list
-- of them. Assumes nothing.
use Rattle.std.proofs.Common.{◌≡◌, ℕ, ◌-◌, ◌≤◌, ◌<◌, List, [], ◌++◌, length, take, drop, refl, sym, ap, ◌∙◌, append_assoc, append-nil, take-append-drop}
use Rattle.std.proofs.lemmas.List.{take_rest}
use Rattle.std.proofs.lemmas.List.Edits.{sets}
use Rattle.format.specs.Formats.{most_stripe}
use Rattle.lines.specs.Lines.{line_room}
use Rattle.repair.specs.declared.Repair.{Repair}
use Rattle.repair.specs.declared.Fed.{Fed}
use Rattle.repair.specs.Repairs.{Output, nothing, and_then, repair_of}
use Rattle.repair.specs.Feeding.{Does, fresh_repair, closing}
use Rattle.repair.specs.Feeds.{feed_of}
use Rattle.repair.specs.Runs.{Reached, by_feed, closed, fed}
use Rattle.repair.proofs.Within.{close_fits}
use Rattle.repair.proofs.Theorem.{written-there, feed_goes_on, run-writes_the_repair}
use Rattle.repair_image.specs.Passes.{Passes}

-- an input in two: what is passed, and the rest, of which some bytes are passed too
pub cut_further : (done rest : List ℕ) (n : ℕ) {input : List ℕ} → input ≡ done ++ rest → input ≡ (done ++ take n rest) ++ take (length rest - n) (drop n rest)
cut_further done rest n cut =
    rw (take_rest rest n, append_assoc done (take n rest) (drop n rest), take-append-drop n rest) cut

pub nothing_passes : {r : Repair} {h : List ℕ} → Reached r h → Passes r h [] r h nothing
nothing_passes here = record { reached = here; runs = λ rest out run. run }

-- two pieces, one behind the other
pub both_pass : {r s t : Repair} {h k l first second : List ℕ} {put told : Output} → Passes r h first s k put → Passes s k second t l told
    → Passes r h (first ++ second) t l (and_then put told)
both_pass {first = first} {second = second} {put = put} {told = told} p q = record {
  reached = q.reached;
  runs = λ rest out run. rw (append_assoc first second rest, append_assoc put.image told.image out.image, append_assoc put.list told.list out.list)
      (p.runs _ _ (q.runs rest out run));
}

module _ (s : Repair) (rest k : List ℕ) {image list image' list' k' : List ℕ} {a : Fed}
    (d : Does (feed_of s rest k (length image) (length list)) a k' image image' list list') where
  -- a feed uses something, where there is room for a stripe and for a line
  pub feed_goes : Reached s k → most_stripe ≤ length image → line_room ≤ length list → 0 < length rest → 0 < a.used
  feed_goes here wide room more = rw d.uses (feed_goes_on here rest (length image) (length list) wide room more)

  pub feed_passes : {r : Repair} {h done : List ℕ} {put : Output} → Passes r h done s k put
      → Passes r h (done ++ take a.used rest) a.state k' (and_then put (record { image = take a.written image'; list = take a.listed list' }))
  feed_passes p = both_pass p (record {
    reached = rw (d.leaves, d.holds) (by_feed rest (length image) (length list) p.reached);
    runs = λ later out run. fed rest image list a d run;
  })

-- a close shows its line at the start of the buffer
pub close_shows : (s : Repair) (list : List ℕ) {last : ℕ} {after : List ℕ} → last ≡ length (closing s (length list)) → after ≡ sets list 0 (closing s (length list))
    → take last after ≡ closing s (length list)
close_shows s list e f =
    rw (e, f) (written-there list (closing s (length list)) (close_fits s (length list)))

-- the whole input of a new repair
pub all_passed : {h k input : List ℕ} {put : Output} {s : Repair} (list : List ℕ) → Passes fresh_repair h input s k put → line_room ≤ length list
    → and_then put (record { image = []; list = closing s (length list) }) ≡ repair_of input
all_passed {h} {k} {input} {put} {s} list p room =
    let last = closing s (length list) in
    let whole = p.runs [] _ (closed list (length last) room refl refl) in
    ap (λ (l : List ℕ). and_then put (record { image = []; list = l })) (sym (close_shows s list refl refl))
    ∙ run-writes_the_repair refl whole ∙ ap repair_of (append-nil input)
