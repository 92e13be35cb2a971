-- The theorem of the repair: however the image is cut, all that is written, joined, is the repair of all that was used, joined.
-- The invariant: what is yet to be written, by where the repair stands, is what the calls to come write.
-- That the calls promise the steps of a run is proved in Promised.antt, from their own `ensures`.
-- Assumes nothing.
use mathlib.Core.Path.{◌≡◌, sym, ap, ap₂, refl, ◌∙◌}
use mathlib.Core.List.{List, [], ◌∷◌, ◌++◌}
use Prim.Native.Nat.{ℕ, zero, suc, ◌+◌, ◌-◌, ◌≤◌, ◌<◌}
use native.Mathlib.Omega.{arith}
use lib.ListN.{length, take, drop, length-drop}
use lib.Seq.{sets, sets-eq, take_at, take_all}
use Rattle.format.specs.Formats.{most_stripe}
use Rattle.stripe.specs.Tables.{joined}
use Rattle.lines.specs.Lines.{line_room}
use Rattle.lines.proofs.Headers.{size_least}
use Rattle.repair.specs.declared.Repair.{Repair}
use Rattle.repair.specs.declared.Fed.{Fed}
use Rattle.repair.specs.Repairs.{Output, and_then, repair_of}
use Rattle.repair.specs.Feeding.{Step, Does, fresh_repair, closing}
use Rattle.repair.specs.Feeds.{feed_of}
use Rattle.repair.specs.Runs.{RepairRun, closed, fed, Reached, begun, by_feed, feed_all, fed_output}
use Rattle.repair.proofs.Within.{close_fits}
use Rattle.repair.proofs.Stages.{Stage, in_header, to_write, Stands, output_of}
use Rattle.repair.proofs.FeedRuns.{Feeds, both-feed, feed_leads, feed-within, feed-length, feed_goes}
use Rattle.repair.proofs.Closing.{close_writes}

-- what was written at the start of a buffer can be read there
pub written-there : (out bytes : List ℕ) → length bytes ≤ length out → take (length bytes) (sets out 0 bytes) ≡ bytes
written-there out bytes h = rw (sets-eq bytes out 0 (omega arith)) (take_at bytes (drop (0 + length bytes) out) (length bytes) refl)

-- what a call that does a feed shows in its buffers is what the feed writes
shown : {step : Step} {a : Fed} {h image image' list list' : List ℕ} → Does step a h image image' list list' → length step.image ≤ length image → length step.list ≤ length list
    → record { image = take a.written image'; list = take a.listed list' } ≡ output_of step
shown {step} {a} {h} {image} {image'} {list} {list'} d fits tells =
    ap₂ (λ (x y : List ℕ). record { image = x; list = y })
    (rw (d.writes, d.shows) (written-there image step.image fits)) (rw (d.lists, d.tells) (written-there list step.list tells))

run-writes : {s : Repair} {h bytes : List ℕ} {out : Output} → RepairRun s h bytes out → (g : Stage) → Stands g s h → out ≡ to_write g bytes
run-writes (closed {s = s} {h = h} {list' = list'} list listed wide e f) g q =
    let line : take listed list' ≡ closing s (length list) = rw (e, f) (written-there list (closing s (length list)) (close_fits s (length list))) in
    ap (λ (l : List ℕ). record { image = []; list = l }) line ∙ close_writes s h (length list) wide g q
run-writes (fed {s = s} {h = h} {h' = h'} {rest = rest} {out = out} input image list r d run) g q =
    let within = feed-within s input h (length image) (length list) in
    let m = feed_leads g s input h (length image) (length list) q in
    let stands : Stands m.to r.state h' = rw (d.leaves, d.holds) m.stands in
    ap₂ and_then (shown d within.fits within.tells) (run-writes run m.to stands)
    ∙ sym (m.writes rest) ∙ ap (λ (n : ℕ). to_write g (take n input ++ rest)) (sym d.uses)

-- ---- from the new state, whatever the buffer holds

pub fresh-stands : (h : List ℕ) → Stands (in_header []) fresh_repair h
unfolding fresh_repair
fresh-stands h = record { stage = refl; have = refl; short = omega (arith, size_least 0); bytes = refl }

-- every run of the calls, as they promise: with any inputs, of which each call uses what it does, and any buffers
pub run-writes_the_repair : {s : Repair} {h bytes : List ℕ} {out : Output} → s ≡ fresh_repair → RepairRun s h bytes out → out ≡ repair_of bytes
run-writes_the_repair {s} {h} new run = run-writes run (in_header []) (rw new (fresh-stands h))

-- ---- and every list of pieces has a run, in which each feed has room for a stripe and for a line

fewer : (n used feeds : ℕ) → n ≤ suc feeds → (0 < n → 0 < used) → n - used ≤ feeds
fewer n used feeds h goes = grind arith

module _ (room listRoom : ℕ) (wide : most_stripe ≤ room) (lines : line_room ≤ listRoom) where
  feeds_lead : (feeds : ℕ) (g : Stage) (r : Repair) (input h : List ℕ) → Stands g r h → Feeds g input (feed_all room listRoom feeds r input h)
  feeds_lead zero g r input h q = record { to = g; stands = q; writes = λ rest. refl }
  feeds_lead (suc feeds) g r input h q =
      let first = feed_of r input h room listRoom in
      let f = feed_leads g r input h room listRoom q in
      both-feed g input first (feed_all room listRoom feeds first.state (drop first.used input) first.held) f
      (feeds_lead feeds f.to first.state (drop first.used input) first.held f.stands)

  feeds_length : (feeds : ℕ) (r : Repair) (input h : List ℕ) → length (feed_all room listRoom feeds r input h).held ≡ length h
  feeds_length zero r input h = refl
  feeds_length (suc feeds) r input h =
      let first = feed_of r input h room listRoom in
      feeds_length feeds first.state (drop first.used input) first.held ∙ feed-length r input h room listRoom

  -- a piece whose bytes are no more than the feeds is used up
  feeds_use_all : (feeds : ℕ) (g : Stage) (r : Repair) (input h : List ℕ) → Stands g r h → most_stripe ≤ length h → length input ≤ feeds
      → length input ≤ (feed_all room listRoom feeds r input h).used
  feeds_use_all zero g r input h q holds l = omega arith
  feeds_use_all (suc feeds) g r input h q holds l =
      let first = feed_of r input h room listRoom in
      let f = feed_leads g r input h room listRoom q in
      let goes = feed_goes g r input h room listRoom q holds wide lines in
      let left : length (drop first.used input) ≤ feeds = rw length-drop (fewer (length input) first.used feeds l goes) in
      let still : most_stripe ≤ length first.held = rw (feed-length r input h room listRoom) holds in
      let rest = rw length-drop at (feeds_use_all feeds f.to first.state (drop first.used input) first.held f.stands still left) in
      omega arith

  pieces_write : (pieces : List (List ℕ)) (g : Stage) (r : Repair) (h : List ℕ) → Stands g r h → most_stripe ≤ length h
      → fed_output room listRoom r pieces h ≡ to_write g (joined pieces)
  pieces_write [] g r h q holds = close_writes r h listRoom lines g q
  pieces_write (piece ∷ pieces) g r h q holds =
      let all = feed_all room listRoom (length piece) r piece h in
      let f = feeds_lead (length piece) g r piece h q in
      let still : most_stripe ≤ length all.held = rw (feeds_length (length piece) r piece h) holds in
      ap (and_then (output_of all)) (pieces_write pieces f.to all.state all.held f.stands still)
      ∙ sym (f.writes (joined pieces))
      ∙ ap (λ (l : List ℕ). to_write g (l ++ joined pieces)) (take_all all.used piece (feeds_use_all (length piece) g r piece h q holds (omega arith)))

  pub pieces_write_the_repair : (h : List ℕ) → most_stripe ≤ length h → (pieces : List (List ℕ)) → fed_output room listRoom fresh_repair pieces h ≡ repair_of (joined pieces)
  pieces_write_the_repair h holds pieces = pieces_write pieces (in_header []) fresh_repair h (fresh-stands h) holds

-- ---- and a loop of feeds ends: wherever the calls lead to

pub record Standing (s : Repair) (h : List ℕ) : Type 0 where
  pub place : Stage
  pub stands : Stands place s h
  pub holds : most_stripe ≤ length h

pub reached_stands : {s : Repair} {h : List ℕ} → Reached s h → Standing s h
reached_stands (begun {h = h} holds) = record { place = in_header []; stands = fresh-stands h; holds = holds }
reached_stands (by_feed {s = s} {h = h} input room listRoom before) =
    let here = reached_stands before in
    let m = feed_leads here.place s input h room listRoom here.stands in
    record { place = m.to; stands = m.stands; holds = rw (feed-length s input h room listRoom) here.holds }

pub feed_goes_on : {s : Repair} {h : List ℕ} → Reached s h → (input : List ℕ) (room listRoom : ℕ) → most_stripe ≤ room → line_room ≤ listRoom → 0 < length input
    → 0 < (feed_of s input h room listRoom).used
feed_goes_on {s} {h} reached input room listRoom =
    let here = reached_stands reached in feed_goes here.place s input h room listRoom here.stands here.holds
