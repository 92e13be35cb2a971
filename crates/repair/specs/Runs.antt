-- A run of calls of feed, and then one of close: each gets the state and the buffer that holds as the one before it left them, and its answer and
-- its buffers are what its promise says. And which states and buffers the calls lead to. Assumes nothing.
use Rattle.std.specs.Prelude.{◌≡◌, List, [], ◌∷◌, ◌++◌, ℕ, zero, suc, ◌≤◌, length, take, drop}
use Rattle.std.proofs.lemmas.List.Edits.{sets}
use Rattle.format.specs.Formats.{most_stripe}
use Rattle.lines.specs.Lines.{line_room}
use Rattle.repair.specs.declared.Repair.{Repair}
use Rattle.repair.specs.declared.Fed.{Fed}
use Rattle.repair.specs.Repairs.{Output, and_then}
use Rattle.repair.specs.Feeding.{Step, Does, idle, fresh_repair, closing}
use Rattle.repair.specs.Feeds.{step_then, feed_of}

-- from a state and a buffer that holds, over the bytes that the calls use, to what they write; each call has an input, and buffers for its output,
-- of its own
pub data RepairRun : Repair → List ℕ → List ℕ → Output → Type 0 where
  closed : {s : Repair} {h list' : List ℕ} (list : List ℕ) (listed : ℕ)
      → line_room ≤ length list
      → listed ≡ length (closing s (length list))
      → list' ≡ sets list 0 (closing s (length list))
      → RepairRun s h [] (record { image = []; list = take listed list' })
  fed : {s : Repair} {h h' image' list' rest : List ℕ} {out : Output} (input image list : List ℕ) (r : Fed)
      → Does (feed_of s input h (length image) (length list)) r h' image image' list list'
      → RepairRun r.state h' rest out
      → RepairRun s h (take r.used input ++ rest) (and_then (record { image = take r.written image'; list = take r.listed list' }) out)

-- from a new repair, with a buffer that holds of enough bytes for sixteen blocks of any format, by calls of feed
pub data Reached : Repair → List ℕ → Type 0 where
  begun : {h : List ℕ} → most_stripe ≤ length h → Reached fresh_repair h
  by_feed : {s : Repair} {h : List ℕ} (input : List ℕ) (room listRoom : ℕ) → Reached s h
      → Reached (feed_of s input h room listRoom).state (feed_of s input h room listRoom).held

-- ---- a whole input in pieces, where each feed has this room for its output, and all that it wrote is taken away before the next

module _ (room listRoom : ℕ) where
  -- one piece, in at most so many feeds, each of which gets what the one before it did not use
  abbrev pub feed_all : ℕ → Repair → List ℕ → List ℕ → Step
  feed_all zero r input h = idle r h
  feed_all (suc feeds) r input h =
      let first = feed_of r input h room listRoom in
      step_then first (feed_all feeds first.state (drop first.used input) first.held)

  -- each piece in as many feeds as it has bytes, then a close: all that is written
  abbrev pub fed_output : Repair → List (List ℕ) → List ℕ → Output
  fed_output r [] h = record { image = []; list = closing r listRoom }
  fed_output r (piece ∷ pieces) h =
      let all = feed_all (length piece) r piece h in
      and_then (record { image = all.image; list = all.list }) (fed_output all.state pieces all.held)
