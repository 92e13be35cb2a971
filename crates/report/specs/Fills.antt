-- A fill: calls of feed one after the other, until one uses nothing, as it does where no input or no room for a line is left.
-- Then a whole image in pieces, each filled until it is used up. Assumes nothing.
use Rattle.std.specs.Prelude.{ℕ, zero, suc, ◌+◌, ◌-◌, cond, List, [], ◌∷◌, ◌++◌, eqb, length, drop}
use Rattle.report.specs.declared.Report.{Report}
use Rattle.report.specs.Feeding.{Step, idle, feed_step, close_line}

-- a step, and another from where it ended
abbrev pub and_then : Step → Step → Step
and_then first rest = record { used = first.used + rest.used; state = rest.state; work = rest.work; line = first.line ++ rest.line }

-- at most so many calls: each gets what the one before it did not use, and the room that is left behind its line
unfoldable pub fill_steps : ℕ → Report → List ℕ → List ℕ → ℕ → Step
fill_steps zero r input work room = idle r work
fill_steps (suc calls) r input work room =
    let first = feed_step r input work room in
    let rest = fill_steps calls first.state (drop first.used input) first.work (room - length first.line) in
    cond (eqb first.used 0) first (and_then first rest)

-- of a state, an input, a work buffer, and the room for output: a call for each byte, and one that finds nothing left, are enough
unfoldable pub fill_step : Report → List ℕ → List ℕ → ℕ → Step
fill_step r input work room = fill_steps (suc (length input)) r input work room

-- ---- a whole input in pieces, where each fill has this room for output, and all that it wrote is taken away before the next

module _ (room : ℕ) where
  -- one piece, in at most so many fills, each of which gets what the one before it did not use
  abbrev pub fill_all : ℕ → Report → List ℕ → List ℕ → Step
  fill_all zero r input work = idle r work
  fill_all (suc fills) r input work =
      let first = fill_step r input work room in
      and_then first (fill_all fills first.state (drop first.used input) first.work)

  -- each piece in as many fills as it has bytes, then a close: all that is written
  abbrev pub fed_text : Report → List (List ℕ) → List ℕ → List ℕ
  fed_text r [] work = close_line r room
  fed_text r (piece ∷ pieces) work =
      let fed = fill_all (length piece) r piece work in
      fed.line ++ fed_text fed.state pieces fed.work
