-- A feed: steps one after the other, until one uses nothing, as it does where no input or no room is left. Assumes nothing.
use Rattle.std.specs.Prelude.{ℕ, zero, suc, ◌+◌, ◌-◌, cond, List, ◌++◌, eqb, length, drop}
use Rattle.repair.specs.declared.Repair.{Repair}
use Rattle.repair.specs.Feeding.{Step, idle, step_of}

-- a step, and another from where it ended
abbrev pub step_then : Step → Step → Step
step_then first rest =
    record { used = first.used + rest.used; state = rest.state; held = rest.held; image = first.image ++ rest.image; list = first.list ++ rest.list }

-- at most so many steps: each gets what the one before it did not use, and the room that is left behind what was written
unfoldable pub feed_steps : ℕ → Repair → List ℕ → List ℕ → ℕ → ℕ → Step
feed_steps zero r input held room listRoom = idle r held
feed_steps (suc steps) r input held room listRoom =
    let first = step_of r input held room listRoom in
    let rest = feed_steps steps first.state (drop first.used input) first.held (room - length first.image) (listRoom - length first.list) in
    cond (eqb first.used 0) first (step_then first rest)

-- of a state, an input, the buffer that holds, and the room for the image and for the list: a step for each byte, and one that finds nothing
-- left, are enough
unfoldable pub feed_of : Repair → List ℕ → List ℕ → ℕ → ℕ → Step
feed_of r input held room listRoom = feed_steps (suc (length input)) r input held room listRoom
