-- The same ledger told without indices: what was last accepted for a block number, or, if nothing was, what was sealed. Assumes nothing.
use Rattle.std.specs.Prelude.{cond, ◌&&◌, List, [], ◌∷◌, ℕ, eqb}
use Rattle.layout.specs.declared.Array.{Array}
use Rattle.life.specs.Events.{Event, update, read, rebuild, lose, Answer}
use Rattle.life.specs.Ledger.{accepted, entered}

-- the contents after events with these answers
abbrev pub kept_after : Array → List (List ℕ) → List Event → List Answer → List (List ℕ)
kept_after a contents [] answers = contents
kept_after a contents (e ∷ events) [] = contents
kept_after a contents (e ∷ events) (x ∷ answers) = kept_after a (entered a contents e x) events answers

-- the data that an event makes the last accepted for a block
abbrev pub latest : ℕ → List ℕ → Event → Answer → List ℕ
latest block kept (update other new) x = cond (eqb other block && accepted x) new kept
latest block kept (read other out) x = kept
latest block kept (rebuild member) x = kept
latest block kept (lose member lost) x = kept

abbrev pub last_accepted : ℕ → List ℕ → List Event → List Answer → List ℕ
last_accepted block kept [] answers = kept
last_accepted block kept (e ∷ events) [] = kept
last_accepted block kept (e ∷ events) (x ∷ answers) = last_accepted block (latest block kept e x) events answers
