-- What may happen to a stripe in its life, and what the calls give back. Assumes nothing.
use Rattle.std.specs.Prelude.{ℕ, List, [], ◌∷◌}

-- an update of a block with new data; a read of a block into a buffer; a rebuild of a member; and a loss: a member's block replaced by bytes
pub data Event : Type 0 where
  update : ℕ → List ℕ → Event
  read : ℕ → List ℕ → Event
  rebuild : ℕ → Event
  lose : ℕ → List ℕ → Event

-- an answer in numbers, and what a read left in its buffer
pub record Answer : Type 0 where
  pub numbers : List ℕ
  pub left : List ℕ

-- the answer of an update or a rebuild is its refusal number; a loss is no call, and nobody answers
abbrev pub numbered : ℕ → Answer
numbered number = record { numbers = number ∷ []; left = [] }

abbrev pub unanswered : Answer
unanswered = record { numbers = []; left = [] }
