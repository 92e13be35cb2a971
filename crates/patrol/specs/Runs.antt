-- A run of the calls of a patrol: each call gets the state that the one before it left, and its answer and state are what its promise says.
-- Assumes nothing.
use Rattle.std.specs.Prelude.{◌≡◌, Bool, List, [], ◌∷◌, ℕ, length}
use Rattle.patrol.specs.declared.Patrol.{Patrol}
use Rattle.patrol.specs.declared.Patrolled.{Patrolled}
use Rattle.patrol.specs.Patrols.{turn_numbers, turn_state, request_numbers, seen_numbers}

-- a turn, idle or busy, and a request for a stripe out of turn, each with the bytes that it is lent
pub data Call : Type 0 where
  turn : Bool → List ℕ → Call
  request : ℕ → List ℕ → Call

-- from a state, by calls with these answers, to the last state
pub data PatrolRun : Patrol → List Call → List (List ℕ) → Patrol → Type 0 where
  ended : {s : Patrol} → PatrolRun s [] [] s
  turned : {s last : Patrol} {calls : List Call} {xs : List (List ℕ)} {idle : Bool} {bytes : List ℕ} (r : Patrolled)
      → seen_numbers r.seen ≡ turn_numbers s idle bytes
      → r.state ≡ turn_state s idle (length bytes)
      → PatrolRun r.state calls xs last
      → PatrolRun s (turn idle bytes ∷ calls) (seen_numbers r.seen ∷ xs) last
  requested : {s last : Patrol} {calls : List Call} {xs : List (List ℕ)} {stripe : ℕ} {bytes : List ℕ} (r : Patrolled)
      → seen_numbers r.seen ≡ request_numbers s stripe bytes
      → r.state ≡ s
      → PatrolRun r.state calls xs last
      → PatrolRun s (request stripe bytes ∷ calls) (seen_numbers r.seen ∷ xs) last

-- some run of these calls
pub record Ran (s : Patrol) (calls : List Call) : Type 0 where
  pub xs : List (List ℕ)
  pub last : Patrol
  pub run : PatrolRun s calls xs last
