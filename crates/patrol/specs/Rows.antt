-- The rows of the table of refusals, for the calls of a patrol: each number with its row's condition where no earlier row holds; 0 where none does.
-- A begin has the array's own (layout). Assumes nothing.
use Rattle.std.specs.Prelude.{◌≡◌, Bool, true, ◌≢◌, ℕ, ◌≤◌, ◌<◌}
use Rattle.layout.specs.Ranges.{SoundStripe}
use Rattle.stripe.specs.Stripes.{stripe_length}
use Rattle.patrol.specs.declared.Patrol.{Patrol}

-- a fit state: the array's numbers are in range, and its next stripe is one of the array's
abbrev pub FitPatrol : Patrol → Type 0
FitPatrol s = SoundStripe s.array s.next

pub data TurnRow (s : Patrol) (idle : Bool) (lent : ℕ) : ℕ → Type 0 where
  unfit : ¬ FitPatrol s → TurnRow s idle lent 4
  other_length : FitPatrol s → idle ≡ true → lent ≢ stripe_length s.array → TurnRow s idle lent 6
  done : FitPatrol s → (idle ≡ true → lent ≡ stripe_length s.array) → TurnRow s idle lent 0

pub data RequestRow (s : Patrol) (stripe lent : ℕ) : ℕ → Type 0 where
  no_stripe : s.array.stripes ≤ stripe → RequestRow s stripe lent 3
  unfit : stripe < s.array.stripes → ¬ FitPatrol s → RequestRow s stripe lent 4
  other_length : stripe < s.array.stripes → FitPatrol s → lent ≢ stripe_length s.array → RequestRow s stripe lent 6
  done : stripe < s.array.stripes → FitPatrol s → lent ≡ stripe_length s.array → RequestRow s stripe lent 0
