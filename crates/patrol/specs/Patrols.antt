-- The calls of a patrol: for each its refusal number, its answer in numbers, and the state that it leaves, on any state. Assumes nothing.
use Rattle.std.specs.Prelude.{ℕ, ◌+◌, ◌%◌, Bool, true, not, cond, ◌&&◌, List, [], ◌∷◌, ◌++◌, eqb, ltb, length, Result, Ok, Err}
use Rattle.layout.specs.Answers.{refuse}
use Rattle.layout.specs.Arrays.{no_array, array_refusal, stripe_refusal}
use Rattle.layout.specs.declared.Array.{Array}
use Rattle.refusal.specs.Refusals.{number}
use Rattle.refusal.specs.declared.Refusal.{Refusal}
use Rattle.verdict.specs.Verdicts.{scrubbed_numbers}
use Rattle.stripe.specs.Stripes.{stripe_length}
use Rattle.stripe.specs.Verdicts.{scrub_numbers}
use Rattle.patrol.specs.declared.Patrol.{Patrol}
use Rattle.patrol.specs.declared.Seen.{Seen}
use Rattle.patrol.specs.declared.Seen.TheVariants.{Nothing, Stripe}

-- a patrol of an array that comes to this stripe next
abbrev pub patrol_at : Array → ℕ → Patrol
patrol_at a next = record { array = a; next = next }

-- ---- begin: at stripe 0; refused, zeros throughout

unfoldable pub begin_state : Array → Patrol
begin_state a = cond (eqb (array_refusal a) 0) (patrol_at a 0) (patrol_at no_array 0)

-- ---- a state is fit: the array's numbers are in range, and the next stripe is one of the array's

abbrev pub fit : Patrol → Bool
fit s = eqb (stripe_refusal s.array s.next) 0

-- ---- refusals: 4 for an unfit state; 6 where a stripe is to be looked at and the bytes are not as many as it has. A request asks first whether its own
-- number is one of the array's, as the state has it: 3

unfoldable pub turn_refusal : Patrol → Bool → ℕ → ℕ
turn_refusal s idle lent = refuse (not (fit s)) 4 (refuse (idle && not (eqb lent (stripe_length s.array))) 6 0)

unfoldable pub request_refusal : Patrol → ℕ → ℕ → ℕ
request_refusal s stripe lent = refuse (not (ltb stripe s.array.stripes)) 3 (turn_refusal s true lent)

-- ---- answers in numbers: all of a scrub's, then 1 and the stripe where one was looked at, else twice 0; every value is 0 at a refusal and at a busy turn

abbrev pub refused_by : ℕ → List ℕ
refused_by number = 0 ∷ number ∷ 0 ∷ 0 ∷ 0 ∷ 0 ∷ 0 ∷ 0 ∷ []

abbrev pub nothing : List ℕ
nothing = 1 ∷ 0 ∷ 0 ∷ 0 ∷ 0 ∷ 0 ∷ 0 ∷ 0 ∷ []

abbrev pub seen_numbers : Result Seen Refusal → List ℕ
seen_numbers (Err refusal) = refused_by (number refusal)
seen_numbers (Ok Nothing) = nothing
seen_numbers (Ok (Stripe stripe v)) = scrubbed_numbers (Ok v) ++ (1 ∷ stripe ∷ [])

-- the full scrub of bytes as a stripe, with its number
unfoldable pub scrub_of : Array → ℕ → List ℕ → List ℕ
scrub_of a stripe bytes = scrub_numbers a stripe bytes ++ (1 ∷ stripe ∷ [])

-- these numbers, where nothing is refused
abbrev pub unless : ℕ → List ℕ → List ℕ
unless refusal numbers = cond (eqb refusal 0) numbers (refused_by refusal)

unfoldable pub turn_numbers : Patrol → Bool → List ℕ → List ℕ
turn_numbers s idle bytes = unless (turn_refusal s idle (length bytes)) (cond idle (scrub_of s.array s.next bytes) nothing)

unfoldable pub request_numbers : Patrol → ℕ → List ℕ → List ℕ
request_numbers s stripe bytes = unless (request_refusal s stripe (length bytes)) (scrub_of s.array stripe bytes)

-- ---- the state that a turn leaves: an idle one that is accepted goes on to the stripe that follows, and after the last to the first; any other
-- leaves it as it came, and so does every request

unfoldable pub following : Array → ℕ → ℕ
following a stripe = (stripe + 1) % a.stripes

unfoldable pub turn_state : Patrol → Bool → ℕ → Patrol
turn_state s idle lent = cond (idle && eqb (turn_refusal s idle lent) 0) (patrol_at s.array (following s.array s.next)) s
