-- Worked figures of a patrol: states written out, numbers computed from the definitions. Assumes nothing.
use mathlib.Core.Path.{◌≡◌, refl}
use mathlib.Core.Bool.{true, false}
use mathlib.Core.List.{[], ◌∷◌}
use Prim.Native.Nat.{ℕ}
use Rattle.std.specs.Prelude.{Ok}
use Rattle.format.specs.Methods.{format_of}
use Rattle.layout.specs.Arrays.{array_of, array_refusal, stripe_refusal}
use Rattle.layout.specs.declared.Array.{Array}
use Rattle.verdict.specs.declared.Verdict.TheVariants.{Clean, Bad}
use Rattle.patrol.specs.declared.Seen.TheVariants.{Stripe}
use Rattle.patrol.specs.Patrols.{patrol_at, begin_state, fit, following, turn_refusal, turn_numbers, turn_state, request_refusal, request_numbers, seen_numbers}
use Rattle.patrol.specs.Runs.{turn, request}
use Rattle.patrol.specs.EveryStripe.{stripe_named, scrubs, stripes_lent}

-- three members, so many stripes, so many in a row
abbrev three : ℕ → ℕ → Array
three stripes row = array_of 3 stripes 7 1 row

-- ---- begin: at stripe 0; refused, zeros throughout, the volume too

pub begins_at-first : (begin_state (three 4 2) ≡ patrol_at (three 4 2) 0) × (begin_state (three 4 3) ≡ patrol_at (array_of 0 0 0 0 0) 0)
unfolding begin_state array_refusal
begins_at-first = (refl, refl)

-- ---- which states are fit

pub fit_states : (fit (patrol_at (three 4 2) 3) ≡ true) × (fit (patrol_at (three 4 2) 4) ≡ false) × (fit (patrol_at (array_of 2 4 7 1 1) 0) ≡ false)
    × (fit (patrol_at (three 0 1) 0) ≡ false) × (fit (patrol_at (array_of 3 4 7 4 1) 0) ≡ false) × (fit (patrol_at (three 4 3) 0) ≡ false)
unfolding stripe_refusal array_refusal
fit_states = (refl, refl, refl, refl, refl, refl)

-- ---- a turn: 4 goes before 6, busy or idle; a busy turn may be lent anything

pub turn_order : (turn_refusal (patrol_at (three 4 1) 4) true 0 ≡ 4) × (turn_refusal (patrol_at (three 4 1) 4) false 0 ≡ 4)
    × (turn_refusal (patrol_at (three 4 1) 3) true 1559 ≡ 6) × (turn_refusal (patrol_at (three 4 1) 3) true 1561 ≡ 6)
    × (turn_refusal (patrol_at (three 4 1) 3) true 1560 ≡ 0) × (turn_refusal (patrol_at (three 4 1) 3) false 0 ≡ 0)
    × (turn_refusal (patrol_at (array_of 3 4 7 3 1) 3) true 1560 ≡ 6) × (turn_refusal (patrol_at (array_of 3 4 7 3 1) 3) true 12336 ≡ 0)
unfolding format_of turn_refusal stripe_refusal array_refusal
turn_order = (refl, refl, refl, refl, refl, refl, refl, refl)

-- an idle turn goes on by one stripe, not by a row, and after the last to the first; of one stripe it stays there
pub turn_moves : (turn_state (patrol_at (three 4 2) 0) true 1560 ≡ patrol_at (three 4 2) 1) × (turn_state (patrol_at (three 4 2) 2) true 1560 ≡ patrol_at (three 4 2) 3)
    × (turn_state (patrol_at (three 4 2) 3) true 1560 ≡ patrol_at (three 4 2) 0) × (turn_state (patrol_at (three 1 1) 0) true 1560 ≡ patrol_at (three 1 1) 0)
unfolding format_of turn_state turn_refusal following stripe_refusal array_refusal
turn_moves = (refl, refl, refl, refl)

-- a busy turn, and an idle one that is refused, stay
pub turn_stays : (turn_state (patrol_at (three 4 2) 1) false 1560 ≡ patrol_at (three 4 2) 1) × (turn_state (patrol_at (three 4 2) 1) true 1559 ≡ patrol_at (three 4 2) 1)
    × (turn_state (patrol_at (three 4 2) 4) true 1560 ≡ patrol_at (three 4 2) 4) × (turn_state (patrol_at (three 0 1) 0) false 1560 ≡ patrol_at (three 0 1) 0)
unfolding format_of turn_state turn_refusal following stripe_refusal array_refusal
turn_stays = (refl, refl, refl, refl)

-- and tell no stripe: busy, zeros after the first; refused, the number, and zeros after it
pub turn-tells : (turn_numbers (patrol_at (three 4 2) 1) false (8 ∷ 9 ∷ []) ≡ 1 ∷ 0 ∷ 0 ∷ 0 ∷ 0 ∷ 0 ∷ 0 ∷ 0 ∷ [])
    × (turn_numbers (patrol_at (three 4 2) 1) true (8 ∷ 9 ∷ []) ≡ 0 ∷ 6 ∷ 0 ∷ 0 ∷ 0 ∷ 0 ∷ 0 ∷ 0 ∷ [])
    × (turn_numbers (patrol_at (three 4 2) 4) false [] ≡ 0 ∷ 4 ∷ 0 ∷ 0 ∷ 0 ∷ 0 ∷ 0 ∷ 0 ∷ [])
unfolding format_of turn_numbers turn_refusal stripe_refusal array_refusal
turn-tells = (refl, refl, refl)

-- ---- a request: 3 goes before 4, 4 before 6; what is past the end is told by the state's own number of stripes, fit or not

pub request_order : (request_refusal (patrol_at (three 4 1) 4) 4 0 ≡ 3) × (request_refusal (patrol_at (three 4 1) 4) 3 0 ≡ 4)
    × (request_refusal (patrol_at (three 0 1) 0) 0 0 ≡ 3) × (request_refusal (patrol_at (array_of 2 4 7 1 1) 0) 3 0 ≡ 4)
    × (request_refusal (patrol_at (three 4 1) 0) 4 1560 ≡ 3) × (request_refusal (patrol_at (three 4 1) 0) 3 1559 ≡ 6)
    × (request_refusal (patrol_at (three 4 1) 0) 3 1560 ≡ 0)
unfolding format_of request_refusal turn_refusal stripe_refusal array_refusal
request_order = (refl, refl, refl, refl, refl, refl, refl)

pub request-tells : (request_numbers (patrol_at (three 4 2) 1) 4 (8 ∷ 9 ∷ []) ≡ 0 ∷ 3 ∷ 0 ∷ 0 ∷ 0 ∷ 0 ∷ 0 ∷ 0 ∷ [])
    × (request_numbers (patrol_at (three 4 2) 1) 2 (8 ∷ 9 ∷ []) ≡ 0 ∷ 6 ∷ 0 ∷ 0 ∷ 0 ∷ 0 ∷ 0 ∷ 0 ∷ [])
unfolding format_of request_numbers request_refusal turn_refusal stripe_refusal array_refusal
request-tells = (refl, refl)

-- ---- an answer that names a stripe: done, no refusal, the verdict, 1, the stripe

pub seen-names : (seen_numbers (Ok (Stripe 5 Clean)) ≡ 1 ∷ 0 ∷ 0 ∷ 0 ∷ 0 ∷ 0 ∷ 1 ∷ 5 ∷ []) × (seen_numbers (Ok (Stripe 0 (Bad 2 1 4))) ≡ 1 ∷ 0 ∷ 1 ∷ 2 ∷ 1 ∷ 4 ∷ 1 ∷ 0 ∷ [])
    × (stripe_named (record { lent = []; told = seen_numbers (Ok (Stripe 5 (Bad 2 1 4))) }) ≡ 5)
seen-names = (refl, refl, refl)

-- ---- which calls the theorem speaks of: of a busy turn, an idle one, a request, an idle one that is refused and an idle one, the second and the last

pub scrubs_picked :
    scrubs (turn false (7 ∷ []) ∷ turn true (8 ∷ []) ∷ request 2 (9 ∷ []) ∷ turn true [] ∷ turn true (10 ∷ []) ∷ [])
    ((1 ∷ 21 ∷ []) ∷ (1 ∷ 22 ∷ []) ∷ (1 ∷ 23 ∷ []) ∷ (0 ∷ 6 ∷ []) ∷ (1 ∷ 24 ∷ []) ∷ [])
    ≡ record { lent = 8 ∷ []; told = 1 ∷ 22 ∷ [] } ∷ record { lent = 10 ∷ []; told = 1 ∷ 24 ∷ [] } ∷ []
scrubs_picked = refl

-- of no members a stripe has no bytes
pub stripes_picked : stripes_lent (array_of 0 0 0 1 0) (turn true [] ∷ turn false [] ∷ turn true (7 ∷ []) ∷ request 2 [] ∷ []) ≡ [] ∷ []
unfolding format_of
stripes_picked = refl
