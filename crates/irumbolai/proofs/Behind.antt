-- The number of a stripe stands behind the verdict's numbers and changes none of them, so what a patrol answers fits its fields as what a scrub answers does.
-- Assumes nothing.
use mathlib.Core.Path.{◌≡◌, refl, sym, subst}
use mathlib.Core.Bool.{Bool, true, false}
use mathlib.Core.List.{List, ◌∷◌}
use Prim.Native.Nat.{ℕ}
use native.Mathlib.Decide.{ℕ_discrete}
use native.Mathlib.Omega.{arith}
use lib.ListN.{length, get_or}
use Rattle.layout.specs.declared.Array.{Array}
use Rattle.verdict.specs.declared.Verdict.{Verdict}
use Rattle.verdict.specs.declared.Verdict.TheVariants.{Clean, Bad, Torn, Unchecked}
use Rattle.verdict.specs.Verdicts.{verdict_numbers}
use Rattle.stripe.specs.Verdicts.{scrub_refusal}
use Rattle.patrol.specs.declared.Patrol.{Patrol}
use Rattle.patrol.specs.declared.Seen.TheVariants.{Stripe}
use Rattle.std.specs.Prelude.{Ok}
use Rattle.patrol.specs.Patrols.{turn_refusal, turn_numbers, request_refusal, request_numbers, scrub_of, seen_numbers, refused_by}
use Rattle.patrol.proofs.Rows.{turn_takes, request_takes}
use Rattle.patrol.proofs.Answers.{turn_refused, busy_sees, idle_sees, request_refused, request_sees}
use Rattle.patrol.proofs.Occurring.{some_scrub, some-seen}
use Rattle.irumbolai.specs.Answers.{unflagged, spread, Small}
use Rattle.irumbolai.proofs.Verdicts.{scrub_small}

pub record Unchanged (v : Verdict) (number : ℕ) : Type 0 where
  pub first : get_or (seen_numbers (Ok (Stripe number v))) 3 0 ≡ get_or (verdict_numbers v) 1 0
  pub count : get_or (seen_numbers (Ok (Stripe number v))) 4 0 ≡ get_or (verdict_numbers v) 2 0
  pub fields : spread (unflagged (seen_numbers (Ok (Stripe number v)))) ≡ spread (0 ∷ verdict_numbers v)

pub unchanged : (v : Verdict) (number : ℕ) → Unchanged v number
unchanged Clean number = record { first = refl; count = refl; fields = refl }
unchanged (Bad member many faults) number = record { first = refl; count = refl; fields = refl }
unchanged (Torn place) number = record { first = refl; count = refl; fields = refl }
unchanged (Unchecked member many) number = record { first = refl; count = refl; fields = refl }

refused_small : (number : ℕ) → Small (refused_by number)
refused_small number = record { first = omega arith; count = omega arith }

seen_small : (a : Array) (stripe : ℕ) (bytes : List ℕ) → scrub_refusal a stripe (length bytes) ≡ 0 → Small (scrub_of a stripe bytes)
seen_small a stripe bytes sound =
    let told = some_scrub a stripe bytes sound in
    let small = subst Small (sym told.same) (scrub_small a stripe bytes) in
    let same = unchanged told.verdict stripe in
    subst Small (some-seen a stripe bytes told) (record { first = rw same.first small.first; count = rw same.count small.count })

pub turn_small : (s : Patrol) (idle : Bool) (bytes : List ℕ) → Small (turn_numbers s idle bytes)
turn_small s idle bytes = go idle (ℕ_discrete (turn_refusal s idle (length bytes)) 0)
  where
    go : (i : Bool) → Dec (turn_refusal s i (length bytes) ≡ 0) → Small (turn_numbers s i bytes)
    go i (no h) = subst Small (sym (turn_refused s i bytes h)) (refused_small (turn_refusal s i (length bytes)))
    go false (yes e) = subst Small (sym (busy_sees s bytes e)) (record { first = omega arith; count = omega arith })
    go true (yes e) = subst Small (sym (idle_sees s bytes e)) (seen_small s.array s.next bytes (turn_takes s (length bytes) e))

pub request_small : (s : Patrol) (stripe : ℕ) (bytes : List ℕ) → Small (request_numbers s stripe bytes)
request_small s stripe bytes = go (ℕ_discrete (request_refusal s stripe (length bytes)) 0)
  where
    go : Dec (request_refusal s stripe (length bytes) ≡ 0) → Small (request_numbers s stripe bytes)
    go (no h) = subst Small (sym (request_refused s stripe bytes h)) (refused_small (request_refusal s stripe (length bytes)))
    go (yes e) = subst Small (sym (request_sees s stripe bytes e)) (seen_small s.array stripe bytes (request_takes s stripe (length bytes) e))
