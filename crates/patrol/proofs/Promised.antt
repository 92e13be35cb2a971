-- The theorem on the code's own promises. `Learnt` is what the kit makes of a function's `ensures`: all that a caller may count on. From it a call of
-- `turn` or `request` is a step of a run, and an accepted call of `begin` leaves a fit state at stripe 0; and of every run EveryStripe holds.
-- Assumes nothing.
use mathlib.Core.Path.{◌≡◌, sym, ◌∙◌, subst}
use mathlib.Core.List.{List, ◌∷◌}
use Prim.Native.Nat.{ℕ}
use contract.Lifetimes.{Lfts}
use borrow.Fn.Kinds.{Dens, ended_of}
use denote.Triple.Clauses.{AtExit}
use Rattle.refusal.specs.Refusals.{told}
use Rattle.layout.proofs.Ranges.{array_sound}
use Rattle.patrol.specs.declared.Patrol.{Patrol}
use Rattle.patrol.specs.declared.Begun.{Begun}
use Rattle.patrol.specs.declared.Patrolled.{Patrolled}
use Rattle.patrol.specs.Patrols.{patrol_at, seen_numbers}
use Rattle.patrol.specs.Rows.{FitPatrol}
use Rattle.patrol.specs.Runs.{Call, turn, request, PatrolRun, turned, requested}
use Rattle.patrol.specs.EveryStripe.{EveryStripe}
use Rattle.patrol.proofs.Answers.{begun}
use Rattle.patrol.proofs.Theorem.{run-scrubs_every_stripe}
use Rattle.patrol.proofs.begin.Kinds as begin-kinds
use Rattle.patrol.proofs.begin.Reads as begin-reads
use Rattle.patrol.proofs.turn.Kinds as turn-kinds
use Rattle.patrol.proofs.turn.Reads as turn-reads
use Rattle.patrol.proofs.request.Kinds as request-kinds
use Rattle.patrol.proofs.request.Reads as request-reads

-- A call is its arguments a, its result r, and e, what its borrows hold at the end; a is in the order of the parameters.
-- Of `turn`: .0 the state, .1 .0 whether it is idle, .1 .1 .0 the bytes
module _ (κs : Lfts 1) (a : Dens κs turn-kinds.ps) (r : Patrolled) (e : AtExit (ended_of 1 turn-kinds.ps turn-kinds.r) κs) where
  pub turn_runs : turn-reads.Learnt κs a r e → {calls : List Call} {xs : List (List ℕ)} {last : Patrol}
      → PatrolRun r.state calls xs last
      → PatrolRun a.0 (turn a.1.0 a.1.1.0.now ∷ calls) (seen_numbers r.seen ∷ xs) last
  turn_runs promised run = turned r promised.0 promised.1 run

-- of `request`: .0 the state, .1 .0 the stripe, .1 .1 .0 the bytes
module _ (κs : Lfts 1) (a : Dens κs request-kinds.ps) (r : Patrolled) (e : AtExit (ended_of 1 request-kinds.ps request-kinds.r) κs) where
  pub request_runs : request-reads.Learnt κs a r e → {calls : List Call} {xs : List (List ℕ)} {last : Patrol}
      → PatrolRun r.state calls xs last
      → PatrolRun a.0 (request a.1.0 a.1.1.0.now ∷ calls) (seen_numbers r.seen ∷ xs) last
  request_runs promised run = requested r promised.0 promised.1 run

-- of `begin`: .0 the array. It is accepted
module _ (κs : Lfts 0) (a : Dens κs begin-kinds.ps) (r : Begun) (e : AtExit (ended_of 0 begin-kinds.ps begin-kinds.r) κs)
    (promised : begin-reads.Learnt κs a r e) (accepted : told r.answer ≡ 0) where
  begins : r.state ≡ patrol_at a.0 0
  begins = promised.1 ∙ begun a.0 (sym promised.0 ∙ accepted)

  pub begins_fit : FitPatrol r.state
  begins_fit =
      let sound = array_sound a.0 (sym promised.0 ∙ accepted) in
      subst FitPatrol (sym begins) (record { array = sound; here = sound.some })

  -- any run of calls from the state that it left
  pub patrol_scrubs_every_stripe : {calls : List Call} {xs : List (List ℕ)} {last : Patrol} → PatrolRun r.state calls xs last
      → EveryStripe (patrol_at a.0 0) calls xs last
  patrol_scrubs_every_stripe {calls} {xs} {last} run =
      subst (λ (s : Patrol). EveryStripe s calls xs last) begins (run-scrubs_every_stripe begins_fit run)
