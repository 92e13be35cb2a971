-- What a call is to answer is the numbers of some answer, so every list of calls has a run, from any state: what is said of runs is said of every list
-- of calls. Assumes nothing.
use mathlib.Core.Path.{◌≡◌, refl, sym, ap, ◌∙◌}
use mathlib.Core.Bool.{Bool, true, false}
use mathlib.Core.List.{List, [], ◌∷◌, ◌++◌}
use mathlib.Core.Logic.{◌≢◌}
use Prim.Native.Nat.{ℕ}
use native.Mathlib.Decide.{ℕ_discrete}
use lib.ListN.{length, get_or}
use Rattle.layout.specs.declared.Array.{Array}
use Rattle.verdict.specs.declared.Verdict.{Verdict}
use Rattle.std.specs.Prelude.{Result, Ok, Err}
use Rattle.refusal.specs.Refusals.{number}
use Rattle.refusal.specs.declared.Refusal.{Refusal}
use Rattle.refusal.specs.declared.Refusal.TheVariants.{Place, State, Length}
use Rattle.verdict.specs.Verdicts.{scrubbed_numbers}
use Rattle.verdict.proofs.Occurring.{some-verdict}
use Rattle.stripe.specs.Verdicts.{scrub_refusal, scrub_numbers}
use Rattle.stripe.proofs.Scrubs.{scrub_answered}
use Rattle.patrol.specs.declared.Patrol.{Patrol}
use Rattle.patrol.specs.declared.Patrolled.{Patrolled}
use Rattle.patrol.specs.declared.Seen.{Seen}
use Rattle.patrol.specs.declared.Seen.TheVariants.{Nothing, Stripe}
use Rattle.patrol.specs.Patrols.{turn_refusal, turn_numbers, turn_state, request_refusal, request_numbers, scrub_of, seen_numbers, refused_by}
use Rattle.patrol.specs.Rows.{TurnRow, RequestRow, no_stripe, unfit, other_length, done}
use Rattle.patrol.specs.Runs.{Call, turn, request, Ran, ended, turned, requested}
use Rattle.patrol.proofs.Injective.{apart}
use Rattle.patrol.proofs.Rows.{turn_takes, request_takes, turn_refused_exactly, request_refused_exactly}
use Rattle.patrol.proofs.Answers.{turn_refused, busy_sees, idle_sees, request_refused, request_sees}

-- a scrub that nothing refuses tells a verdict
pub record Told (a : Array) (stripe : ℕ) (bytes : List ℕ) : Type 0 where
  pub verdict : Verdict
  pub same : scrubbed_numbers (Ok verdict) ≡ scrub_numbers a stripe bytes

pub some_scrub : (a : Array) (stripe : ℕ) (bytes : List ℕ) → scrub_refusal a stripe (length bytes) ≡ 0 → Told a stripe bytes
some_scrub a stripe bytes sound =
    let v = some-verdict _ _ in
    record { verdict = v.verdict; same = ap (λ (l : List ℕ). 1 ∷ 0 ∷ l) v.same ∙ sym (scrub_answered a stripe bytes sound) }

pub some-seen : (a : Array) (stripe : ℕ) (bytes : List ℕ) (told : Told a stripe bytes) → seen_numbers (Ok (Stripe stripe told.verdict)) ≡ scrub_of a stripe bytes
unfolding scrub_of
some-seen a stripe bytes told = ap (λ (l : List ℕ). l ++ (1 ∷ stripe ∷ [])) told.same

-- its numbers begin with 1, done, and end with the stripe's
module _ (a : Array) (stripe : ℕ) (bytes : List ℕ) (sound : scrub_refusal a stripe (length bytes) ≡ 0) where
  as_seen : seen_numbers (Ok (Stripe stripe (some_scrub a stripe bytes sound).verdict)) ≡ scrub_of a stripe bytes
  as_seen = some-seen a stripe bytes (some_scrub a stripe bytes sound)

  pub scrub_done : get_or (scrub_of a stripe bytes) 0 0 ≡ 1
  scrub_done = ap (λ (l : List ℕ). get_or l 0 0) (sym as_seen)

  pub scrub_named : get_or (scrub_of a stripe bytes) 7 0 ≡ stripe
  scrub_named = ap (λ (l : List ℕ). get_or l 7 0) (sym as_seen) ∙ (apart (some_scrub a stripe bytes sound).verdict stripe).stripe

-- a number that refuses is that of a reason
turn_reason : (s : Patrol) (idle : Bool) (lent : ℕ) → turn_refusal s idle lent ≢ 0 → (r : Refusal) × (number r ≡ turn_refusal s idle lent)
turn_reason s idle lent h = go ((turn_refused_exactly s idle lent (turn_refusal s idle lent)).0 refl) h
  where
    go : {n : ℕ} → TurnRow s idle lent n → n ≢ 0 → (r : Refusal) × (number r ≡ n)
    go (unfit f) h = (State, refl)
    go (other_length f b l) h = (Length, refl)
    go (done f l) h = absurd (h refl)

request_reason : (s : Patrol) (stripe lent : ℕ) → request_refusal s stripe lent ≢ 0 → (r : Refusal) × (number r ≡ request_refusal s stripe lent)
request_reason s stripe lent h = go ((request_refused_exactly s stripe lent (request_refusal s stripe lent)).0 refl) h
  where
    go : {n : ℕ} → RequestRow s stripe lent n → n ≢ 0 → (r : Refusal) × (number r ≡ n)
    go (no_stripe b) h = (Place, refl)
    go (unfit b f) h = (State, refl)
    go (other_length b f l) h = (Length, refl)
    go (done b f l) h = absurd (h refl)

record SomeSeen (numbers : List ℕ) : Type 0 where
  given : Result Seen Refusal
  same : seen_numbers given ≡ numbers

some_turn : (s : Patrol) (idle : Bool) (bytes : List ℕ) → SomeSeen (turn_numbers s idle bytes)
some_turn s idle bytes = go idle (ℕ_discrete (turn_refusal s idle (length bytes)) 0)
  where
    go : (i : Bool) → Dec (turn_refusal s i (length bytes) ≡ 0) → SomeSeen (turn_numbers s i bytes)
    go i (no h) =
        let r = turn_reason s i (length bytes) h in
        record { given = Err r.0; same = ap refused_by r.1 ∙ sym (turn_refused s i bytes h) }
    go false (yes e) = record { given = Ok Nothing; same = sym (busy_sees s bytes e) }
    go true (yes e) =
        let told = some_scrub s.array s.next bytes (turn_takes s (length bytes) e) in
        record { given = Ok (Stripe _ told.verdict); same = some-seen s.array s.next bytes told ∙ sym (idle_sees s bytes e) }

some-request : (s : Patrol) (stripe : ℕ) (bytes : List ℕ) → SomeSeen (request_numbers s stripe bytes)
some-request s stripe bytes = go (ℕ_discrete (request_refusal s stripe (length bytes)) 0)
  where
    go : Dec (request_refusal s stripe (length bytes) ≡ 0) → SomeSeen (request_numbers s stripe bytes)
    go (no h) =
        let r = request_reason s stripe (length bytes) h in
        record { given = Err r.0; same = ap refused_by r.1 ∙ sym (request_refused s stripe bytes h) }
    go (yes e) =
        let told = some_scrub s.array stripe bytes (request_takes s stripe (length bytes) e) in
        record { given = Ok (Stripe _ told.verdict); same = some-seen s.array stripe bytes told ∙ sym (request_sees s stripe bytes e) }

pub every_list_runs : (calls : List Call) (s : Patrol) → Ran s calls
every_list_runs [] s = record { xs = []; last = s; run = ended }
every_list_runs (turn idle bytes ∷ calls) s =
    let x = some_turn s idle bytes in
    let r : Patrolled = record { seen = x.given; state = turn_state s idle (length bytes) } in
    let rest = every_list_runs calls (turn_state s idle (length bytes)) in
    record { xs = seen_numbers x.given ∷ rest.xs; last = rest.last; run = turned r x.same refl rest.run }
every_list_runs (request stripe bytes ∷ calls) s =
    let x = some-request s stripe bytes in
    let r : Patrolled = record { seen = x.given; state = s } in
    let rest = every_list_runs calls s in
    record { xs = seen_numbers x.given ∷ rest.xs; last = rest.last; run = requested r x.same refl rest.run }
