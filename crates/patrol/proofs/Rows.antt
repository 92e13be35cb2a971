-- Each call of a patrol gives a refusal number exactly where its row of the table holds (specs/Rows), and 0 exactly where none does; and a stripe that is
-- to be looked at is then one that a scrub takes. Assumes nothing.
use mathlib.Core.Path.{◌≡◌, refl, sym, ◌∙◌}
use mathlib.Core.Bool.{Bool, true, false, not, ◌&&◌, true≢false}
use mathlib.Core.Logic.{◌↔◌}
use Prim.Native.Nat.{ℕ}
use borrow.Author.Tests.{ltb-true, ltb-false, lt-ltb, le-ltb, eqb-true, eqb-false, eq-eqb, ne_eqb}
use lib.Dec.{eqb, ltb}
use Rattle.layout.specs.Answers.{refuse}
use Rattle.layout.specs.Arrays.{stripe_refusal}
use Rattle.layout.proofs.Ranges.{stripe_sound, sound_stripe}
use Rattle.stripe.specs.Stripes.{stripe_length}
use Rattle.stripe.specs.Verdicts.{scrub_refusal}
use Rattle.stripe.proofs.Scrubs.{sound_scrub}
use Rattle.patrol.specs.declared.Patrol.{Patrol}
use Rattle.patrol.specs.Patrols.{fit, turn_refusal, request_refusal}
use Rattle.patrol.specs.Rows.{FitPatrol, TurnRow, RequestRow, no_stripe, unfit, other_length, done}

module _ (s : Patrol) where
  pub fit_exactly : (fit s ≡ true) ↔ FitPatrol s
  fit_exactly = (
    λ e. stripe_sound s.array s.next (eqb-true (stripe_refusal s.array s.next) 0 e),
    λ h. eq-eqb (stripe_refusal s.array s.next) 0 (sound_stripe s.array s.next h),
  )

  not-fit : fit s ≡ false → ¬ FitPatrol s
  not-fit e h = true≢false (sym (fit_exactly.1 h) ∙ e)

  unfit_fails : ¬ FitPatrol s → fit s ≡ false
  unfit_fails h = go (fit s) refl
    where
      go : (f : Bool) → fit s ≡ f → f ≡ false
      go true e = absurd (h (fit_exactly.0 e))
      go false e = refl

-- ---- turn

module _ (s : Patrol) (idle : Bool) (lent : ℕ) where
  turn_row : TurnRow s idle lent (turn_refusal s idle lent)
  unfolding turn_refusal
  turn_row = go (fit s) refl idle refl (eqb lent (stripe_length s.array)) refl
    where
      go : (f : Bool) → fit s ≡ f → (i : Bool) → idle ≡ i → (l : Bool) → eqb lent (stripe_length s.array) ≡ l
          → TurnRow s idle lent (refuse (not f) 4 (refuse (i && not l) 6 0))
      go false e i b l d = unfit (not-fit s e)
      go true e false b l d = done ((fit_exactly s).0 e) (λ t. absurd (true≢false (sym t ∙ b)))
      go true e true b false d = other_length ((fit_exactly s).0 e) b (eqb-false lent (stripe_length s.array) d)
      go true e true b true d = done ((fit_exactly s).0 e) (λ t. eqb-true lent (stripe_length s.array) d)

  row_turn : {number : ℕ} → TurnRow s idle lent number → turn_refusal s idle lent ≡ number
  unfolding turn_refusal
  row_turn (unfit h) = rw (unfit_fails s h)
  row_turn (other_length f b h) = rw ((fit_exactly s).1 f, b, ne_eqb lent (stripe_length s.array) h)
  row_turn (done f h) = rw ((fit_exactly s).1 f) (go idle refl)
    where
      go : (i : Bool) → idle ≡ i → refuse (i && not (eqb lent (stripe_length s.array))) 6 0 ≡ 0
      go false b = refl
      go true b = rw (eq-eqb lent (stripe_length s.array) (h b))

  pub turn_refused_exactly : (number : ℕ) → (turn_refusal s idle lent ≡ number) ↔ TurnRow s idle lent number
  turn_refused_exactly number = (λ e. rw e at turn_row, row_turn)

-- ---- request

module _ (s : Patrol) (stripe lent : ℕ) where
  request_row : RequestRow s stripe lent (request_refusal s stripe lent)
  unfolding request_refusal turn_refusal
  request_row = go (ltb stripe s.array.stripes) refl (fit s) refl (eqb lent (stripe_length s.array)) refl
    where
      go : (t : Bool) → ltb stripe s.array.stripes ≡ t → (f : Bool) → fit s ≡ f → (l : Bool) → eqb lent (stripe_length s.array) ≡ l
          → RequestRow s stripe lent (refuse (not t) 3 (refuse (not f) 4 (refuse (true && not l) 6 0)))
      go false b f e l d = no_stripe (ltb-false stripe s.array.stripes b)
      go true b false e l d = unfit (ltb-true stripe s.array.stripes b) (not-fit s e)
      go true b true e false d = other_length (ltb-true stripe s.array.stripes b) ((fit_exactly s).0 e) (eqb-false lent (stripe_length s.array) d)
      go true b true e true d = done (ltb-true stripe s.array.stripes b) ((fit_exactly s).0 e) (eqb-true lent (stripe_length s.array) d)

  row_request : {number : ℕ} → RequestRow s stripe lent number → request_refusal s stripe lent ≡ number
  unfolding request_refusal turn_refusal
  row_request (no_stripe h) = rw (le-ltb stripe s.array.stripes h)
  row_request (unfit b h) = rw (lt-ltb stripe s.array.stripes b, unfit_fails s h)
  row_request (other_length b f h) = rw (lt-ltb stripe s.array.stripes b, (fit_exactly s).1 f, ne_eqb lent (stripe_length s.array) h)
  row_request (done b f h) = rw (lt-ltb stripe s.array.stripes b, (fit_exactly s).1 f, eq-eqb lent (stripe_length s.array) h)

  pub request_refused_exactly : (number : ℕ) → (request_refusal s stripe lent ≡ number) ↔ RequestRow s stripe lent number
  request_refused_exactly number = (λ e. rw e at request_row, row_request)

-- ---- what may be looked at

pub turn-fit : (s : Patrol) (idle : Bool) (lent : ℕ) → turn_refusal s idle lent ≡ 0 → FitPatrol s
turn-fit s idle lent e = go ((turn_refused_exactly s idle lent 0).0 e)
  where
    go : TurnRow s idle lent 0 → FitPatrol s
    go (done f h) = f

pub turn_takes : (s : Patrol) (lent : ℕ) → turn_refusal s true lent ≡ 0 → scrub_refusal s.array s.next lent ≡ 0
turn_takes s lent e = go ((turn_refused_exactly s true lent 0).0 e)
  where
    go : TurnRow s true lent 0 → scrub_refusal s.array s.next lent ≡ 0
    go (done f h) = sound_scrub s.array s.next lent (sound_stripe s.array s.next f) (h refl)

pub request_takes : (s : Patrol) (stripe lent : ℕ) → request_refusal s stripe lent ≡ 0 → scrub_refusal s.array stripe lent ≡ 0
request_takes s stripe lent e = go ((request_refused_exactly s stripe lent 0).0 e)
  where
    go : RequestRow s stripe lent 0 → scrub_refusal s.array stripe lent ≡ 0
    go (done b f h) = sound_scrub s.array stripe lent (sound_stripe s.array stripe (record { array = f.array; here = b })) h
