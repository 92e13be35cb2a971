-- What a call of a patrol answers and leaves, by its refusal number: refused, busy, or idle. Assumes nothing.
use mathlib.Core.Path.{◌≡◌, refl, sym}
use mathlib.Core.Bool.{Bool, true, false, cond, not, ◌&&◌}
use mathlib.Core.List.{List}
use mathlib.Core.Logic.{◌≢◌}
use Prim.Native.Nat.{ℕ, suc}
use native.Mathlib.Omega.{arith}
use lib.Dec.{eqb}
use Rattle.std.specs.Prelude.{Result, Ok, Err}
use Rattle.std.specs.Result.{is_ok}
use Rattle.refusal.specs.Refusals.{number, told}
use Rattle.refusal.specs.declared.Refusal.{Refusal}
use Rattle.refusal.proofs.Passing.{number-some}
use Rattle.layout.specs.Answers.{refuse}
use borrow.Author.Tests.{ne_eqb}
use lib.ListN.{length}
use Rattle.layout.specs.Arrays.{no_array, array_refusal}
use Rattle.layout.specs.declared.Array.{Array}
use Rattle.patrol.specs.declared.Patrol.{Patrol}
use Rattle.patrol.specs.Patrols.{patrol_at, begin_state, turn_refusal, turn_numbers, turn_state, request_refusal, request_numbers, scrub_of, nothing, refused_by, following}

-- ---- an answer is done exactly where it tells 0; and what is known of a test that was demanded

pub ok-told : {T : Type 0} (r : Result T Refusal) → is_ok r ≡ eqb (told r) 0
ok-told (Ok x) = refl
ok-told (Err refusal) = sym (ne_eqb (number refusal) 0 (number-some refusal))

pub passed : (t : Bool) (k : ℕ) → 0 ≡ cond t 0 (suc k) → t ≡ true
passed true k e = refl
passed false k e = absurd (omega arith)

pub failed : (refusal : Refusal) (t : Bool) (k later : ℕ) → number refusal ≡ cond t 0 (suc k) → number refusal ≡ refuse (not t) (suc k) later
failed refusal true k later e = absurd (number-some refusal e)
failed refusal false k later e = e

-- ---- begin

pub begun : (a : Array) → array_refusal a ≡ 0 → begin_state a ≡ patrol_at a 0
unfolding begin_state
begun a e = rw e

pub not-begun : (a : Array) → array_refusal a ≢ 0 → begin_state a ≡ patrol_at no_array 0
unfolding begin_state
not-begun a h = rw (ne_eqb (array_refusal a) 0 h)

-- ---- turn

module _ (s : Patrol) (idle : Bool) (bytes : List ℕ) where
  pub turn_refused : turn_refusal s idle (length bytes) ≢ 0 → turn_numbers s idle bytes ≡ refused_by (turn_refusal s idle (length bytes))
  unfolding turn_numbers
  turn_refused h = rw (ne_eqb (turn_refusal s idle (length bytes)) 0 h)

  pub turn_stays : turn_refusal s idle (length bytes) ≢ 0 → turn_state s idle (length bytes) ≡ s
  unfolding turn_state
  turn_stays h = rw (ne_eqb (turn_refusal s idle (length bytes)) 0 h) (never idle)
    where
      never : (i : Bool) → cond (i && false) (patrol_at s.array (following s.array s.next)) s ≡ s
      never true = refl
      never false = refl

module _ (s : Patrol) (bytes : List ℕ) where
  pub busy_sees : turn_refusal s false (length bytes) ≡ 0 → turn_numbers s false bytes ≡ nothing
  unfolding turn_numbers
  busy_sees e = rw e

  pub busy_stays : (lent : ℕ) → turn_state s false lent ≡ s
  unfolding turn_state
  busy_stays lent = refl

  pub idle_sees : turn_refusal s true (length bytes) ≡ 0 → turn_numbers s true bytes ≡ scrub_of s.array s.next bytes
  unfolding turn_numbers
  idle_sees e = rw e

  pub idle_moves : turn_refusal s true (length bytes) ≡ 0 → turn_state s true (length bytes) ≡ patrol_at s.array (following s.array s.next)
  unfolding turn_state
  idle_moves e = rw e

-- ---- request

module _ (s : Patrol) (stripe : ℕ) (bytes : List ℕ) where
  pub request_refused : request_refusal s stripe (length bytes) ≢ 0 → request_numbers s stripe bytes ≡ refused_by (request_refusal s stripe (length bytes))
  unfolding request_numbers
  request_refused h = rw (ne_eqb (request_refusal s stripe (length bytes)) 0 h)

  pub request_sees : request_refusal s stripe (length bytes) ≡ 0 → request_numbers s stripe bytes ≡ scrub_of s.array stripe bytes
  unfolding request_numbers
  request_sees e = rw e
