-- The theorem of the patrol: of every run of its calls from a fit state EveryStripe holds. By induction along the run: an accepted idle turn comes
-- before those of the stripe that follows; any other call leaves the state as it was, and is none of them. Assumes nothing.
use mathlib.Core.Path.{◌≡◌, refl, sym, ap, ◌∙◌, subst}
use mathlib.Core.Bool.{true, false}
use mathlib.Core.List.{List, [], ◌∷◌, map}
use mathlib.Core.Logic.{◌≢◌}
use Prim.Native.Nat.{ℕ, zero, suc, ◌+◌, ◌%◌, ◌<◌}
use native.Mathlib.Nat.{mod-eq_of_lt, mod-lt, mod-add-mod, le_of_suc-le-suc}
use native.Mathlib.Decide.{ℕ_discrete}
use native.Mathlib.Omega.{arith}
use borrow.Author.Tests.{eq-eqb, ne_eqb}
use lib.ListN.{length, get_or}
use Rattle.layout.specs.declared.Array.{Array}
use Rattle.stripe.specs.Stripes.{stripe_length}
use Rattle.stripe.specs.Verdicts.{scrub_refusal}
use Rattle.stripe.proofs.Scrubs.{scrub_sound}
use Rattle.patrol.specs.declared.Patrol.{Patrol}
use Rattle.patrol.specs.Patrols.{patrol_at, turn_refusal, turn_numbers, turn_state, scrub_of, seen_numbers, following}
use Rattle.patrol.specs.Rows.{FitPatrol, done}
use Rattle.patrol.specs.Runs.{Call, turn, PatrolRun, ended, turned, requested}
use Rattle.patrol.specs.EveryStripe.{Scrub, stripe_named, scrubs, scrub_at, stripes_lent, EveryStripe}
use Rattle.patrol.proofs.Rows.{turn_refused_exactly, turn_takes}
use Rattle.patrol.proofs.Answers.{turn_refused, turn_stays, busy_stays, idle_sees, idle_moves}
use Rattle.patrol.proofs.Occurring.{scrub_done, scrub_named}
use Rattle.patrol.proofs.Rounds.{met_once, once_alike}

-- ---- accepted idle turns from a stripe on, and where they leave the patrol

record Went (a : Array) (next : ℕ) (ts : List Scrub) (last : Patrol) : Type 0 where
  in_order : (k : ℕ) → k < length ts → (scrub_at ts k).told ≡ scrub_of a ((next + k) % a.stripes) (scrub_at ts k).lent
  named : (k : ℕ) → k < length ts → stripe_named (scrub_at ts k) ≡ (next + k) % a.stripes
  left : last ≡ patrol_at a ((next + length ts) % a.stripes)

module _ (a : Array) (next : ℕ) (here : next < a.stripes) where
  at_first : (next + 0) % a.stripes ≡ next
  at_first = let e : next + 0 ≡ next = omega arith in ap (λ (x : ℕ). x % a.stripes) e ∙ mod-eq_of_lt here

  one_on : (k : ℕ) → (following a next + k) % a.stripes ≡ (next + suc k) % a.stripes
  unfolding following
  one_on k =
      let e : next + 1 + k ≡ next + suc k = omega arith in
      mod-add-mod (next + 1) a.stripes k ∙ ap (λ (x : ℕ). x % a.stripes) e

  went_none : Went a next [] (patrol_at a next)
  went_none = record { in_order = λ k h. absurd (omega arith); named = λ k h. absurd (omega arith); left = ap (patrol_at a) (sym at_first) }

  went_on : (t : Scrub) (ts : List Scrub) {last : Patrol} → scrub_refusal a next (length t.lent) ≡ 0 → t.told ≡ scrub_of a next t.lent
      → Went a (following a next) ts last → Went a next (t ∷ ts) last
  went_on t ts sound told rest = record { in_order = order; named = names; left = rest.left ∙ ap (patrol_at a) (one_on (length ts)) }
    where
      order : (k : ℕ) → k < length (t ∷ ts) → (scrub_at (t ∷ ts) k).told ≡ scrub_of a ((next + k) % a.stripes) (scrub_at (t ∷ ts) k).lent
      order zero h = told ∙ ap (λ (x : ℕ). scrub_of a x t.lent) (sym at_first)
      order (suc k) h = rest.in_order k (le_of_suc-le-suc h) ∙ ap (λ (x : ℕ). scrub_of a x (scrub_at ts k).lent) (one_on k)

      names : (k : ℕ) → k < length (t ∷ ts) → stripe_named (scrub_at (t ∷ ts) k) ≡ (next + k) % a.stripes
      names zero h = ap (λ (l : List ℕ). get_or l 7 0) told ∙ scrub_named a next t.lent sound ∙ sym at_first
      names (suc k) h = rest.named k (le_of_suc-le-suc h) ∙ one_on k

-- ---- along a run

record Along (s : Patrol) (calls : List Call) (xs : List (List ℕ)) (last : Patrol) : Type 0 where
  accepted : map (λ t. t.lent) (scrubs calls xs) ≡ stripes_lent s.array calls
  went : Went s.array s.next (scrubs calls xs) last

-- an accepted idle turn leaves a fit state: what remains of a division by the number of stripes is one of them
moves_fit : (s : Patrol) → FitPatrol s → FitPatrol (patrol_at s.array (following s.array s.next))
unfolding following
moves_fit s fits = record { array = fits.array; here = mod-lt (s.next + 1) fits.array.some }

-- an idle turn, whether it is refused or not
module _ (s : Patrol) (fits : FitPatrol s) (bytes x : List ℕ) (next : Patrol) (answered : x ≡ turn_numbers s true bytes)
    (moved : next ≡ turn_state s true (length bytes)) {calls : List Call} {xs : List (List ℕ)} {last : Patrol} where
  idle_refused : turn_refusal s true (length bytes) ≢ 0 → Along s calls xs last → Along s (turn true bytes ∷ calls) (x ∷ xs) last
  idle_refused h rest =
      let refused : get_or x 0 0 ≡ 0 = ap (λ (l : List ℕ). get_or l 0 0) (answered ∙ turn_refused s true bytes h) in
      let other : length bytes ≢ stripe_length s.array = λ e. h ((turn_refused_exactly s true (length bytes) 0).1 (done fits (λ t. e))) in
      record {
        accepted = rw (refused, ne_eqb (length bytes) (stripe_length s.array) other) rest.accepted;
        went = rw refused rest.went;
      }

  idle-accepted : turn_refusal s true (length bytes) ≡ 0 → Along next calls xs last → Along s (turn true bytes ∷ calls) (x ∷ xs) last
  idle-accepted e rest =
      let sound = turn_takes s (length bytes) e in
      let told = answered ∙ idle_sees s bytes e in
      let first : get_or x 0 0 ≡ 1 = ap (λ (l : List ℕ). get_or l 0 0) told ∙ scrub_done s.array s.next bytes sound in
      let after = subst (λ (n : Patrol). Along n calls xs last) (moved ∙ idle_moves s bytes e) rest in
      record {
        accepted = rw (first, eq-eqb (length bytes) (stripe_length s.array) (scrub_sound s.array s.next (length bytes) sound).1)
            (ap (λ (l : List (List ℕ)). bytes ∷ l) after.accepted);
        went = rw first (went_on s.array s.next fits.here (record { lent = bytes; told = x }) (scrubs calls xs) sound told after.went);
      }

  idle_along : (FitPatrol next → Along next calls xs last) → Along s (turn true bytes ∷ calls) (x ∷ xs) last
  idle_along later = go (ℕ_discrete (turn_refusal s true (length bytes)) 0)
    where
      go : Dec (turn_refusal s true (length bytes) ≡ 0) → Along s (turn true bytes ∷ calls) (x ∷ xs) last
      go (yes none) = idle-accepted none (later (subst FitPatrol (sym (moved ∙ idle_moves s bytes none)) (moves_fit s fits)))
      go (no refused) =
          let stays = moved ∙ turn_stays s true bytes refused in
          idle_refused refused (subst (λ (n : Patrol). Along n calls xs last) stays (later (subst FitPatrol (sym stays) fits)))

along : {s last : Patrol} {calls : List Call} {xs : List (List ℕ)} → FitPatrol s → PatrolRun s calls xs last → Along s calls xs last
along {s} fits ended = record { accepted = refl; went = went_none s.array s.next fits.here }
along {s} {last} fits (turned {calls = calls} {xs = xs} {idle = false} {bytes = bytes} r e f run) =
    let stays = f ∙ busy_stays s bytes (length bytes) in
    let rest = subst (λ (n : Patrol). Along n calls xs last) stays (along (subst FitPatrol (sym stays) fits) run) in
    record { accepted = rest.accepted; went = rest.went }
along {s} fits (turned {idle = true} {bytes = bytes} r e f run) = idle_along s fits bytes (seen_numbers r.seen) r.state e f (λ h. along h run)
along {s} {last} fits (requested {calls = calls} {xs = xs} r e f run) =
    let rest = subst (λ (n : Patrol). Along n calls xs last) f (along (subst FitPatrol (sym f) fits) run) in
    record { accepted = rest.accepted; went = rest.went }

-- ---- the theorem

pub run-scrubs_every_stripe : {s last : Patrol} {calls : List Call} {xs : List (List ℕ)} → FitPatrol s → PatrolRun s calls xs last → EveryStripe s calls xs last
run-scrubs_every_stripe {s} {calls = calls} {xs = xs} fits run =
    let h = along fits run in
    record {
      accepted = h.accepted;
      in_order = h.went.in_order;
      each_once = λ from long stripe here.
          once_alike (λ k. (s.next + k) % s.array.stripes) (λ k. stripe_named (scrub_at (scrubs calls xs) k)) from s.array.stripes stripe
          (λ k less. h.went.named k (omega arith)) (met_once s.array.stripes stripe here s.next from);
      left = h.went.left;
    }
