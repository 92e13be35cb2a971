-- Change request 11 as a single claim about a list of calls and the answers that they got: whatever lies between, the accepted idle turns scrub the
-- stripes in order, round and round. Assumes nothing.
use Rattle.std.specs.Prelude.{◌≡◌, true, false, cond, List, [], ◌∷◌, map, ℕ, ◌+◌, ◌%◌, ◌≤◌, ◌<◌, eqb, length, get_or}
use Rattle.layout.specs.declared.Array.{Array}
use Rattle.stripe.specs.Stripes.{stripe_length}
use Rattle.patrol.specs.declared.Patrol.{Patrol}
use Rattle.patrol.specs.Patrols.{patrol_at, scrub_of}
use Rattle.patrol.specs.Runs.{Call, turn, request}

-- an accepted idle turn: the bytes that it was lent, and its answer, in which the stripe stands behind the scrub's six numbers and a 1
pub record Scrub : Type 0 where
  pub lent : List ℕ
  pub told : List ℕ

abbrev pub stripe_named : Scrub → ℕ
stripe_named t = get_or t.told 7 0

-- the accepted idle turns among calls with these answers, in order: those whose answer begins with 1, done
abbrev pub scrubs : List Call → List (List ℕ) → List Scrub
scrubs [] xs = []
scrubs (c ∷ calls) [] = []
scrubs (turn true bytes ∷ calls) (x ∷ xs) = cond (eqb (get_or x 0 0) 1) (record { lent = bytes; told = x } ∷ scrubs calls xs) (scrubs calls xs)
scrubs (turn false bytes ∷ calls) (x ∷ xs) = scrubs calls xs
scrubs (request stripe bytes ∷ calls) (x ∷ xs) = scrubs calls xs

-- the one with this number among them, counted from 0
abbrev pub scrub_at : List Scrub → ℕ → Scrub
scrub_at ts k = get_or ts k (record { lent = []; told = [] })

-- what the idle turns among calls were lent, as far as it is as long as a stripe
abbrev pub stripes_lent : Array → List Call → List (List ℕ)
stripes_lent a [] = []
stripes_lent a (turn true bytes ∷ calls) = cond (eqb (length bytes) (stripe_length a)) (bytes ∷ stripes_lent a calls) (stripes_lent a calls)
stripes_lent a (turn false bytes ∷ calls) = stripes_lent a calls
stripes_lent a (request stripe bytes ∷ calls) = stripes_lent a calls

-- of n successive turns, from one on, just one names this stripe
pub record Once (named : ℕ → ℕ) (from n stripe : ℕ) : Type 0 where
  pub turn : ℕ
  pub not-before : from ≤ turn
  pub not_after : turn < from + n
  pub names : named turn ≡ stripe
  pub only : (other : ℕ) → from ≤ other → other < from + n → named other ≡ stripe → other ≡ turn

-- from a state s, by calls with the answers xs, to the last state
pub record EveryStripe (s : Patrol) (calls : List Call) (xs : List (List ℕ)) (last : Patrol) : Type 0 where
  -- an idle turn is accepted exactly where it is lent as many bytes as a stripe has
  pub accepted : map (λ t. t.lent) (scrubs calls xs) ≡ stripes_lent s.array calls
  -- the accepted ones answer all of the full scrub of what they were lent, as the stripes from the next one on, in order, and after the last the first
  pub in_order : (k : ℕ) → k < length (scrubs calls xs)
      → (scrub_at (scrubs calls xs) k).told ≡ scrub_of s.array ((s.next + k) % s.array.stripes) (scrub_at (scrubs calls xs) k).lent
  -- so of any S successive ones each stripe is scrubbed by one, and by one only
  pub each_once : (from : ℕ) → from + s.array.stripes ≤ length (scrubs calls xs) → (stripe : ℕ) → stripe < s.array.stripes
      → Once (λ k. stripe_named (scrub_at (scrubs calls xs) k)) from s.array.stripes stripe
  -- and nothing else has moved the patrol
  pub left : last ≡ patrol_at s.array ((s.next + length (scrubs calls xs)) % s.array.stripes)
