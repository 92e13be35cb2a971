-- One call of the machine of specs/Machines: from what follows from a history it answers as that history does, and what it then holds
-- follows again.
-- Assumes nothing.
use mathlib.Core.Path.{◌≡◌, refl, ap}
use mathlib.Core.Bool.{Bool, true, false, not, cond}
use mathlib.Core.List.{List, [], ◌∷◌, ◌++◌, map}
use Prim.Native.Nat.{ℕ, ◌-◌, ◌≤◌, ◌<◌}
use native.Mathlib.Omega.{arith}
use lib.Dec.{ltb, leb, eqb}
use borrow.Author.Tests.{ltb-true, ltb-false, eqb-true}
use lib.ListN.{length, get_or, set}
use Rattle.layout.specs.Answers.{refuse, answer}
use Rattle.stripe.specs.Tables.{all}
use Rattle.format.specs.Formats.{Format}
use Rattle.stripe.specs.Formats.{Summary, summary_of}
use Rattle.scan.specs.History.{Call, piece, finish, piece_number, finish_number, answer_to, kept}
use Rattle.scan.specs.Scans.{held_summary}
use Rattle.scan.specs.Holding.{Held, Follows}
use Rattle.scan.specs.Machines.{taken, scrub_of, held_piece_number, held_finish_number, held_answer, held_after}
use Rattle.scan.proofs.Pieces.{position_is, piece-follows}
use Rattle.scan.proofs.Refusals.{refused_alike}
use Rattle.scan.proofs.Finishes.{flags_are, summary-held}

-- ---- numbers

-- a piece that is not refused: there is such a member, and it lacks at least these bytes
pub accepted : (block members : ℕ) (scrub : List (List ℕ) → List ℕ) (history : List (List ℕ)) (m : ℕ) (bytes : List ℕ)
    → piece_number block members scrub history m bytes ≡ 0 → (m < members) × (length bytes ≤ block - length (get_or history m []))
accepted block members scrub history m bytes e = go (ltb m members) refl (ltb (block - length (get_or history m [])) (length bytes)) refl e
  where
    go : (f : Bool) → ltb m members ≡ f → (g : Bool) → ltb (block - length (get_or history m [])) (length bytes) ≡ g
        → refuse (not f) 5 (refuse g 7 0) ≡ 0 → (m < members) × (length bytes ≤ block - length (get_or history m []))
    go true p true q r = absurd (omega arith)
    go true p false q r = (ltb-true m members p, ltb-false (block - length (get_or history m [])) (length bytes) q)
    go false p g q r = absurd (omega arith)

-- ---- one call

module _ (F : Format) (n : ℕ) (judge : Summary → List ℕ) (h : Held F) (history : List (List ℕ)) (t : Follows F n h history) where
  pub piece-number_is : (m : ℕ) (bytes : List ℕ) → held_piece_number F n h m bytes ≡ piece_number F.block_length n (scrub_of F judge) history m bytes
  piece-number_is m bytes = go (ltb m n) refl
    where
      go : (f : Bool) → ltb m n ≡ f
          → refuse (not f) 5 (refuse (ltb (F.block_length - get_or h.at m 0) (length bytes)) 7 0)
          ≡ refuse (not f) 5 (refuse (ltb (F.block_length - length (get_or history m [])) (length bytes)) 7 0)
      go true e = rw (position_is F n h history t m bytes (ltb-true m n e))
      go false e = refl

  finish_is : ((x y : Summary) → length (judge x) ≡ length (judge y))
      → answer (held_finish_number F n h) (judge (held_summary F n h.register h.tag h.work))
      ≡ answer (finish_number F.block_length n (scrub_of F judge) history) (judge (summary_of F history))
  finish_is even = rw (flags_are F n h history t) (go (all (map (λ taken. leb F.block_length (length taken)) history)) refl)
    where
      go : (f : Bool) → all (map (λ taken. leb F.block_length (length taken)) history) ≡ f
          → answer (refuse (not f) 8 0) (judge (held_summary F n h.register h.tag h.work)) ≡ answer (refuse (not f) 8 0) (judge (summary_of F history))
      go true e = rw (summary-held F n h history t e)
      go false e = refused_alike 7 (judge (held_summary F n h.register h.tag h.work)) (judge (summary_of F history)) (even _ _)

  pub call_answered : ((x y : Summary) → length (judge x) ≡ length (judge y))
      → (c : Call) → held_answer F n judge h c ≡ answer_to F.block_length n (scrub_of F judge) history c
  unfolding held_answer answer_to
  call_answered even (piece m bytes) = ap (λ (k : ℕ). k ∷ []) (piece-number_is m bytes)
  call_answered even finish = finish_is even

  pub call_follows : (c : Call) → Follows F n (held_after F n judge h c) (kept F.block_length n (scrub_of F judge) history c)
  unfolding held_after kept
  call_follows (piece m bytes) = rw (piece-number_is m bytes) (go (eqb (piece_number F.block_length n (scrub_of F judge) history m bytes) 0) refl)
    where
      go : (f : Bool) → eqb (piece_number F.block_length n (scrub_of F judge) history m bytes) 0 ≡ f
          → Follows F n (cond f (taken F h m bytes) h) (cond f (set history m (get_or history m [] ++ bytes)) history)
      go true e =
          let ok = accepted F.block_length n (scrub_of F judge) history m bytes (eqb-true (piece_number F.block_length n (scrub_of F judge) history m bytes) 0 e) in
          piece-follows F n h history t m bytes ok.0 (omega (arith, ok.1, t.fits m))
      go false e = t
  call_follows finish = t
