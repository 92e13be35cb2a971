-- Along a run from an accepted start: what is held follows from the history, and the answers are the history's.
-- Assumes nothing.
use mathlib.Core.Path.{◌≡◌, refl, ap, ap₂, ◌∙◌}
use mathlib.Core.List.{List, [], ◌∷◌, foldl}
use Prim.Native.Nat.{ℕ}
use Rattle.layout.specs.Arrays.{stripe_refusal}
use Rattle.layout.specs.declared.Array.{Array}
use Rattle.tag.specs.Blocks.{format_at}
use Rattle.stripe.specs.Verdicts.{verdict, scrub_blocks}
use Rattle.scan.specs.declared.Scan.{Scan}
use Rattle.scan.specs.History.{Call, piece, finish, kept, answer_to, answers}
use Rattle.scan.specs.Runs.{ScanRun, ended, pieced, finished}
use Rattle.scan.specs.Holding.{held, Holds}
use Rattle.scan.specs.Machines.{held_answer}
use Rattle.scan.proofs.Refusals.{verdicts_even}
use Rattle.scan.proofs.Machine.{call_answered}
use Rattle.scan.proofs.States.{piece-refusal_is, finish-numbers_are, piece-holds}

module _ (a : Array) (stripe : ℕ) (sound : stripe_refusal a stripe ≡ 0) where
  answered : {s : Scan} {w : List ℕ} {history : List (List ℕ)} → Holds a stripe s w history → (c : Call)
      → held_answer (format_at a) a.members (verdict a stripe) (held (format_at a) s w) c ≡ answer_to (format_at a).block_length a.members (scrub_blocks a stripe) history c
  answered {s} {w} {history} t = call_answered (format_at a) a.members (verdict a stripe) (held (format_at a) s w) history t.follows (verdicts_even a stripe)

  pub run_holds : {s last : Scan} {w left : List ℕ} {calls : List Call} {xs : List (List ℕ)} (history : List (List ℕ))
      → Holds a stripe s w history → ScanRun s w calls xs last left → Holds a stripe last left (foldl (kept (format_at a).block_length a.members (scrub_blocks a stripe)) history calls)
  unfolding kept
  run_holds history t ended = t
  run_holds history t (pieced {s = s} {w = w} {member = m} {bytes = bytes} r e f g run) = run_holds _ (piece-holds a stripe sound s w history t m bytes f g) run
  run_holds history t (finished r e run) = run_holds history t run

  pub run-answers : {s last : Scan} {w left : List ℕ} {calls : List Call} {xs : List (List ℕ)} (history : List (List ℕ))
      → Holds a stripe s w history → ScanRun s w calls xs last left → xs ≡ answers (format_at a).block_length a.members (scrub_blocks a stripe) history calls
  unfolding kept held_answer
  run-answers history t ended = refl
  run-answers history t (pieced {s = s} {w = w} {member = m} {bytes = bytes} r e f g run) =
      ap₂ (λ (x : List ℕ) (xs : List (List ℕ)). x ∷ xs)
      (ap (λ (k : ℕ). k ∷ []) (e ∙ piece-refusal_is a stripe sound s w history t m bytes) ∙ answered t (piece m bytes))
      (run-answers _ (piece-holds a stripe sound s w history t m bytes f g) run)
  run-answers history t (finished {s = s} {w = w} r e run) =
      ap₂ (λ (x : List ℕ) (xs : List (List ℕ)). x ∷ xs) (e ∙ finish-numbers_are a stripe sound s w history t ∙ answered t finish) (run-answers history t run)
