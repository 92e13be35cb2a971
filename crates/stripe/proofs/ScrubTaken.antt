-- A scrub that tells of a stripe was not refused: a refusal has the flag 0. Assumes nothing.
use mathlib.Core.Path.{◌≡◌, sym, ap, ◌∙◌}
use mathlib.Core.List.{List, ◌∷◌}
use Prim.Native.Nat.{ℕ}
use native.Mathlib.Decide.{ℕ_discrete}
use native.Mathlib.Omega.{arith}
use lib.ListN.{length, get_or}
use Rattle.layout.specs.declared.Array.{Array}
use Rattle.stripe.specs.Verdicts.{scrub_numbers, scrub_refusal}
use Rattle.stripe.proofs.Scrubs.{scrub_refused}

pub scrub_taken : (a : Array) (stripe : ℕ) (bytes numbers : List ℕ) → scrub_numbers a stripe bytes ≡ 1 ∷ numbers → scrub_refusal a stripe (length bytes) ≡ 0
scrub_taken a stripe bytes numbers told = by_number (ℕ_discrete (scrub_refusal a stripe (length bytes)) 0)
  where
    by_number : Dec (scrub_refusal a stripe (length bytes) ≡ 0) → scrub_refusal a stripe (length bytes) ≡ 0
    by_number (yes e) = e
    by_number (no ne) =
        let flags : ◌≡◌ {A = ℕ} 0 1 = ap (λ (l : List ℕ). get_or l 0 0) (sym (scrub_refused a stripe bytes ne) ∙ told) in absurd (omega arith)
