-- Carries may wait: words taken in groups, each summed up whole before its carries are wrapped round once, give the same checksum. Assumes nothing.
use mathlib.Core.Path.{◌≡◌, refl, sym, ap, ◌∙◌}
use mathlib.Core.List.{List, [], ◌∷◌}
use Prim.Native.Nat.{ℕ}
use native.Mathlib.Omega.{arith}
use Rattle.checksum.specs.Checksum.{wrapped, words, first, checksum}
use Rattle.checksum.specs.Machine.{joined}
use Rattle.checksum.specs.Weights.{made, reduced}
use Rattle.checksum.proofs.Reduced.{reduced-wrapped}
use Rattle.checksum.proofs.Words.{words_small}
use Rattle.checksum.proofs.Weighed.{made-append, reduced-made, sums-made}

pub grouped : ℕ → List (List ℕ) → ℕ
grouped s [] = s
grouped s (ws ∷ groups) = grouped (wrapped (made s ws)) groups

grouped_made : (s : ℕ) (groups : List (List ℕ)) → reduced (grouped s groups) ≡ reduced (made s (joined groups))
unfolding grouped joined made
grouped_made s [] = refl
grouped_made s (ws ∷ groups) =
    let m = made s ws in
    let rest = joined groups in
    grouped_made (wrapped m) groups ∙ sym (reduced-made (wrapped m) rest) ∙ ap (λ (x : ℕ). reduced (made x rest)) (reduced-wrapped m) ∙ reduced-made m rest
    ∙ ap reduced (sym (made-append s ws rest))

pub carries_wait : (bytes : List ℕ) (groups : List (List ℕ)) → joined groups ≡ words bytes → checksum bytes ≡ reduced (grouped first groups)
unfolding checksum
carries_wait bytes groups e =
    sums-made first (words bytes) (omega arith) (words_small bytes) ∙ ap (λ (ws : List ℕ). reduced (made first ws)) (sym e) ∙ sym (grouped_made first groups)
