-- Nothing in front of a fold leaves the register as it is.
-- Assumes nothing.
use mathlib.Core.Path.{◌≡◌, refl, sym, ap, ap₂, ◌∙◌}
use mathlib.Core.Bool.{true}
use mathlib.Core.List.{List, [], ◌∷◌}
use Prim.Native.Nat.{ℕ, ◌+◌, ◌-◌, ◌*◌, ◌≤◌, ◌<◌}
use native.Mathlib.Omega.{arith}
use lib.Dec.{leb}
use lib.ListN.{length, get_or, take, drop, length-replicate, length-drop}
use lib.Seq.{ext_get_or, get_or-take, get_or-drop, length-take-le}
use lib.Bits.{bit_xor, xor_zero_r}
use borrow.Author.Tests.{leb-true}
use Rattle.castagnoli.specs.Castagnoli.{advance}
use Rattle.castagnoli_words.specs.Words.{on}
use Rattle.castagnoli_words.proofs.Moves.{zeros, on_none}
use Rattle.castagnoli_words.proofs.Sparse.{fits, first_true, second_true}
use Rattle.castagnoli_rows.specs.Folds.{Ready, Taken, Tail}
use Rattle.castagnoli_rows.proofs.Folding.{zeros-at, zeros-none, heading, headings, folded}
use Rattle.castagnoli_rows.proofs.Multiple.{near}

-- elements that are zeros
pub zeros-all : (l : List ℕ) → ((k : ℕ) → k < length l → get_or l k 0 ≡ 0) → l ≡ zeros (length l)
zeros-all l h = ext_get_or 0 l (zeros (length l)) (sym (length-replicate {A = ℕ} (length l) 0)) (λ k g. h k g ∙ sym (zeros-at (length l) k))

module _ (n m : ℕ) (w : List ℕ) (ready : Ready n m [] w) where
  blank : (e : ℕ) → e ≤ n → heading n m w ready.long ready.back e ≡ 0
  blank e g =
      let d = drop e (take n w) in
      let few : length (take n w) ≡ n = length-take-le n w (omega (arith, ready.long)) in
      let ld : length d ≡ n - e = length-drop e (take n w) ∙ ap (λ (x : ℕ). x - e) few in
      ap (λ (l : List ℕ). on (8 * (m + e)) (advance 0 l))
      (zeros-all d (λ k h. get_or-drop e (take n w) k 0 ∙ get_or-take n w (e + k) 0 (omega arith) ∙ ready.front (e + k) (omega arith)))
      ∙ ap (on (8 * (m + e))) (zeros-none (length d)) ∙ on_none (8 * (m + e))

  blanks : (es : List ℕ) → fits n es ≡ true → headings n m w ready.long ready.back es ≡ 0
  blanks [] f = refl
  blanks (e ∷ es) f = ap₂ bit_xor (blank e (leb-true e n (first_true (leb e n) (fits n es) f))) (blanks es (second_true (leb e n) (fits n es) f))

pub folded_near : (b w t : List ℕ) → length b ≡ 448 → length t ≡ 128 → Taken (13 ∷ 22 ∷ 23 ∷ 33 ∷ 37 ∷ 42 ∷ 48 ∷ 52 ∷ 56 ∷ []) 128 320 [] b w 320
    → Tail (13 ∷ 22 ∷ 23 ∷ 33 ∷ 37 ∷ 42 ∷ 48 ∷ 52 ∷ 56 ∷ []) 128 320 b w t → advance 0 t ≡ advance 0 b
folded_near b w t lb lt taken tail =
    let ready = taken.ready in
    folded 128 320 w ready.long ready.back (13 ∷ 22 ∷ 23 ∷ 33 ∷ 37 ∷ 42 ∷ 48 ∷ 52 ∷ 56 ∷ []) refl near [] b t lb lt taken tail
    ∙ ap (bit_xor (advance 0 b)) (blanks 128 320 w ready (13 ∷ 22 ∷ 23 ∷ 33 ∷ 37 ∷ 42 ∷ 48 ∷ 52 ∷ 56 ∷ []) refl) ∙ xor_zero_r (advance 0 b)

-- a buffer of zeros is ready
pub ready-near : Ready 128 320 [] (zeros 576)
ready-near = record { long = refl; front = λ j l. zeros-at 576 j; back = λ j l. zeros-at 576 j }
