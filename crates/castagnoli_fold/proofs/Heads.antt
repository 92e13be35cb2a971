-- A register in front of the fold, where only the first of the five places meets it, is carried by the first four bytes.
-- Assumes nothing.
use mathlib.Core.Path.{◌≡◌, refl, sym, ap, ap₂, ◌∙◌}
use mathlib.Core.List.{List, [], ◌∷◌, ◌++◌}
use Prim.Native.Nat.{ℕ, ◌+◌, ◌-◌, ◌*◌, ◌/◌, ◌%◌, ◌^◌, ◌<◌}
use native.Mathlib.Decide.{dec_lt}
use native.Mathlib.Omega.{arith}
use lib.ListN.{length, get_or, take, drop, length-append, length-replicate, get_or-append, get_or-eq_default}
use lib.Seq.{ext_get_or, get_or-take, get_or-drop, get_or-append-add, length-take-le, drop-drop}
use lib.Bits.{bit_xor, xor_zero_r, xor_comm}
use Rattle.castagnoli.specs.Castagnoli.{advance}
use Rattle.castagnoli.proofs.Shifted.{carried}
use Rattle.castagnoli_words.specs.Words.{on}
use Rattle.castagnoli_words.proofs.Moves.{zeros, on_none, on-on, zeros-on, advance_parts}
use Rattle.castagnoli_rows.specs.Folds.{Ready, Taken, Tail}
use Rattle.castagnoli_fold.specs.Heads.{head_of}
use Rattle.castagnoli_rows.proofs.Folding.{zeros-at, zeros-none, zeros-after, heading, folded}
use Rattle.castagnoli_rows.proofs.Blanks.{zeros-all}
use Rattle.castagnoli_fold.proofs.Multiple.{wide}

-- its four bytes
lead : ℕ → List ℕ
lead r = r % 256 ∷ r / 256 % 256 ∷ r / 65536 % 256 ∷ r / 65536 / 256 % 256 ∷ []

lead_on : (r : ℕ) → r < 2 ^ 32 → advance 0 (lead r) ≡ on 32 r
unfolding lead
lead_on r h =
    ap₂ (λ (x y : ℕ). advance 0 (x ∷ y ∷ r / 65536 % 256 ∷ r / 65536 / 256 % 256 ∷ [])) (sym (xor_zero_r (r % 256))) (sym (xor_zero_r (r / 256 % 256)))
    ∙ ap₂ (λ (x y : ℕ). advance 0 (bit_xor (r % 256) 0 ∷ bit_xor (r / 256 % 256) 0 ∷ x ∷ y ∷ [])) (sym (xor_zero_r (r / 65536 % 256))) (sym (xor_zero_r (r / 65536 / 256 % 256)))
    ∙ sym (carried r 0 0 0 0 [] h) ∙ zeros-on 4 r

module _ (r : ℕ) (w : List ℕ) (ready : Ready 448 3648 (head_of r) w) where
  front : take 448 w ≡ head_of r ++ zeros 440
  front =
      ext_get_or 0 (take 448 w) (head_of r ++ zeros 440) (few ∙ sym all)
      (λ k g. get_or-take 448 w k 0 (omega (arith, few)) ∙ ready.front k (omega (arith, few)) ∙ at k (dec_lt k 8))
    where
      few : length (take 448 w) ≡ 448
      few = length-take-le 448 w (omega (arith, ready.long))

      all : length (head_of r ++ zeros 440) ≡ 448
      all = length-append (head_of r) (zeros 440) ∙ ap (λ (x : ℕ). 8 + x) (length-replicate {A = ℕ} 440 0)

      at : (k : ℕ) → Dec (k < 8) → get_or (head_of r) k 0 ≡ get_or (head_of r ++ zeros 440) k 0
      at k (yes g) = sym (get_or-append (head_of r) (zeros 440) 0 k g)
      at k (no g) =
          let past : k ≡ 8 + (k - 8) = omega arith in
          get_or-eq_default (head_of r) 0 {n = k} (omega arith)
          ∙ sym (ap (λ (x : ℕ). get_or (head_of r ++ zeros 440) x 0) past ∙ get_or-append-add (head_of r) (zeros 440) (k - 8) 0 ∙ zeros-at 440 (k - 8))

  zeros-drop : (k n : ℕ) → drop k (zeros n) ≡ zeros (length (drop k (zeros n)))
  zeros-drop k n = zeros-all (drop k (zeros n)) (λ j g. get_or-drop k (zeros n) j 0 ∙ zeros-at n (k + j))

  -- from the eighth place on it has zeros
  passed : (k : ℕ) → heading 448 3648 w ready.long ready.back (8 + k) ≡ 0
  passed k =
      let rest = drop k (zeros 440) in
      ap (λ (l : List ℕ). on (8 * (3648 + (8 + k))) (advance 0 (drop (8 + k) l))) front
      ∙ ap (λ (l : List ℕ). on (8 * (3648 + (8 + k))) (advance 0 l)) (sym (drop-drop k 8 (head_of r ++ zeros 440)) ∙ zeros-drop k 440)
      ∙ ap (on (8 * (3648 + (8 + k)))) (zeros-none (length rest)) ∙ on_none (8 * (3648 + (8 + k)))

  -- at the fourth the register begins
  begun : r < 2 ^ 32 → heading 448 3648 w ready.long ready.back 4 ≡ on (8 * 4096) r
  unfolding lead
  begun h =
      ap (λ (l : List ℕ). on (8 * (3648 + 4)) (advance 0 (drop 4 l))) front
      ∙ ap (on (8 * (3648 + 4))) (zeros-after (lead r) 440 ∙ ap (on (8 * 440)) (lead_on r h))
      ∙ on-on (8 * 440) (8 * (3648 + 4)) (on 32 r) ∙ on-on 32 (8 * 440 + 8 * (3648 + 4)) r

  pub folded_wide : (b t : List ℕ) → r < 2 ^ 32 → length b ≡ 4096 → length t ≡ 448 → Taken (4 ∷ 20 ∷ 161 ∷ 206 ∷ 230 ∷ []) 448 3648 (head_of r) b w 3648
      → Tail (4 ∷ 20 ∷ 161 ∷ 206 ∷ 230 ∷ []) 448 3648 b w t → advance 0 t ≡ advance r b
  folded_wide b t h lb lt taken tail =
      folded 448 3648 w ready.long ready.back (4 ∷ 20 ∷ 161 ∷ 206 ∷ 230 ∷ []) refl wide (head_of r) b t lb lt taken tail
      ∙ ap (bit_xor (advance 0 b))
      (ap₂ bit_xor (begun h) (ap₂ bit_xor (passed 12) (ap₂ bit_xor (passed 153) (ap₂ bit_xor (passed 198) (ap₂ bit_xor (passed 222) refl))))
      ∙ xor_zero_r (on (8 * 4096) r))
      ∙ xor_comm (advance 0 b) (on (8 * 4096) r) ∙ ap (λ (k : ℕ). bit_xor (on (8 * k) r) (advance 0 b)) (sym lb) ∙ sym (advance_parts r b)
