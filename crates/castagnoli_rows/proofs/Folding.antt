-- The fold: where x ^ (8 * n) is a sum of powers x ^ (8 * e), bytes taken away at the front and added n - e places on leave the register as it is.
-- The bytes as they are taken stand in a buffer between a head and zeros; so what meets the m + n bytes from the places e on is the rest of
-- the head, then those bytes, then e zeros.
-- Assumes nothing.
use mathlib.Core.Path.{◌≡◌, refl, sym, ap, ap₂, ◌∙◌}
use mathlib.Core.Bool.{true}
use mathlib.Core.List.{List, [], ◌∷◌, ◌++◌, append_assoc}
use Prim.Native.Nat.{ℕ, zero, suc, ◌+◌, ◌-◌, ◌*◌, ◌≤◌, ◌<◌}
use native.Mathlib.Nat.{add_comm}
use native.Mathlib.Decide.{dec_lt}
use native.Mathlib.Omega.{arith}
use lib.Dec.{leb, lit<}
use lib.ListN.{length, get_or, take, drop, length-append, length-replicate, length-drop, take-append-drop, get_or-append}
use lib.Seq.{ext_get_or, get_or-take, get_or-drop, get_or-append-add, length-take-le, drop-append-le, take-append-add}
use lib.Bits.{bit_xor, xor_zero_r, xor_comm}
use borrow.Author.Tests.{leb-true}
use Rattle.xor.specs.Xors.{xors}
use Rattle.xor.proofs.Bits.{xor_assoc, xor-four, xor-twice, xor_undo}
use Rattle.xor.proofs.Lists.{length-xors, get_or-xors}
use Rattle.castagnoli.specs.Castagnoli.{advance}
use Rattle.castagnoli.proofs.Linear.{advance_linear}
use Rattle.castagnoli.proofs.Mirrored.{advance-lt}
use Rattle.castagnoli_words.specs.Words.{on, ons}
use Rattle.castagnoli_words.proofs.Moves.{zeros, one, on_none, alike, zeros-on, parts}
use Rattle.castagnoli_words.proofs.Sparse.{fits, first_true, second_true}
use Rattle.castagnoli_rows.specs.Folds.{mix, Taken, Tail}

pub zeros-at : (n k : ℕ) → get_or (zeros n) k 0 ≡ 0
zeros-at zero k = refl
zeros-at (suc n) zero = refl
zeros-at (suc n) (suc k) = zeros-at n k

zeros-take : (k n : ℕ) → k ≤ n → take k (zeros n) ≡ zeros k
zeros-take zero n h = refl
zeros-take (suc k) zero h = absurd (omega arith)
zeros-take (suc k) (suc n) h = ap (λ (l : List ℕ). 0 ∷ l) (zeros-take k n (omega arith))

-- zeros make nothing of a register 0, and after other bytes they move it on
pub zeros-none : (n : ℕ) → advance 0 (zeros n) ≡ 0
zeros-none n = zeros-on n 0 ∙ on_none (8 * n)

pub zeros-after : (l : List ℕ) (n : ℕ) → advance 0 (l ++ zeros n) ≡ on (8 * n) (advance 0 l)
zeros-after l n =
    parts l (zeros n) ∙ ap₂ (λ (k z : ℕ). bit_xor (on (8 * k) (advance 0 l)) z) (length-replicate {A = ℕ} n 0) (zeros-none n) ∙ xor_zero_r (on (8 * n) (advance 0 l))

abbrev pub eights : List ℕ → List ℕ
eights [] = []
eights (e ∷ es) = 8 * e ∷ eights es

module _ (n m : ℕ) (w : List ℕ) (long : length w ≡ n + m + n) (back : (j : ℕ) → n + m ≤ j → get_or w j 0 ≡ 0) where
  -- the head and the bytes
  h : List ℕ
  h = take n w

  v : List ℕ
  v = take m (drop n w)

  length-h : length h ≡ n
  unfolding h
  length-h = length-take-le n w (omega arith)

  length_v : length v ≡ m
  unfolding v
  length_v = length-take-le m (drop n w) (rw (length-drop n w) (omega arith))

  v_at : (k : ℕ) → k < m → get_or v k 0 ≡ get_or w (n + k) 0
  unfolding v
  v_at k g = get_or-take m (drop n w) k 0 g ∙ get_or-drop n w k 0

  end_long : length (drop m (drop n w)) ≡ n
  end_long = length-drop m (drop n w) ∙ ap (λ (x : ℕ). x - m) (length-drop n w) ∙ omega arith

  end_zeros : drop m (drop n w) ≡ zeros n
  end_zeros =
      ext_get_or 0 (drop m (drop n w)) (zeros n) (end_long ∙ sym (length-replicate {A = ℕ} n 0))
      (λ k g. get_or-drop m (drop n w) k 0 ∙ get_or-drop n w (m + k) 0 ∙ back (n + (m + k)) (omega arith) ∙ sym (zeros-at n k))

  whole : w ≡ h ++ (v ++ zeros n)
  unfolding h v
  whole =
      sym (take-append-drop n w)
      ∙ ap (λ (l : List ℕ). take n w ++ l) (sym (take-append-drop m (drop n w)) ∙ ap (λ (l : List ℕ). take m (drop n w) ++ l) end_zeros)

  -- what meets the bytes from the places e on
  met : (e : ℕ) → e ≤ n → take (m + n) (drop e w) ≡ drop e h ++ (v ++ zeros e)
  met e g =
      let p = drop e h ++ v in
      let lp : length p ≡ n - e + m = length-append (drop e h) v ∙ ap₂ (λ (x y : ℕ). x + y) (length-drop e h ∙ ap (λ (x : ℕ). x - e) length-h) length_v in
      let all : m + n ≡ length p + e = omega arith in
      ap (λ (l : List ℕ). take (m + n) (drop e l)) whole
      ∙ ap (take (m + n)) (drop-append-le e h (v ++ zeros n) (omega (arith, length-h)) ∙ sym (append_assoc (drop e h) v (zeros n)))
      ∙ ap (λ (k : ℕ). take k (p ++ zeros n)) all
      ∙ take-append-add p (zeros n) e ∙ ap (λ (l : List ℕ). p ++ l) (zeros-take e n g) ∙ append_assoc (drop e h) v (zeros e)

  met_long : (e : ℕ) → e ≤ n → length (take (m + n) (drop e w)) ≡ m + n
  met_long e g = length-take-le (m + n) (drop e w) (rw (length-drop e w) (omega arith))

  -- what the head makes of a register 0 at the place e
  abbrev pub heading : ℕ → ℕ
  heading e = on (8 * (m + e)) (advance 0 (drop e (take n w)))

  abbrev pub headings : List ℕ → ℕ
  headings [] = 0
  headings (e ∷ es) = bit_xor (heading e) (headings es)

  met_advance : (e : ℕ) → e ≤ n → advance 0 (take (m + n) (drop e w)) ≡ bit_xor (heading e) (on (8 * e) (advance 0 v))
  unfolding h
  met_advance e g =
      let lv : length (v ++ zeros e) ≡ m + e = length-append v (zeros e) ∙ ap₂ (λ (x y : ℕ). x + y) length_v (length-replicate {A = ℕ} e 0) in
      ap (advance 0) (met e g) ∙ parts (drop e h) (v ++ zeros e)
      ∙ ap₂ (λ (k z : ℕ). bit_xor (on (8 * k) (advance 0 (drop e h))) z) lv (zeros-after v e)

  -- the bytes of l with all that meets them
  mixed : List ℕ → List ℕ → List ℕ
  mixed [] l = l
  mixed (e ∷ es) l = mixed es (xors l (take (m + n) (drop e w)))

  mixed-long : (es l : List ℕ) → length (mixed es l) ≡ length l
  unfolding mixed
  mixed-long [] l = refl
  mixed-long (e ∷ es) l = mixed-long es (xors l (take (m + n) (drop e w))) ∙ length-xors l (take (m + n) (drop e w))

  mixed-at : (es l : List ℕ) (k : ℕ) → length l ≡ m + n → k < m + n → get_or (mixed es l) k 0 ≡ mix es (get_or l k 0) w k
  unfolding mixed
  mixed-at [] l k ll g = refl
  mixed-at (e ∷ es) l k ll g =
      let s = take (m + n) (drop e w) in
      mixed-at es (xors l s) k (length-xors l s ∙ ll) g
      ∙ ap (λ (x : ℕ). mix es x w k)
      (get_or-xors l s k (omega arith) ∙ ap (bit_xor (get_or l k 0)) (get_or-take (m + n) (drop e w) k 0 g ∙ get_or-drop e w k 0 ∙ ap (λ (x : ℕ). get_or w x 0) (add_comm e k)))

  mixed-advance : (es l : List ℕ) → fits n es ≡ true → length l ≡ m + n
      → advance 0 (mixed es l) ≡ bit_xor (advance 0 l) (bit_xor (headings es) (ons (eights es) (advance 0 v)))
  unfolding mixed ons
  mixed-advance [] l f ll = sym (xor_zero_r (advance 0 l))
  mixed-advance (e ∷ es) l f ll =
      let s = take (m + n) (drop e w) in
      let g = leb-true e n (first_true (leb e n) (fits n es) f) in
      mixed-advance es (xors l s) (second_true (leb e n) (fits n es) f) (length-xors l s ∙ ll)
      ∙ ap (λ (x : ℕ). bit_xor x (bit_xor (headings es) (ons (eights es) (advance 0 v))))
      (advance_linear 0 0 l s (ll ∙ sym (met_long e g)) ∙ ap (bit_xor (advance 0 l)) (met_advance e g))
      ∙ xor_assoc (advance 0 l) (bit_xor (heading e) (on (8 * e) (advance 0 v))) (bit_xor (headings es) (ons (eights es) (advance 0 v)))
      ∙ ap (bit_xor (advance 0 l)) (xor-four (heading e) (on (8 * e) (advance 0 v)) (headings es) (ons (eights es) (advance 0 v)))

  -- THE LAW
  pub folded : (es : List ℕ) → fits n es ≡ true → on (8 * n) one ≡ ons (eights es) one → (head b t : List ℕ) → length b ≡ m + n → length t ≡ n
      → Taken es n m head b w m → Tail es n m b w t → advance 0 t ≡ bit_xor (advance 0 b) (headings es)
  folded es f multiple head b t lb lt taken tail =
      let x = advance 0 v in
      let moved : on (8 * n) x ≡ ons (eights es) x = alike (8 * n) (eights es) multiple x (advance-lt 0 v (lit< tt)) in
      let two : bit_xor (on (8 * n) x) (advance 0 t) ≡ bit_xor (advance 0 b) (bit_xor (headings es) (on (8 * n) x)) =
      ap (λ (k : ℕ). bit_xor (on (8 * k) x) (advance 0 t)) (sym lt) ∙ sym (parts v t) ∙ ap (advance 0) same ∙ mixed-advance es b f lb
      ∙ ap (λ (y : ℕ). bit_xor (advance 0 b) (bit_xor (headings es) y)) (sym moved) in
      sym (xor_undo (on (8 * n) x) (advance 0 t)) ∙ ap (bit_xor (on (8 * n) x)) (two ∙ sym (xor_assoc (advance 0 b) (headings es) (on (8 * n) x)))
      ∙ xor_comm (on (8 * n) x) (bit_xor (bit_xor (advance 0 b) (headings es)) (on (8 * n) x)) ∙ xor-twice (bit_xor (advance 0 b) (headings es)) (on (8 * n) x)
    where
      vt : length (v ++ t) ≡ m + n
      vt = length-append v t ∙ ap₂ (λ (x y : ℕ). x + y) length_v lt

      at : (k : ℕ) → k < m + n → Dec (k < m) → get_or (v ++ t) k 0 ≡ get_or (mixed es b) k 0
      at k g (yes l) = get_or-append v t 0 k (rw length_v l) ∙ v_at k l ∙ taken.made k l ∙ sym (mixed-at es b k lb g)
      at k g (no l) =
          let past : k ≡ length v + (k - m) = omega (arith, length_v) in
          let back_to : m + (k - m) ≡ k = omega arith in
          ap (λ (x : ℕ). get_or (v ++ t) x 0) past ∙ get_or-append-add v t (k - m) 0 ∙ tail (k - m) (omega arith)
          ∙ ap (λ (x : ℕ). mix es (get_or b x 0) w x) back_to ∙ sym (mixed-at es b k lb g)

      same : v ++ t ≡ mixed es b
      same = ext_get_or 0 (v ++ t) (mixed es b) (vt ∙ sym (mixed-long es b ∙ lb)) (λ k g. at k (omega (arith, vt)) (dec_lt k m))
