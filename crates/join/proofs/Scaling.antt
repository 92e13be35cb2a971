-- A register times the factors that the digits of a number choose.
-- Assumes nothing.
use mathlib.Core.Path.{◌≡◌, refl, sym, ap, ◌∙◌}
use mathlib.Core.List.{List, [], ◌∷◌}
use Prim.Native.Nat.{ℕ, zero, suc, ◌+◌, ◌*◌, ◌/◌, ◌%◌, ◌^◌, ◌≤◌, ◌<◌}
use native.Mathlib.Nat.{zero-add, suc-add, pow-suc}
use native.Mathlib.Numerals.{add-one}
use native.Mathlib.Omega.{arith}
use lib.Pow.{pow_pos}
use lib.ListN.{length, get_or, drop, drop_of_length-le, replicate}
use lib.Seq.{drop-cons}
use Rattle.xor.proofs.Bits.{odd-lt}
use Rattle.join.specs.Remainders.{product, squares, chosen, scaled}
use Rattle.join.proofs.Products.{product_swap, product_lt, product_assoc, product-one}

module _ (w g : ℕ) where
  -- the loop over the factors: one more, and the end
  pub scaled-turn : (fs : List ℕ) (r n i : ℕ) → i < length fs
      → scaled w g (drop (i + 1) fs) (chosen w g r (get_or fs i 0) (n % 2)) (n / 2) ≡ scaled w g (drop i fs) r n
  unfolding scaled
  scaled-turn fs r n i h = rw (add-one, drop-cons fs i 0)

  pub scaled_end : (fs : List ℕ) (r n i : ℕ) → length fs ≤ i → scaled w g (drop i fs) r n ≡ r
  unfolding scaled
  scaled_end fs r n i h = rw (drop_of_length-le fs h)

  -- no digit, no factor
  pub scaled-none : (fs : List ℕ) (r : ℕ) → scaled w g fs r 0 ≡ r
  unfolding scaled chosen
  scaled-none [] r = refl
  scaled-none (f ∷ fs) r = scaled-none fs r

-- r times f, n times over
unfoldable pub times_over : ℕ → ℕ → ℕ → ℕ → ℕ → ℕ
times_over w g f zero r = r
times_over w g f (suc n) r = times_over w g f n (product w g r f)

module _ (w g : ℕ) (small : g < 2 ^ w) where
  over_add : (f m n r : ℕ) → times_over w g f (m + n) r ≡ times_over w g f n (times_over w g f m r)
  unfolding times_over
  over_add f zero n r = ap (λ (k : ℕ). times_over w g f k r) (zero-add n)
  over_add f (suc m) n r = ap (λ (k : ℕ). times_over w g f k r) (suc-add m n) ∙ over_add f m n (product w g r f)

  -- twice as often, or by the square
  over-square : (f n r : ℕ) → f < 2 ^ w → r < 2 ^ w → times_over w g (product w g f f) n r ≡ times_over w g f (n * 2) r
  unfolding times_over
  over-square f zero r hf hr = refl
  over-square f (suc n) r hf hr =
      let two : suc n * 2 ≡ suc (suc (n * 2)) = omega arith in
      over-square f n (product w g r (product w g f f)) hf (product_lt w g small r (product w g f f) hr)
      ∙ ap (times_over w g f (n * 2)) (sym (product_assoc w g small r f f hr hf hf))
      ∙ ap (λ (k : ℕ). times_over w g f k r) (sym two)

  over-chosen : (f d r : ℕ) → d < 2 → chosen w g r f d ≡ times_over w g f d r
  unfolding times_over chosen
  over-chosen f zero r h = refl
  over-chosen f (suc zero) r h = refl
  over-chosen f (suc (suc d)) r h = absurd (omega arith)

  chosen-lt : (f d r : ℕ) → r < 2 ^ w → chosen w g r f d < 2 ^ w
  unfolding chosen
  chosen-lt f zero r h = h
  chosen-lt f (suc d) r h = product_lt w g small r f h

  -- by the squares of f, the digits of n count how often
  pub scaled-over : (m f r n : ℕ) → f < 2 ^ w → r < 2 ^ w → n < 2 ^ m → scaled w g (squares w g m f) r n ≡ times_over w g f n r
  unfolding scaled squares times_over
  scaled-over zero f r n hf hr hn =
      let none : 0 ≡ n = omega arith in
      ap (λ (k : ℕ). times_over w g f k r) none
  scaled-over (suc m) f r n hf hr hn =
      let half : n / 2 < 2 ^ m = omega (arith, pow-suc 2 m) in
      let whole : n % 2 + n / 2 * 2 ≡ n = omega arith in
      scaled-over m (product w g f f) (chosen w g r f (n % 2)) (n / 2) (product_lt w g small f f hf) (chosen-lt f (n % 2) r hr) half
      ∙ over-square f (n / 2) (chosen w g r f (n % 2)) hf (chosen-lt f (n % 2) r hr)
      ∙ ap (times_over w g f (n / 2 * 2)) (over-chosen f (n % 2) r (odd-lt n))
      ∙ sym (over_add f (n % 2) (n / 2 * 2) r) ∙ ap (λ (k : ℕ). times_over w g f k r) whole

  -- what stands at the place k of the squares of f is f, 2 ^ k times
  pub squares-at : (m f k r : ℕ) → f < 2 ^ w → r < 2 ^ w → k < m → product w g r (get_or (squares w g m f) k 0) ≡ times_over w g f (2 ^ k) r
  unfolding squares times_over
  squares-at zero f k r hf hr hk = absurd (omega arith)
  squares-at (suc m) f zero r hf hr hk = refl
  squares-at (suc m) f (suc k) r hf hr hk =
      squares-at m (product w g f f) k r (product_lt w g small f f hf) hr (omega arith) ∙ over-square f (2 ^ k) r hf hr
      ∙ ap (λ (n : ℕ). times_over w g f n r) (sym (pow-suc 2 k))

-- the products of the factors at the same places
unfoldable pub products : ℕ → ℕ → List ℕ → List ℕ → List ℕ
products w g [] ks = []
products w g (f ∷ fs) [] = []
products w g (f ∷ fs) (k ∷ ks) = product w g f k ∷ products w g fs ks

-- each element is a remainder
abbrev Below : ℕ → List ℕ → Type 0
Below w l = (k : ℕ) → get_or l k 0 < 2 ^ w

module _ (w g : ℕ) (small : g < 2 ^ w) where
  pub squares-lt : (m f : ℕ) → f < 2 ^ w → Below w (squares w g m f)
  unfolding squares
  squares-lt zero f h k = pow_pos w
  squares-lt (suc m) f h zero = h
  squares-lt (suc m) f h (suc k) = squares-lt m (product w g f f) (product_lt w g small f f h) k

  chosen_swap : (r f d k e : ℕ) → chosen w g (chosen w g r f d) k e ≡ chosen w g (chosen w g r k e) f d
  unfolding chosen
  chosen_swap r f zero k zero = refl
  chosen_swap r f zero k (suc e) = refl
  chosen_swap r f (suc d) k zero = refl
  chosen_swap r f (suc d) k (suc e) = product_swap w g r f k

  -- one factor goes through
  pub scaled_swap : (fs : List ℕ) (r n k e : ℕ) → chosen w g (scaled w g fs r n) k e ≡ scaled w g fs (chosen w g r k e) n
  unfolding scaled
  scaled_swap [] r n k e = refl
  scaled_swap (f ∷ fs) r n k e =
      scaled_swap fs (chosen w g r f (n % 2)) (n / 2) k e ∙ ap (λ (x : ℕ). scaled w g fs x (n / 2)) (chosen_swap r f (n % 2) k e)

  chosen_undone : (r f k d : ℕ) → r < 2 ^ w → f < 2 ^ w → k < 2 ^ w → product w g f k ≡ 1 → chosen w g (chosen w g r f d) k d ≡ r
  unfolding chosen
  chosen_undone r f k zero hr hf hk e = refl
  chosen_undone r f k (suc d) hr hf hk e =
      let one : 1 < 2 ^ w = rw e at (product_lt w g small f k hf) in
      product_assoc w g small r f k hr hf hk ∙ ap (product w g r) e ∙ product-one w g small r hr one

  -- where each factor and the one at its place in the second table make 1, the second table undoes the first
  pub scaled_undone : (fs ks : List ℕ) (r n : ℕ) → Below w fs → Below w ks → length fs ≡ length ks → products w g fs ks ≡ replicate (length fs) 1
      → r < 2 ^ w → scaled w g ks (scaled w g fs r n) n ≡ r
  unfolding scaled products
  scaled_undone [] [] r n hf hk l e h = refl
  scaled_undone [] (k ∷ ks) r n hf hk l e h = absurd (omega arith)
  scaled_undone (f ∷ fs) [] r n hf hk l e h = absurd (omega arith)
  scaled_undone (f ∷ fs) (k ∷ ks) r n hf hk l e h =
      ap (λ (x : ℕ). scaled w g ks x (n / 2))
      (scaled_swap fs (chosen w g r f (n % 2)) (n / 2) k (n % 2)
      ∙ ap (λ (x : ℕ). scaled w g fs x (n / 2)) (chosen_undone r f k (n % 2) h (hf 0) (hk 0) (ap (λ (p : List ℕ). get_or p 0 0) e)))
      ∙ scaled_undone fs ks r (n / 2) (λ i. hf (suc i)) (λ i. hk (suc i)) (omega arith) (ap (drop 1) e) h
