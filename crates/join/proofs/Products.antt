-- Remainders multiply as numbers do. The idea: multiplying by one remainder is a linear map that x passes through, and each such map
-- passes through the whole product, factor by factor; so two factors may change places, and 1 starts each product.
-- Assumes nothing.
use mathlib.Core.Path.{◌≡◌, refl, sym, ap, ap₂, ◌∙◌}
use Prim.Native.Nat.{ℕ, zero, suc, ◌*◌, ◌/◌, ◌%◌, ◌^◌, ◌<◌}
use native.Mathlib.Nat.{div-one, div-eq_of_lt, div-add-mod', div-div-eq-div-mul, mod-lt, mod-eq_of_lt, mul-zero, mul-one, one-mul, pow-suc}
use native.Mathlib.Omega.{arith}
use lib.Pow.{pow_pos, shr_le}
use lib.ListN.{replicate}
use lib.Bits.{bit_xor, xor_lt, xor_self, xor_zero_r, xor_shifted}
use Rattle.xor.proofs.Bits.{bit_elim, odd-lt, xor-four}
use Rattle.crc.specs.Crc.{bit_step, feed}
use Rattle.join.specs.Remainders.{horner, product}
use Rattle.crc.proofs.Linear.{step_linear}

-- a map that goes through sums
abbrev Linear : (ℕ → ℕ) → Type 0
Linear f = (r s : ℕ) → f (bit_xor r s) ≡ bit_xor (f r) (f s)

linear_zero : (f : ℕ → ℕ) → Linear f → f 0 ≡ 0
linear_zero f lin = lin 0 0 ∙ xor_self (f 0)

-- and through the product with a digit
linear_digit : (f : ℕ → ℕ) → Linear f → (a t : ℕ) → t < 2 → f (a * t) ≡ f a * t
linear_digit f lin a t h =
    bit_elim (λ (t : ℕ). f (a * t) ≡ f a * t) (ap f (mul-zero a) ∙ linear_zero f lin ∙ sym (mul-zero (f a))) (ap f (mul-one a) ∙ sym (mul-one (f a))) t h

-- a sum times a digit
digit_linear : (a b t : ℕ) → t < 2 → bit_xor a b * t ≡ bit_xor (a * t) (b * t)
digit_linear a b t h =
    bit_elim (λ (t : ℕ). bit_xor a b * t ≡ bit_xor (a * t) (b * t)) (simp mul-zero) (simp mul-one) t h

-- the product with a digit is no longer than its factor
pub digit_lt : (w a b : ℕ) → a < 2 ^ w → a * (b % 2) < 2 ^ w
digit_lt w a b h = bit_elim (λ (t : ℕ). a * t < 2 ^ w) (rw mul-zero (pow_pos w)) (rw mul-one h) (b % 2) (odd-lt b)

module _ (w g : ℕ) where
  -- r times x
  abbrev up : ℕ → ℕ
  up r = bit_step w g r 0

  up_linear : Linear up
  up_linear r s = step_linear w g r s 0 0

  -- a linear map that x passes through passes through the product
  through : (f : ℕ → ℕ) → Linear f → ((r : ℕ) → f (up r) ≡ up (f r)) → (a b n r : ℕ) → f (horner w g a b n r) ≡ horner w g (f a) b n (f r)
  unfolding horner
  through f lin x a b zero r = refl
  through f lin x a b (suc n) r =
      let t = b / 2 ^ n % 2 in
      through f lin x a b n (bit_xor (up r) (a * t))
      ∙ ap (horner w g (f a) b n) (lin (up r) (a * t) ∙ ap₂ bit_xor (x r) (linear_digit f lin a t (odd-lt (b / 2 ^ n))))

  horner_linear : (a b c n r s : ℕ) → horner w g (bit_xor a b) c n (bit_xor r s) ≡ bit_xor (horner w g a c n r) (horner w g b c n s)
  unfolding horner
  horner_linear a b c zero r s = refl
  horner_linear a b c (suc n) r s =
      let t = c / 2 ^ n % 2 in
      ap (horner w g (bit_xor a b) c n)
      (ap₂ bit_xor (up_linear r s) (digit_linear a b t (odd-lt (c / 2 ^ n))) ∙ xor-four (up r) (up s) (a * t) (b * t))
      ∙ horner_linear a b c n (bit_xor (up r) (a * t)) (bit_xor (up s) (b * t))

  -- a product is linear in its first factor
  pub product_linear : (a b c : ℕ) → product w g (bit_xor a b) c ≡ bit_xor (product w g a c) (product w g b c)
  unfolding product
  product_linear a b c = horner_linear a b c w 0 0

  -- and x passes through
  pub product-up : (a b : ℕ) → product w g (bit_step w g a 0) b ≡ bit_step w g (product w g a b) 0
  unfolding product
  product-up a b = ap (horner w g (up a) b w) (sym (linear_zero up up_linear)) ∙ sym (through up up_linear (λ r. refl) a b w 0)

  -- two factors change places
  pub product_swap : (a b c : ℕ) → product w g (product w g a b) c ≡ product w g (product w g a c) b
  unfolding product
  product_swap a b c =
      through (λ r. product w g r c) (λ r s. product_linear r s c) (λ r. product-up r c) a b w 0
      ∙ ap (horner w g (product w g a c) b w) (linear_zero (λ r. product w g r c) (λ r s. product_linear r s c))

  -- a register that is moved up within its width
  up-within : (r : ℕ) → r * 2 < 2 ^ w → up r ≡ r * 2
  unfolding bit_step
  up-within r h =
      ap₂ (λ (x y : ℕ). bit_xor x (g * (bit_xor y 0 % 2))) (mod-eq_of_lt h) (div-eq_of_lt h) ∙ ap (bit_xor (r * 2)) (mul-zero g) ∙ xor_zero_r (r * 2)

  -- from 1, the digits of b make b
  one-digits : (b n : ℕ) → b < 2 ^ w → horner w g 1 b n (b / 2 ^ n) ≡ b
  unfolding horner
  one-digits b zero h = div-one b
  one-digits b (suc n) h =
      let q = b / 2 ^ n in
      let half : b / 2 ^ suc n ≡ q / 2 = ap (λ (x : ℕ). b / x) (pow-suc 2 n) ∙ sym (div-div-eq-div-mul b (2 ^ n) 2) in
      let fits : q / 2 * 2 < 2 ^ w = omega (arith, shr_le b n) in
      ap (horner w g 1 b n)
      (ap₂ bit_xor (ap up half ∙ up-within (q / 2) fits) (one-mul (q % 2)) ∙ xor_shifted (q / 2) 1 (q % 2) (odd-lt q) ∙ div-add-mod' q 2)
      ∙ one-digits b n h

  pub one_product : (b : ℕ) → b < 2 ^ w → product w g 1 b ≡ b
  unfolding product
  one_product b h = ap (horner w g 1 b w) (sym (div-eq_of_lt h)) ∙ one-digits b w h

  pub product_comm : (a b : ℕ) → a < 2 ^ w → b < 2 ^ w → product w g a b ≡ product w g b a
  product_comm a b ha hb =
      ap (λ (x : ℕ). product w g x b) (sym (one_product a ha)) ∙ product_swap 1 a b ∙ ap (λ (x : ℕ). product w g x a) (one_product b hb)

module _ (w g : ℕ) (small : g < 2 ^ w) where
  pub up_lt : (r : ℕ) → bit_step w g r 0 < 2 ^ w
  unfolding bit_step
  up_lt r =
      xor_lt w (r * 2 % 2 ^ w) (g * (bit_xor (r * 2 / 2 ^ w) 0 % 2)) (mod-lt (r * 2) (pow_pos w)) (digit_lt w g (bit_xor (r * 2 / 2 ^ w) 0) small)

  pub horner-lt : (a b n r : ℕ) → a < 2 ^ w → r < 2 ^ w → horner w g a b n r < 2 ^ w
  unfolding horner
  horner-lt a b zero r ha hr = hr
  horner-lt a b (suc n) r ha hr =
      let t = b / 2 ^ n % 2 in
      horner-lt a b n (bit_xor (bit_step w g r 0) (a * t)) ha (xor_lt w (bit_step w g r 0) (a * t) (up_lt r) (digit_lt w a (b / 2 ^ n) ha))

  -- a product is a remainder
  pub product_lt : (a b : ℕ) → a < 2 ^ w → product w g a b < 2 ^ w
  unfolding product
  product_lt a b h = horner-lt a b w 0 h (pow_pos w)

  pub product_assoc : (a b c : ℕ) → a < 2 ^ w → b < 2 ^ w → c < 2 ^ w → product w g (product w g a b) c ≡ product w g a (product w g b c)
  product_assoc a b c ha hb hc =
      ap (λ (x : ℕ). product w g x c) (product_comm w g a b ha hb) ∙ product_swap w g b a c
      ∙ product_comm w g (product w g b c) a (product_lt b c hb) ha

  -- x passes through the second factor too
  pub product-up-second : (a b : ℕ) → a < 2 ^ w → b < 2 ^ w → product w g a (bit_step w g b 0) ≡ bit_step w g (product w g a b) 0
  product-up-second a b ha hb =
      product_comm w g a (bit_step w g b 0) ha (up_lt b) ∙ product-up w g b a ∙ ap (λ (r : ℕ). bit_step w g r 0) (product_comm w g b a hb ha)

  -- and so do bits 0
  pub product_zeros : (n a b : ℕ) → a < 2 ^ w → b < 2 ^ w
      → product w g a (feed w g b (replicate n 0)) ≡ feed w g (product w g a b) (replicate n 0)
  unfolding feed
  product_zeros zero a b ha hb = refl
  product_zeros (suc n) a b ha hb =
      product_zeros n a (bit_step w g b 0) ha (up_lt b) ∙ ap (λ (r : ℕ). feed w g r (replicate n 0)) (product-up-second a b ha hb)

  -- 1 as the second factor
  pub product-one : (a : ℕ) → a < 2 ^ w → 1 < 2 ^ w → product w g a 1 ≡ a
  product-one a ha one = product_comm w g a 1 ha one ∙ one_product w g a ha
