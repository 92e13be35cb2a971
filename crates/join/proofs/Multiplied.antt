-- The polynomial reading of the product: it is what long division of the two polynomials' product by the generator leaves.
-- Assumes nothing.
use mathlib.Core.Path.{◌≡◌, refl, sym, ap, ap₂, ◌∙◌}
use mathlib.Core.List.{List, [], ◌∷◌}
use Prim.Native.Nat.{ℕ, zero, suc, ◌+◌, ◌*◌, ◌/◌, ◌%◌, ◌^◌, ◌<◌}
use native.Mathlib.Nat.{mul-zero, mul-one, zero-mul, one-mul, mul_assoc, mul_comm, mod-lt, mod-eq_of_lt, div-add-mod', div-lt_iff_lt-mul, pow-suc}
use native.Mathlib.Omega.{arith}
use lib.Dec.{lit<}
use lib.Pow.{pow_pos}
use lib.ListN.{length}
use lib.Bits.{bit_xor, xor_self, xor_shifted, xor_zero_r, xor_lt}
use Rattle.xor.proofs.Bits.{bit_elim, xor_assoc, xor-four, xor_shl}
use Rattle.crc.specs.Crc.{bits, bit_step}
use Rattle.crc.specs.Polynomial.{times, Remainder}
use Rattle.join.specs.Remainders.{horner, product}
use Rattle.crc.proofs.Linear.{length-bits}
use Rattle.crc.proofs.Division.{Bits}
use Rattle.join.proofs.Products.{digit_lt, up_lt, horner-lt}

module _ (w g : ℕ) (small : g < 2 ^ w) where
  -- the digit that leaves the register at the top
  leaving_lt : (r : ℕ) → r < 2 ^ w → r * 2 / 2 ^ w < 2
  leaving_lt r h = (div-lt_iff_lt-mul (pow_pos w)).1 (omega arith)

  -- moved up by one place, a register gives it, times the generator, and the next register
  moved : (r : ℕ) → r < 2 ^ w → r * 2 ≡ bit_xor (r * 2 / 2 ^ w * (2 ^ w + g)) (bit_step w g r 0)
  unfolding bit_step
  moved r h =
      sym (div-add-mod' (r * 2) (2 ^ w)) ∙ sym (xor_shifted top w low (mod-lt (r * 2) (pow_pos w)))
      ∙ bit_elim (λ (t : ℕ). bit_xor (t * 2 ^ w) low ≡ bit_xor (t * (2 ^ w + g)) (bit_xor low (g * t)))
      (simp (zero-mul, mul-zero, xor_zero_r)) at1 top (leaving_lt r h)
      ∙ ap (λ (t : ℕ). bit_xor (top * (2 ^ w + g)) (bit_xor low (g * t))) (sym (ap (λ (x : ℕ). x % 2) (xor_zero_r top) ∙ mod-eq_of_lt (leaving_lt r h)))
    where
      top : ℕ
      top = r * 2 / 2 ^ w

      low : ℕ
      low = r * 2 % 2 ^ w

      at1 : bit_xor (1 * 2 ^ w) low ≡ bit_xor (1 * (2 ^ w + g)) (bit_xor low (g * 1))
      at1 =
          sym (xor_zero_r (bit_xor (1 * 2 ^ w) low)) ∙ ap (bit_xor (bit_xor (1 * 2 ^ w) low)) (sym (xor_self g))
          ∙ xor-four (1 * 2 ^ w) low g g
          ∙ ap₂ bit_xor (xor_shifted 1 w g small ∙ ap (λ (x : ℕ). x + g) (one-mul (2 ^ w)) ∙ sym (one-mul (2 ^ w + g))) (ap (bit_xor low) (sym (mul-one g)))

  module _ (a b : ℕ) (ha : a < 2 ^ w) where
    -- the register after one digit more
    next : ℕ → ℕ → ℕ
    next n r = bit_xor (bit_step w g r 0) (a * (b / 2 ^ n % 2))

    next-lt : (n r : ℕ) → next n r < 2 ^ w
    unfolding next
    next-lt n r = xor_lt w (bit_step w g r 0) (a * (b / 2 ^ n % 2)) (up_lt w g small r) (digit_lt w a (b / 2 ^ n) ha)

    quot : ℕ → ℕ → List ℕ
    quot zero r = []
    quot (suc n) r = r * 2 / 2 ^ w ∷ quot n (next n r)

    length_quot : (n r : ℕ) → length (quot n r) ≡ n
    unfolding quot
    length_quot zero r = refl
    length_quot (suc n) r = ap suc (length_quot n (next n r))

    bits_quot : (n r : ℕ) → r < 2 ^ w → Bits (quot n r)
    unfolding quot
    bits_quot zero r h k = lit< tt
    bits_quot (suc n) r h zero = leaving_lt r h
    bits_quot (suc n) r h (suc k) = bits_quot n (next n r) (next-lt n r) k

    divided : (n r : ℕ) → r < 2 ^ w
        → bit_xor (r * 2 ^ n) (times (bits n b) a) ≡ bit_xor (times (quot n r) (2 ^ w + g)) (horner w g a b n r)
    unfolding quot times horner bits next
    divided zero r h = simp (mul-one, xor_zero_r)
    divided (suc n) r h =
        ap₂ bit_xor (ap (λ (x : ℕ). r * x) (pow-suc 2 n ∙ mul_comm (2 ^ n) 2) ∙ sym (mul_assoc r 2 (2 ^ n)))
        (ap (λ (k : ℕ). bit_xor (t * a * 2 ^ k) rest) (length-bits n b))
        ∙ sym (xor_assoc (r * 2 * 2 ^ n) (t * a * 2 ^ n) rest)
        ∙ ap (λ (x : ℕ). bit_xor x rest)
        (xor_shl n (r * 2) (t * a)
        ∙ ap (λ (x : ℕ). x * 2 ^ n) (ap₂ bit_xor (moved r h) (mul_comm t a) ∙ xor_assoc (top * (2 ^ w + g)) (bit_step w g r 0) (a * t))
        ∙ sym (xor_shl n (top * (2 ^ w + g)) (next n r)))
        ∙ xor_assoc (top * (2 ^ w + g) * 2 ^ n) (next n r * 2 ^ n) rest
        ∙ ap₂ (λ (k x : ℕ). bit_xor (top * (2 ^ w + g) * 2 ^ k) x) (sym (length_quot n (next n r))) (divided n (next n r) (next-lt n r))
        ∙ sym (xor_assoc (top * (2 ^ w + g) * 2 ^ length (quot n (next n r))) (times (quot n (next n r)) (2 ^ w + g)) (horner w g a b n (next n r)))
      where
        t : ℕ
        t = b / 2 ^ n % 2

        top : ℕ
        top = r * 2 / 2 ^ w

        rest : ℕ
        rest = times (bits n b) a

-- over any width and generator
pub product-divides : (w g : ℕ) → g < 2 ^ w → (a b : ℕ) → a < 2 ^ w → Remainder w g (times (bits w b) a) (product w g a b)
unfolding product
product-divides w g small a b h =
    record {
      quotient = quot w g small a b h w 0;
      digits = bits_quot w g small a b h w 0 (pow_pos w);
      below = horner-lt w g small a b w 0 h (pow_pos w);
      whole = ap (λ (x : ℕ). bit_xor x (times (bits w b) a)) (sym (zero-mul (2 ^ w))) ∙ divided w g small a b h w 0 (pow_pos w);
    }
