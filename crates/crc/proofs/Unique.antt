-- What a division by the generator leaves is one number, whichever quotient is found.
-- Assumes nothing.
use mathlib.Core.Path.{◌≡◌, refl, sym, ap, ap₂, ◌∙◌}
use mathlib.Core.List.{List, [], ◌∷◌, ◌++◌}
use Prim.Native.Nat.{ℕ, zero, suc, ◌+◌, ◌*◌, ◌/◌, ◌^◌, ◌<◌}
use native.Mathlib.Nat.{add-mul, div-eq_of_lt, lt_of_lt_of_le, le-add_right, zero-mul, one-mul, mul_comm, pow-suc}
use native.Mathlib.Omega.{arith}
use lib.Pow.{pow_pos, pow-add, pow_mono, shl_lt, high}
use lib.Dec.{lit<}
use lib.ListN.{length, replicate, length-replicate, length-append}
use lib.Bits.{bit_xor, xor_shr, xor_lt, xor_self}
use Rattle.xor.specs.Xors.{xors}
use Rattle.xor.proofs.Bits.{bit_elim, times_bit, xor_eq, xor-four, xor_shl}
use Rattle.xor.proofs.Lists.{length-xors}
use Rattle.crc.specs.Polynomial.{times, Remainder}
use Rattle.crc.proofs.Division.{Bits, append_bits}

bits-xors : (q p : List ℕ) → Bits q → Bits p → Bits (xors q p)
unfolding xors
bits-xors [] p hq hp k = lit< tt
bits-xors (b ∷ q) [] hq hp k = hq k
bits-xors (b ∷ q) (c ∷ p) hq hp zero = xor_lt 1 b c (hq 0) (hp 0)
bits-xors (b ∷ q) (c ∷ p) hq hp (suc k) = bits-xors q p (λ k. hq (suc k)) (λ k. hp (suc k)) k

module _ (w g : ℕ) (small : g < 2 ^ w) where
  -- the generator, n places up
  shifted_up : (n : ℕ) → 1 * (2 ^ w + g) * 2 ^ n ≡ 1 * 2 ^ (w + n) + g * 2 ^ n
  shifted_up n =
      ap (λ (x : ℕ). x * 2 ^ n) (one-mul (2 ^ w + g)) ∙ add-mul (2 ^ w) g (2 ^ n)
      ∙ ap (λ (x : ℕ). x + g * 2 ^ n) (sym (pow-add 2 w n) ∙ sym (one-mul (2 ^ (w + n))))

  times-lt : (q : List ℕ) → Bits q → times q (2 ^ w + g) < 2 ^ (w + length q)
  unfolding times
  times-lt [] h = pow_pos (w + 0)
  times-lt (b ∷ q) h =
      let n = length q in
      let more : w + suc n ≡ suc (w + n) = omega arith in
      let up : 2 ^ (w + suc n) ≡ 2 ^ (w + n) * 2 = ap (λ (k : ℕ). 2 ^ k) more ∙ pow-suc 2 (w + n) in
      let low : g * 2 ^ n < 2 ^ (w + n) = shl_lt {a = g} w n small in
      let rest : times q (2 ^ w + g) < 2 ^ (w + n) = times-lt q (λ k. h (suc k)) in
      let first : 1 * (2 ^ w + g) * 2 ^ n < 2 ^ (w + suc n) = omega (arith, shifted_up n) in
      xor_lt (w + suc n) (b * (2 ^ w + g) * 2 ^ n) (times q (2 ^ w + g))
      (bit_elim (λ (t : ℕ). t * (2 ^ w + g) * 2 ^ n < 2 ^ (w + suc n)) (simp zero-mul (pow_pos (w + suc n))) first b (h 0))
      (omega arith)

  -- a multiple of the generator that is below 2 ^ w is 0
  times_zero : (q : List ℕ) → Bits q → times q (2 ^ w + g) < 2 ^ w → times q (2 ^ w + g) ≡ 0
  unfolding times
  times_zero [] h l = refl
  times_zero (b ∷ q) h l =
      bit_elim (λ (t : ℕ). bit_xor (t * (2 ^ w + g) * 2 ^ n) (times q (2 ^ w + g)) < 2 ^ w → bit_xor (t * (2 ^ w + g) * 2 ^ n) (times q (2 ^ w + g)) ≡ 0)
      (λ l₀. none ∙ times_zero q (λ k. h (suc k)) (rw none at l₀)) (λ l₁. absurd (apart l₁)) b (h 0) l
    where
      n : ℕ
      n = length q

      none : bit_xor (0 * (2 ^ w + g) * 2 ^ n) (times q (2 ^ w + g)) ≡ times q (2 ^ w + g)
      none = simp zero-mul

      apart : bit_xor (1 * (2 ^ w + g) * 2 ^ n) (times q (2 ^ w + g)) < 2 ^ w → ⊥
      apart l₁ =
          let low : bit_xor (1 * (2 ^ w + g) * 2 ^ n) (times q (2 ^ w + g)) < 2 ^ (w + n) = lt_of_lt_of_le l₁ (pow_mono (le-add_right w n)) in
          let top : bit_xor (1 * (2 ^ w + g) * 2 ^ n) (times q (2 ^ w + g)) / 2 ^ (w + n) ≡ 1 =
          xor_shr (1 * (2 ^ w + g) * 2 ^ n) (times q (2 ^ w + g)) (w + n)
          ∙ ap₂ bit_xor (ap (λ (x : ℕ). x / 2 ^ (w + n)) (shifted_up n) ∙ high 1 (w + n) (shl_lt {a = g} w n small)) (div-eq_of_lt (times-lt q (λ k. h (suc k)))) in
          let flat : bit_xor (1 * (2 ^ w + g) * 2 ^ n) (times q (2 ^ w + g)) / 2 ^ (w + n) ≡ 0 = div-eq_of_lt low in
          omega arith

  times-xors : (q p : List ℕ) → Bits q → Bits p → length q ≡ length p
      → times (xors q p) (2 ^ w + g) ≡ bit_xor (times q (2 ^ w + g)) (times p (2 ^ w + g))
  unfolding times xors
  times-xors [] [] hq hp e = refl
  times-xors [] (c ∷ p) hq hp e = absurd (omega arith)
  times-xors (b ∷ q) [] hq hp e = absurd (omega arith)
  times-xors (b ∷ q) (c ∷ p) hq hp e =
      ap₂ bit_xor
      (ap (λ (k : ℕ). bit_xor b c * (2 ^ w + g) * 2 ^ k) (length-xors q p)
      ∙ ap (λ (x : ℕ). x * 2 ^ length q) (mul_comm (bit_xor b c) (2 ^ w + g) ∙ times_bit (2 ^ w + g) b c (hq 0) (hp 0) ∙ ap₂ bit_xor (mul_comm (2 ^ w + g) b) (mul_comm (2 ^ w + g) c))
      ∙ sym (xor_shl (length q) (b * (2 ^ w + g)) (c * (2 ^ w + g)))
      ∙ ap (λ (k : ℕ). bit_xor (b * (2 ^ w + g) * 2 ^ length q) (c * (2 ^ w + g) * 2 ^ k)) e')
      (times-xors q p (λ k. hq (suc k)) (λ k. hp (suc k)) e')
      ∙ xor-four (b * (2 ^ w + g) * 2 ^ length q) (c * (2 ^ w + g) * 2 ^ length p) (times q (2 ^ w + g)) (times p (2 ^ w + g))
    where
      e' : length q ≡ length p
      e' = omega arith

times_pad : (n g : ℕ) (q : List ℕ) → times (replicate n 0 ++ q) g ≡ times q g
unfolding times
times_pad zero g q = refl
times_pad (suc n) g q =
    ap (λ (x : ℕ). bit_xor (x * 2 ^ length (replicate n 0 ++ q)) (times (replicate n 0 ++ q) g)) (zero-mul g)
    ∙ ap (λ (x : ℕ). bit_xor x (times (replicate n 0 ++ q) g)) (zero-mul (2 ^ length (replicate n 0 ++ q))) ∙ times_pad n g q

bits-replicate : (n : ℕ) → Bits (replicate n 0)
bits-replicate zero k = lit< tt
bits-replicate (suc n) zero = lit< tt
bits-replicate (suc n) (suc k) = bits-replicate n k

-- two remainders of one division are one
pub remainder_one : (w g : ℕ) → g < 2 ^ w → (m r s : ℕ) → Remainder w g m r → Remainder w g m s → r ≡ s
remainder_one w g small m r s x y =
    xor_eq r s (equal ∙ times_zero w g small (xors q p) (bits-xors q p bq bp) (rw equal at (xor_lt w r s x.below y.below)))
  where
    tx : ℕ
    tx = times x.quotient (2 ^ w + g)

    ty : ℕ
    ty = times y.quotient (2 ^ w + g)

    q : List ℕ
    q = replicate (length y.quotient) 0 ++ x.quotient

    p : List ℕ
    p = replicate (length x.quotient) 0 ++ y.quotient

    bq : Bits q
    bq = append_bits (replicate (length y.quotient) 0) x.quotient (bits-replicate (length y.quotient)) x.digits

    bp : Bits p
    bp = append_bits (replicate (length x.quotient) 0) y.quotient (bits-replicate (length x.quotient)) y.digits

    long : length q ≡ length p
    long = simp (length-append, length-replicate) (omega arith)

    parts : bit_xor tx ty ≡ bit_xor r s
    parts = xor_eq (bit_xor tx ty) (bit_xor r s) (xor-four tx ty r s ∙ ap₂ bit_xor (sym x.whole) (sym y.whole) ∙ xor_self m)

    equal : bit_xor r s ≡ times (xors q p) (2 ^ w + g)
    equal =
        sym parts
        ∙ ap₂ bit_xor (sym (times_pad (length y.quotient) (2 ^ w + g) x.quotient)) (sym (times_pad (length x.quotient) (2 ^ w + g) y.quotient))
        ∙ sym (times-xors w g small q p bq bp long)
