-- The polynomial reading: the register is what long division leaves. The bytes' polynomial, times x ^ w, divided by the generator.
-- Assumes nothing.
use mathlib.Core.Path.{◌≡◌, refl, sym, ap, ap₂, ◌∙◌}
use mathlib.Core.List.{List, [], ◌∷◌, ◌++◌}
use Prim.Native.Nat.{ℕ, zero, suc, ◌+◌, ◌*◌, ◌/◌, ◌%◌, ◌^◌, ◌<◌}
use native.Mathlib.Nat.{mul-zero, mul-one, zero-mul, one-mul, mul_assoc, mul_comm, mod-lt, mod-eq_of_lt, div-add-mod', div-lt_iff_lt-mul, pow-suc}
use native.Mathlib.Omega.{arith}
use lib.Arith.{digits_lt}
use lib.Pow.{pow_pos}
use lib.Dec.{lit<}
use lib.ListN.{length, get_or}
use lib.Bits.{bit_xor, xor_lt, xor_shifted, xor_zero_r, xor_comm}
use Rattle.xor.proofs.Bits.{bit_elim, xor-four, xor_assoc, xor_undo, xor_shl}
use Rattle.crc.specs.Crc.{feed, bits, bits_of, bit_step}
use Rattle.crc.specs.Polynomial.{value, times, Remainder}
use Rattle.crc.specs.Guard.{generator, run, guard}
use Rattle.crc.proofs.Noticed.{feed-lt}

-- each element is a bit
abbrev pub Bits : List ℕ → Type 0
Bits l = (k : ℕ) → get_or l k 0 < 2

value-lt : (l : List ℕ) → Bits l → value l < 2 ^ length l
unfolding value
value-lt [] h = lit< tt
value-lt (b ∷ l) h = rw (pow-suc, mul_comm (2 ^ length l) 2) (digits_lt (h 0) (value-lt l (λ k. h (suc k))))

module _ (w g : ℕ) (odd : g % 2 ≡ 1) (small : g < 2 ^ w) (some : 0 < w) where
  -- one step of the division
  one : (r b : ℕ) → r < 2 ^ w → b < 2
      → bit_xor (r * 2) (b * 2 ^ w) ≡ bit_xor (bit_xor (r * 2 / 2 ^ w) b % 2 * (2 ^ w + g)) (bit_step w g r b)
  unfolding bit_step
  one r b hr hb =
      ap (λ (x : ℕ). bit_xor x (b * 2 ^ w)) (sym (div-add-mod' (r * 2) (2 ^ w)) ∙ sym (xor_shifted h w low lowlt))
      ∙ ap (bit_xor (bit_xor (h * 2 ^ w) low)) (sym (xor_zero_r (b * 2 ^ w)))
      ∙ xor-four (h * 2 ^ w) low (b * 2 ^ w) 0
      ∙ ap₂ bit_xor (xor_shl w h b ∙ ap (λ (x : ℕ). x * 2 ^ w) (sym (mod-eq_of_lt tlt))) (xor_zero_r low)
      ∙ bit_elim (λ (t : ℕ). bit_xor (t * 2 ^ w) low ≡ bit_xor (t * (2 ^ w + g)) (bit_xor low (g * t))) at0 at1 (bit_xor h b % 2) (rw (mod-eq_of_lt tlt) tlt)
    where
      h : ℕ
      h = r * 2 / 2 ^ w

      low : ℕ
      low = r * 2 % 2 ^ w

      lowlt : low < 2 ^ w
      lowlt = mod-lt (r * 2) (pow_pos w)

      hlt : h < 2
      hlt = (div-lt_iff_lt-mul (pow_pos w)).1 (omega arith)

      tlt : bit_xor h b < 2
      tlt = xor_lt 1 h b hlt hb

      at0 : bit_xor (0 * 2 ^ w) low ≡ bit_xor (0 * (2 ^ w + g)) (bit_xor low (g * 0))
      at0 = simp (zero-mul, mul-zero, xor_zero_r)

      at1 : bit_xor (1 * 2 ^ w) low ≡ bit_xor (1 * (2 ^ w + g)) (bit_xor low (g * 1))
      at1 =
          ap₂ bit_xor (one-mul (2 ^ w)) (sym (xor_undo g low) ∙ ap (bit_xor g) (xor_comm g low))
          ∙ sym (xor_assoc (2 ^ w) g (bit_xor low g))
          ∙ ap₂ (λ (x y : ℕ). bit_xor x (bit_xor low y)) (ap (λ (x : ℕ). bit_xor x g) (sym (one-mul (2 ^ w))) ∙ xor_shifted 1 w g small ∙ ap (λ (x : ℕ). x + g) (one-mul (2 ^ w)) ∙ sym (one-mul (2 ^ w + g))) (sym (mul-one g))

  quot : ℕ → List ℕ → List ℕ
  quot r [] = []
  quot r (b ∷ m) = bit_xor (r * 2 / 2 ^ w) b % 2 ∷ quot (bit_step w g r b) m

  length_quot : (r : ℕ) (m : List ℕ) → length (quot r m) ≡ length m
  unfolding quot
  length_quot r [] = refl
  length_quot r (b ∷ m) = ap suc (length_quot (bit_step w g r b) m)

  bits_quot : (r : ℕ) (m : List ℕ) → Bits (quot r m)
  unfolding quot
  bits_quot r [] k = lit< tt
  bits_quot r (b ∷ m) zero = mod-lt (bit_xor (r * 2 / 2 ^ w) b) (lit< tt)
  bits_quot r (b ∷ m) (suc k) = bits_quot (bit_step w g r b) m k

  divided : (m : List ℕ) (r : ℕ) → r < 2 ^ w → Bits m
      → bit_xor (r * 2 ^ length m) (value m * 2 ^ w) ≡ bit_xor (times (quot r m) (2 ^ w + g)) (feed w g r m)
  unfolding quot times feed value
  divided [] r hr hm = simp (mul-one, zero-mul, xor_zero_r)
  divided (b ∷ m) r hr hm =
      ap₂ bit_xor up
      (ap (λ (x : ℕ). x * 2 ^ w) (sym (xor_shifted b n (value m) (value-lt m (λ k. hm (suc k)))))
      ∙ sym (xor_shl w (b * 2 ^ n) (value m)) ∙ ap (λ (x : ℕ). bit_xor x val) across)
      ∙ sym (xor_assoc (r * 2 * 2 ^ n) (b * 2 ^ w * 2 ^ n) val)
      ∙ ap (λ (x : ℕ). bit_xor x val) (xor_shl n (r * 2) (b * 2 ^ w) ∙ ap (λ (x : ℕ). x * 2 ^ n) (one r b hr (hm 0)) ∙ sym (xor_shl n (t * (2 ^ w + g)) r₁))
      ∙ xor_assoc (t * (2 ^ w + g) * 2 ^ n) (r₁ * 2 ^ n) val
      ∙ ap₂ (λ (k x : ℕ). bit_xor (t * (2 ^ w + g) * 2 ^ k) x) (sym (length_quot r₁ m)) (divided m r₁ (feed-lt w g odd small some r (b ∷ []) hr) (λ k. hm (suc k)))
      ∙ sym (xor_assoc (t * (2 ^ w + g) * 2 ^ length (quot r₁ m)) (times (quot r₁ m) (2 ^ w + g)) (feed w g r₁ m))
    where
      n : ℕ
      n = length m

      t : ℕ
      t = bit_xor (r * 2 / 2 ^ w) b % 2

      r₁ : ℕ
      r₁ = bit_step w g r b

      val : ℕ
      val = value m * 2 ^ w

      up : r * 2 ^ suc n ≡ r * 2 * 2 ^ n
      up = ap (λ (x : ℕ). r * x) (pow-suc 2 n ∙ mul_comm (2 ^ n) 2) ∙ sym (mul_assoc r 2 (2 ^ n))

      across : b * 2 ^ n * 2 ^ w ≡ b * 2 ^ w * 2 ^ n
      across = mul_assoc b (2 ^ n) (2 ^ w) ∙ ap (λ (x : ℕ). b * x) (mul_comm (2 ^ n) (2 ^ w)) ∙ sym (mul_assoc b (2 ^ w) (2 ^ n))

bits-bits : (n x : ℕ) → Bits (bits n x)
unfolding bits
bits-bits zero x k = lit< tt
bits-bits (suc n) x zero = mod-lt (x / 2 ^ n) (lit< tt)
bits-bits (suc n) x (suc k) = bits-bits n x k

pub append_bits : (l m : List ℕ) → Bits l → Bits m → Bits (l ++ m)
append_bits [] m hl hm k = hm k
append_bits (b ∷ l) m hl hm zero = hl 0
append_bits (b ∷ l) m hl hm (suc k) = append_bits l m (λ k. hl (suc k)) hm k

bits-bits_of : (a : List ℕ) → Bits (bits_of a)
unfolding bits_of
bits-bits_of [] k = lit< tt
bits-bits_of (x ∷ a) k = append_bits (bits 8 x) (bits_of a) (bits-bits 8 x) (bits-bits_of a) k

-- over any width and odd generator: what the division of the bytes' polynomial times x ^ w leaves
pub feed-divides : (w g : ℕ) → g % 2 ≡ 1 → g < 2 ^ w → 0 < w → (bytes : List ℕ) → Remainder w g (value (bits_of bytes) * 2 ^ w) (feed w g 0 (bits_of bytes))
feed-divides w g odd small some bytes =
    record {
      quotient = quot w g odd small some 0 (bits_of bytes);
      digits = bits_quot w g odd small some 0 (bits_of bytes);
      below = feed-lt w g odd small some 0 (bits_of bytes) (pow_pos w);
      whole =
          ap (λ (x : ℕ). bit_xor x (value (bits_of bytes) * 2 ^ w)) (sym (zero-mul (2 ^ length (bits_of bytes))))
          ∙ divided w g odd small some (bits_of bytes) 0 (pow_pos w) (bits-bits_of bytes);
    }

pub guard-divides : (bytes : List ℕ) → Remainder 16 generator (value (bits_of bytes) * 2 ^ 16) (guard bytes)
unfolding guard run
guard-divides bytes = feed-divides 16 generator refl (lit< tt) (lit< tt) bytes
