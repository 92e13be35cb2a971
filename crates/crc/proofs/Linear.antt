-- The register is linear: the exclusive-or of two runs takes the exclusive-or of their registers to that of their results.
-- Assumes nothing.
use mathlib.Core.Path.{◌≡◌, refl, sym, ap, ap₂, ◌∙◌}
use mathlib.Core.List.{List, [], ◌∷◌, ◌++◌}
use Prim.Native.Nat.{ℕ, zero, suc, ◌*◌, ◌/◌, ◌%◌, ◌^◌}
use native.Mathlib.Omega.{arith}
use lib.ListN.{length}
use lib.Bits.{bit_xor, xor_shr, xor_mod}
use Rattle.xor.specs.Xors.{xors}
use Rattle.xor.proofs.Bits.{xor-four, xor_shl, times_bit, odd-lt}
use Rattle.xor.proofs.Lists.{xors-append}
use Rattle.crc.specs.Crc.{feed, bits, bits_of, bit_step}
use Rattle.crc.specs.Guard.{generator, run, guard}

-- one bit
pub step_linear : (w g r s b c : ℕ) → bit_step w g (bit_xor r s) (bit_xor b c) ≡ bit_xor (bit_step w g r b) (bit_step w g s c)
unfolding bit_step
step_linear w g r s b c =
    ap₂ bit_xor
    (ap (λ (x : ℕ). x % 2 ^ w) twice ∙ xor_mod (r * 2) (s * 2) w)
    (ap (λ (x : ℕ). g * (x % 2)) (ap (λ (x : ℕ). bit_xor (x / 2 ^ w) (bit_xor b c)) twice ∙ ap (λ (x : ℕ). bit_xor x (bit_xor b c)) (xor_shr (r * 2) (s * 2) w) ∙ xor-four (r * 2 / 2 ^ w) (s * 2 / 2 ^ w) b c)
    ∙ ap (λ (x : ℕ). g * x) (xor_mod (bit_xor (r * 2 / 2 ^ w) b) (bit_xor (s * 2 / 2 ^ w) c) 1)
    ∙ times_bit g (bit_xor (r * 2 / 2 ^ w) b % 2) (bit_xor (s * 2 / 2 ^ w) c % 2) (odd-lt (bit_xor (r * 2 / 2 ^ w) b)) (odd-lt (bit_xor (s * 2 / 2 ^ w) c)))
    ∙ xor-four (r * 2 % 2 ^ w) (s * 2 % 2 ^ w) (g * (bit_xor (r * 2 / 2 ^ w) b % 2)) (g * (bit_xor (s * 2 / 2 ^ w) c % 2))
  where
    twice : bit_xor r s * 2 ≡ bit_xor (r * 2) (s * 2)
    twice = sym (xor_shl 1 r s)

pub feed_linear : (w g : ℕ) (a b : List ℕ) (r s : ℕ) → length a ≡ length b
    → feed w g (bit_xor r s) (xors a b) ≡ bit_xor (feed w g r a) (feed w g s b)
unfolding feed xors
feed_linear w g [] [] r s h = refl
feed_linear w g [] (y ∷ b) r s h = absurd (omega arith)
feed_linear w g (x ∷ a) [] r s h = absurd (omega arith)
feed_linear w g (x ∷ a) (y ∷ b) r s h =
    ap (λ (q : ℕ). feed w g q (xors a b)) (step_linear w g r s x y) ∙ feed_linear w g a b (bit_step w g r x) (bit_step w g s y) (omega arith)

-- from bytes to bits
pub bits-xor : (n x y : ℕ) → bits n (bit_xor x y) ≡ xors (bits n x) (bits n y)
unfolding bits xors
bits-xor zero x y = refl
bits-xor (suc n) x y =
    ap₂ (λ (p : ℕ) (l : List ℕ). p ∷ l) (ap (λ (q : ℕ). q % 2) (xor_shr x y n) ∙ xor_mod (x / 2 ^ n) (y / 2 ^ n) 1) (bits-xor n x y)

pub length-bits : (n x : ℕ) → length (bits n x) ≡ n
unfolding bits
length-bits zero x = refl
length-bits (suc n) x = ap suc (length-bits n x)

pub bits_of-xors : (a b : List ℕ) → length a ≡ length b → bits_of (xors a b) ≡ xors (bits_of a) (bits_of b)
unfolding bits_of xors
bits_of-xors [] [] h = refl
bits_of-xors [] (y ∷ b) h = absurd (omega arith)
bits_of-xors (x ∷ a) [] h = absurd (omega arith)
bits_of-xors (x ∷ a) (y ∷ b) h =
    ap₂ (λ (l m : List ℕ). l ++ m) (bits-xor 8 x y) (bits_of-xors a b (omega arith))
    ∙ sym (xors-append (bits 8 x) (bits_of a) (bits 8 y) (bits_of b) (length-bits 8 x ∙ sym (length-bits 8 y)))

pub length-bits_of : (a b : List ℕ) → length a ≡ length b → length (bits_of a) ≡ length (bits_of b)
unfolding bits_of bits
length-bits_of [] [] h = refl
length-bits_of [] (y ∷ b) h = absurd (omega arith)
length-bits_of (x ∷ a) [] h = absurd (omega arith)
length-bits_of (x ∷ a) (y ∷ b) h = omega (arith, length-bits_of a b (omega arith))

pub feed-bytes_linear : (w g r s : ℕ) (a b : List ℕ) → length a ≡ length b
    → feed w g (bit_xor r s) (bits_of (xors a b)) ≡ bit_xor (feed w g r (bits_of a)) (feed w g s (bits_of b))
feed-bytes_linear w g r s a b h =
    ap (feed w g (bit_xor r s)) (bits_of-xors a b h) ∙ feed_linear w g (bits_of a) (bits_of b) r s (length-bits_of a b h)

pub run_linear : (r s : ℕ) (a b : List ℕ) → length a ≡ length b → run (bit_xor r s) (xors a b) ≡ bit_xor (run r a) (run s b)
unfolding run
run_linear r s a b h = feed-bytes_linear 16 generator r s a b h

-- two equally long runs: adding them first or adding their guards comes to one
pub guard_linear : (a b : List ℕ) → length a ≡ length b → guard (xors a b) ≡ bit_xor (guard a) (guard b)
unfolding guard
guard_linear a b h = run_linear 0 0 a b h
