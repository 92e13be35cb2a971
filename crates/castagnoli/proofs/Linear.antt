-- The register is linear: the exclusive-or of two runs takes the exclusive-or of their registers to that of their results.
-- Assumes nothing.
use mathlib.Core.Path.{◌≡◌, refl, sym, ap, ap₂, ◌∙◌}
use mathlib.Core.List.{List, [], ◌∷◌, ◌++◌}
use Prim.Native.Nat.{ℕ, zero, suc, ◌*◌, ◌/◌, ◌%◌}
use native.Mathlib.Omega.{arith}
use lib.ListN.{length}
use lib.Bits.{bit_xor, xor_shr, xor_mod}
use Rattle.xor.specs.Xors.{xors}
use Rattle.xor.proofs.Bits.{xor-four, times_bit, odd-lt}
use Rattle.xor.proofs.Lists.{xors-append}
use Rattle.castagnoli.specs.Reflected.{bits_up, bits_up_of, step_down, feed_down}
use Rattle.castagnoli.specs.Castagnoli.{generator, advance}

-- one bit
step_linear : (g r s b c : ℕ) → step_down g (bit_xor r s) (bit_xor b c) ≡ bit_xor (step_down g r b) (step_down g s c)
unfolding step_down
step_linear g r s b c =
    ap₂ bit_xor (xor_shr r s 1)
    (ap (λ (x : ℕ). g * (x % 2)) (xor-four r s b c) ∙ ap (λ (x : ℕ). g * x) (xor_mod (bit_xor r b) (bit_xor s c) 1)
    ∙ times_bit g (bit_xor r b % 2) (bit_xor s c % 2) (odd-lt (bit_xor r b)) (odd-lt (bit_xor s c)))
    ∙ xor-four (r / 2) (s / 2) (g * (bit_xor r b % 2)) (g * (bit_xor s c % 2))

pub feed_linear : (g : ℕ) (a b : List ℕ) (r s : ℕ) → length a ≡ length b
    → feed_down g (bit_xor r s) (xors a b) ≡ bit_xor (feed_down g r a) (feed_down g s b)
unfolding feed_down xors
feed_linear g [] [] r s h = refl
feed_linear g [] (y ∷ b) r s h = absurd (omega arith)
feed_linear g (x ∷ a) [] r s h = absurd (omega arith)
feed_linear g (x ∷ a) (y ∷ b) r s h =
    ap (λ (q : ℕ). feed_down g q (xors a b)) (step_linear g r s x y) ∙ feed_linear g a b (step_down g r x) (step_down g s y) (omega arith)

-- from bytes to bits
pub bits-xor : (n x y : ℕ) → bits_up n (bit_xor x y) ≡ xors (bits_up n x) (bits_up n y)
unfolding bits_up xors
bits-xor zero x y = refl
bits-xor (suc n) x y =
    ap₂ (λ (p : ℕ) (l : List ℕ). p ∷ l) (xor_mod x y 1) (ap (bits_up n) (xor_shr x y 1) ∙ bits-xor n (x / 2) (y / 2))

pub length-bits : (n x : ℕ) → length (bits_up n x) ≡ n
unfolding bits_up
length-bits zero x = refl
length-bits (suc n) x = ap suc (length-bits n (x / 2))

bits_up_of-xors : (a b : List ℕ) → length a ≡ length b → bits_up_of (xors a b) ≡ xors (bits_up_of a) (bits_up_of b)
unfolding bits_up_of xors
bits_up_of-xors [] [] h = refl
bits_up_of-xors [] (y ∷ b) h = absurd (omega arith)
bits_up_of-xors (x ∷ a) [] h = absurd (omega arith)
bits_up_of-xors (x ∷ a) (y ∷ b) h =
    ap₂ (λ (l m : List ℕ). l ++ m) (bits-xor 8 x y) (bits_up_of-xors a b (omega arith))
    ∙ sym (xors-append (bits_up 8 x) (bits_up_of a) (bits_up 8 y) (bits_up_of b) (length-bits 8 x ∙ sym (length-bits 8 y)))

length-bits_up_of : (a b : List ℕ) → length a ≡ length b → length (bits_up_of a) ≡ length (bits_up_of b)
unfolding bits_up_of bits_up
length-bits_up_of [] [] h = refl
length-bits_up_of [] (y ∷ b) h = absurd (omega arith)
length-bits_up_of (x ∷ a) [] h = absurd (omega arith)
length-bits_up_of (x ∷ a) (y ∷ b) h = omega (arith, length-bits_up_of a b (omega arith))

pub advance_linear : (r s : ℕ) (a b : List ℕ) → length a ≡ length b → advance (bit_xor r s) (xors a b) ≡ bit_xor (advance r a) (advance s b)
unfolding advance
advance_linear r s a b h =
    ap (feed_down generator (bit_xor r s)) (bits_up_of-xors a b h) ∙ feed_linear generator (bits_up_of a) (bits_up_of b) r s (length-bits_up_of a b h)
