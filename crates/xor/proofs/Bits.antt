-- Laws of `bit_xor` that the kit's `lib.Bits` lacks: it groups and cancels freely, and moves through shifts and products with a bit.
-- Assumes nothing.
use mathlib.Core.Path.{◌≡◌, refl, sym, ap, ap₂, ◌∙◌}
use Prim.Native.Nat.{ℕ, zero, suc, ◌+◌, ◌*◌, ◌/◌, ◌%◌, ◌^◌, ◌<◌}
use native.Mathlib.Nat.{not-suc-le-zero, le_of_suc-le-suc, mod-lt, zero-lt-suc, add-zero, mul-zero, mul-one}
use lib.Arith.{bin_ind}
use lib.Pow.{pow_pos}
use lib.Bits.{bit_xor, differ, xor_step, xor_shr, xor_mod, xor_comm, xor_self, xor_zero_r, xor_block}

-- what holds of 0 and of 1 holds of each bit
pub bit_elim : (P : ℕ → Type 0) → P 0 → P 1 → (x : ℕ) → x < 2 → P x
bit_elim P p q zero h = p
bit_elim P p q (suc zero) h = q
bit_elim P p q (suc (suc x)) h = absurd (not-suc-le-zero (le_of_suc-le-suc (le_of_suc-le-suc h)))

pub odd-lt : (x : ℕ) → x % 2 < 2
odd-lt x = mod-lt x (zero-lt-suc 1)

-- one binary digit: the eight cases
differ_assoc : (x : ℕ) → x < 2 → (y : ℕ) → y < 2 → (z : ℕ) → z < 2 → differ (bit_xor x y) z ≡ differ x (bit_xor y z)
differ_assoc =
    bit_elim _
    (bit_elim _ (bit_elim _ refl refl) (bit_elim _ refl refl))
    (bit_elim _ (bit_elim _ refl refl) (bit_elim _ refl refl))

pub xor_assoc : (a b c : ℕ) → bit_xor (bit_xor a b) c ≡ bit_xor a (bit_xor b c)
xor_assoc a =
    bin_ind (λ (n : ℕ). (b c : ℕ) → bit_xor (bit_xor n b) c ≡ bit_xor n (bit_xor b c)) (λ b c. refl)
    (λ n ih b c. xor_step (bit_xor n b) c
    ∙ ap₂ (λ (x y : ℕ). x * 2 + y)
    (ap (λ (x : ℕ). bit_xor x (c / 2)) (xor_shr n b 1) ∙ ih (b / 2) (c / 2) ∙ ap (bit_xor (n / 2)) (sym (xor_shr b c 1)))
    (ap (λ (x : ℕ). differ x (c % 2)) (xor_mod n b 1) ∙ differ_assoc (n % 2) (odd-lt n) (b % 2) (odd-lt b) (c % 2) (odd-lt c) ∙ ap (differ (n % 2)) (sym (xor_mod b c 1)))
    ∙ sym (xor_step n (bit_xor b c))) a

-- the two that were added last change places
pub xor_swap : (a b c : ℕ) → bit_xor (bit_xor a b) c ≡ bit_xor (bit_xor a c) b
xor_swap a b c = xor_assoc a b c ∙ ap (bit_xor a) (xor_comm b c) ∙ sym (xor_assoc a c b)

-- two pairs, regrouped
pub xor-four : (a b c d : ℕ) → bit_xor (bit_xor a b) (bit_xor c d) ≡ bit_xor (bit_xor a c) (bit_xor b d)
xor-four a b c d =
    sym (xor_assoc (bit_xor a b) c d) ∙ ap (λ (x : ℕ). bit_xor x d) (xor_swap a b c) ∙ xor_assoc (bit_xor a c) b d

-- what was added twice is gone
pub xor_undo : (a b : ℕ) → bit_xor a (bit_xor a b) ≡ b
xor_undo a b = sym (xor_assoc a a b) ∙ ap (λ (x : ℕ). bit_xor x b) (xor_self a)

pub xor-twice : (a b : ℕ) → bit_xor (bit_xor a b) b ≡ a
xor-twice a b = xor_assoc a b b ∙ ap (bit_xor a) (xor_self b) ∙ xor_zero_r a

-- two numbers whose exclusive-or is 0 are one
pub xor_eq : (a b : ℕ) → bit_xor a b ≡ 0 → a ≡ b
xor_eq a b e = sym (xor_zero_r a) ∙ ap (bit_xor a) (sym e) ∙ xor_undo a b

-- shifted up by k places
pub xor_shl : (k a b : ℕ) → bit_xor (a * 2 ^ k) (b * 2 ^ k) ≡ bit_xor a b * 2 ^ k
xor_shl k a b =
    ap₂ bit_xor (sym (add-zero (a * 2 ^ k))) (sym (add-zero (b * 2 ^ k))) ∙ xor_block k a b 0 0 (pow_pos k) (pow_pos k) ∙ add-zero (bit_xor a b * 2 ^ k)

-- a number times a bit
pub times_bit : (g s t : ℕ) → s < 2 → t < 2 → g * bit_xor s t ≡ bit_xor (g * s) (g * t)
times_bit g s t hs ht =
    bit_elim (λ s. g * bit_xor s t ≡ bit_xor (g * s) (g * t))
    (bit_elim (λ t. g * bit_xor 0 t ≡ bit_xor (g * 0) (g * t)) (simp mul-zero) (simp mul-zero) t ht)
    (bit_elim (λ t. g * bit_xor 1 t ≡ bit_xor (g * 1) (g * t)) (simp (mul-zero, mul-one, xor_zero_r)) (simp (mul-zero, mul-one, xor_self)) t ht)
    s hs
