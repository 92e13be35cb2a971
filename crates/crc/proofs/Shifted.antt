-- A register that is fed its own highest bits: they cancel, and what is left moves up. So a step of whole bytes is a step from 0, and
-- the register can be added to the first bytes instead.
-- Assumes nothing.
use mathlib.Core.Path.{◌≡◌, refl, sym, ap, ap₂, ◌∙◌}
use mathlib.Core.List.{List, [], ◌∷◌}
use Prim.Native.Nat.{ℕ, zero, suc, ◌+◌, ◌*◌, ◌/◌, ◌%◌, ◌^◌, ◌<◌}
use native.Mathlib.Nat.{mod-one, zero-mul, zero-add, mul-one, mul-zero, mul_assoc, mul_comm, mod-lt, pow-suc, add-mul, add_assoc}
use native.Mathlib.Numerals.{one-add}
use native.Mathlib.Omega.{arith}
use lib.Arith.{digits_lt}
use lib.Pow.{pow_pos, pow-add, high, low, mod-pow-add}
use lib.Bits.{bit_xor, xor_self, xor_zero_r}
use Rattle.xor.specs.Xors.{xors}
use Rattle.xor.proofs.Bits.{xor_undo}
use Rattle.crc.specs.Crc.{feed, bits, bits_of, bit_step}
use Rattle.crc.specs.Guard.{generator, run, guard}
use Rattle.crc.proofs.Joined.{run-joined}
use Rattle.crc.proofs.Linear.{run_linear}

-- a register whose highest bit is the bit that comes in only moves up
step_own : (w g r t q : ℕ) → q < 2 ^ w → r * 2 ≡ t * 2 ^ w + q → bit_step w g r t ≡ q
unfolding bit_step
step_own w g r t q h e =
    ap (λ (x : ℕ). bit_xor (x % 2 ^ w) (g * (bit_xor (x / 2 ^ w) t % 2))) e
    ∙ ap₂ (λ (x y : ℕ). bit_xor x (g * (bit_xor y t % 2))) (low t w h) (high t w h)
    ∙ ap (λ (x : ℕ). bit_xor q (g * (x % 2))) (xor_self t)
    ∙ ap (bit_xor q) (mul-zero g) ∙ xor_zero_r q

-- n of its bits
shifted : (w g n m x l : ℕ) → n + m ≡ w → l < 2 ^ m → feed w g (x % 2 ^ n * 2 ^ m + l) (bits n x) ≡ l * 2 ^ n
unfolding feed bits
shifted w g zero m x l e h = ap (λ (q : ℕ). q * 2 ^ m + l) (mod-one x) ∙ ap (λ (q : ℕ). q + l) (zero-mul (2 ^ m)) ∙ zero-add l ∙ sym (mul-one l)
shifted w g (suc n) m x l e h =
    ap (λ (r : ℕ). feed w g r (bits n x)) (step_own w g (x % 2 ^ suc n * 2 ^ m + l) (x / 2 ^ n % 2) (x % 2 ^ n * 2 ^ suc m + l * 2) below parts)
    ∙ shifted w g n (suc m) x (l * 2) e' l2
    ∙ mul_assoc l 2 (2 ^ n) ∙ ap (λ (q : ℕ). l * q) (mul_comm 2 (2 ^ n) ∙ sym (pow-suc 2 n))
  where
    e' : n + suc m ≡ w
    e' = omega arith

    l2 : l * 2 < 2 ^ suc m
    l2 = rw pow-suc (omega arith)

    width : 2 ^ n * 2 ^ suc m ≡ 2 ^ w
    width = sym (pow-add 2 n (suc m)) ∙ ap (λ (k : ℕ). 2 ^ k) e'

    below : x % 2 ^ n * 2 ^ suc m + l * 2 < 2 ^ w
    below = rw (← width) (digits_lt (mod-lt x (pow_pos n)) l2)

    parts : (x % 2 ^ suc n * 2 ^ m + l) * 2 ≡ x / 2 ^ n % 2 * 2 ^ w + (x % 2 ^ n * 2 ^ suc m + l * 2)
    parts =
        add-mul (x % 2 ^ suc n * 2 ^ m) l 2
        ∙ ap (λ (q : ℕ). q + l * 2)
        (mul_assoc (x % 2 ^ suc n) (2 ^ m) 2 ∙ ap (λ (q : ℕ). x % 2 ^ suc n * q) (sym (pow-suc 2 m))
        ∙ ap (λ (q : ℕ). q * 2 ^ suc m) (ap (λ (k : ℕ). x % 2 ^ k) (sym (one-add n)) ∙ mod-pow-add x 1 n)
        ∙ add-mul (x / 2 ^ n % 2 * 2 ^ n) (x % 2 ^ n) (2 ^ suc m)
        ∙ ap (λ (q : ℕ). q + x % 2 ^ n * 2 ^ suc m) (mul_assoc (x / 2 ^ n % 2) (2 ^ n) (2 ^ suc m) ∙ ap (λ (q : ℕ). x / 2 ^ n % 2 * q) width))
        ∙ add_assoc (x / 2 ^ n % 2 * 2 ^ w) (x % 2 ^ n * 2 ^ suc m) (l * 2)

-- ---- the guard's register, a byte or two at a time

own_byte : (r : ℕ) → r < 2 ^ 16 → run r (r / 256 ∷ []) ≡ r % 256 * 256
unfolding run bits_of bits
own_byte r h =
    let whole : r ≡ r / 256 % 2 ^ 8 * 2 ^ 8 + r % 256 = omega arith in
    ap (λ (q : ℕ). feed 16 generator q (bits 8 (r / 256))) whole ∙ shifted 16 generator 8 8 (r / 256) (r % 256) refl (omega arith)

-- a register that is fed its own two bytes is 0
pub own_two : (r : ℕ) → r < 2 ^ 16 → run r (r / 256 ∷ r % 256 ∷ []) ≡ 0
own_two r h =
    let next : r % 256 ≡ r % 256 * 256 / 256 = omega arith in
    let none : r % 256 * 256 % 256 * 256 ≡ 0 = omega arith in
    run-joined r (r / 256 ∷ []) (r % 256 ∷ [])
    ∙ ap₂ (λ (q b : ℕ). run q (b ∷ [])) (own_byte r h) next
    ∙ own_byte (r % 256 * 256) (omega arith) ∙ none

-- the register is carried by the first two bytes of what comes
pub carried : (r a b : ℕ) (rest : List ℕ) → r < 2 ^ 16 → run r (a ∷ b ∷ rest) ≡ guard (bit_xor (r / 256) a ∷ bit_xor (r % 256) b ∷ rest)
unfolding guard xors
carried r a b rest h =
    run-joined r (a ∷ b ∷ []) rest
    ∙ ap (λ (q : ℕ). run q rest)
    (ap (λ (q : ℕ). run q (a ∷ b ∷ [])) (sym (xor_zero_r r))
    ∙ ap₂ (λ (x y : ℕ). run (bit_xor r 0) (x ∷ y ∷ [])) (sym (xor_undo (r / 256) a)) (sym (xor_undo (r % 256) b))
    ∙ run_linear r 0 (r / 256 ∷ r % 256 ∷ []) (bit_xor (r / 256) a ∷ bit_xor (r % 256) b ∷ []) refl
    ∙ ap (λ (q : ℕ). bit_xor q (run 0 (bit_xor (r / 256) a ∷ bit_xor (r % 256) b ∷ []))) (own_two r h))
    ∙ sym (run-joined 0 (bit_xor (r / 256) a ∷ bit_xor (r % 256) b ∷ []) rest)

-- one byte, by one table
pub by_byte : (r a : ℕ) → r < 2 ^ 16 → run r (a ∷ []) ≡ bit_xor (r % 256 * 256) (guard (bit_xor (r / 256) a ∷ []))
unfolding guard xors
by_byte r a h =
    ap₂ (λ (q x : ℕ). run q (x ∷ [])) (sym (xor_zero_r r)) (sym (xor_undo (r / 256) a))
    ∙ run_linear r 0 (r / 256 ∷ []) (bit_xor (r / 256) a ∷ []) refl
    ∙ ap (λ (q : ℕ). bit_xor q (run 0 (bit_xor (r / 256) a ∷ []))) (own_byte r h)

-- zero bytes at the front change no guard
pub guard-zero : (l : List ℕ) → guard (0 ∷ l) ≡ guard l
unfolding guard run feed bits_of bits bit_step
guard-zero l = refl

-- two bytes, by two tables
pub by_two : (r a b : ℕ) → r < 2 ^ 16 → run r (a ∷ b ∷ []) ≡ bit_xor (guard (bit_xor (r / 256) a ∷ 0 ∷ [])) (guard (bit_xor (r % 256) b ∷ []))
unfolding xors guard
by_two r a b h =
    carried r a b [] h
    ∙ ap (λ (x : ℕ). run 0 (x ∷ bit_xor (r % 256) b ∷ [])) (sym (xor_zero_r (bit_xor (r / 256) a)))
    ∙ run_linear 0 0 (bit_xor (r / 256) a ∷ 0 ∷ []) (0 ∷ bit_xor (r % 256) b ∷ []) refl
    ∙ ap (bit_xor (run 0 (bit_xor (r / 256) a ∷ 0 ∷ []))) (guard-zero (bit_xor (r % 256) b ∷ []))
