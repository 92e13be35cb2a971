-- A register that is fed its own lowest bits: they cancel, and what is left moves down. So a step of whole bytes is a step from 0, and the
-- register can be added to the first bytes instead.
-- Assumes nothing.
use mathlib.Core.Path.{◌≡◌, refl, sym, ap, ap₂, ◌∙◌}
use mathlib.Core.List.{List, [], ◌∷◌}
use Prim.Native.Nat.{ℕ, zero, suc, ◌+◌, ◌*◌, ◌/◌, ◌%◌, ◌^◌, ◌<◌}
use native.Mathlib.Nat.{zero-lt-suc, mod-mod, div-one, div-div-eq-div-mul, mul-zero, mul_comm, pow-suc}
use native.Mathlib.Omega.{arith}
use lib.Arith.{mod-mul}
use lib.Pow.{pow_pos}
use lib.Bits.{bit_xor, xor_mod, xor_self, xor_zero_r}
use Rattle.xor.specs.Xors.{xors}
use Rattle.xor.proofs.Bits.{xor_undo}
use Rattle.castagnoli.specs.Reflected.{bits_up, bits_up_of, step_down, feed_down}
use Rattle.castagnoli.specs.Castagnoli.{generator, advance}
use Rattle.castagnoli.proofs.Joined.{advance-joined}
use Rattle.castagnoli.proofs.Linear.{advance_linear}

-- a register whose lowest bit is the bit that comes in only moves down
step_own : (g r b : ℕ) → b % 2 ≡ r % 2 → step_down g r b ≡ r / 2
unfolding step_down
step_own g r b e =
    ap (λ (t : ℕ). bit_xor (r / 2) (g * t)) (xor_mod r b 1 ∙ ap (bit_xor (r % 2)) e ∙ xor_self (r % 2))
    ∙ ap (bit_xor (r / 2)) (mul-zero g) ∙ xor_zero_r (r / 2)

-- n of its bits
pub own : (g n r x : ℕ) → r % 2 ^ n ≡ x % 2 ^ n → feed_down g r (bits_up n x) ≡ r / 2 ^ n
unfolding feed_down bits_up
own g zero r x e = sym (div-one r)
own g (suc n) r x e =
    ap (λ (q : ℕ). feed_down g q (bits_up n (x / 2))) (step_own g r (x % 2) low) ∙ own g n (r / 2) (x / 2) rest
    ∙ div-div-eq-div-mul r 2 (2 ^ n) ∙ ap (λ (q : ℕ). r / q) (mul_comm 2 (2 ^ n) ∙ sym (pow-suc 2 n))
  where
    parts : (y : ℕ) → y % 2 ^ suc n ≡ y / 2 % 2 ^ n * 2 + y % 2
    parts y = ap (λ (q : ℕ). y % q) (pow-suc 2 n) ∙ mod-mul y (pow_pos n) (zero-lt-suc 1)

    low : x % 2 % 2 ≡ r % 2
    low = mod-mod x 2 ∙ omega (arith, parts r, parts x)

    rest : r / 2 % 2 ^ n ≡ x / 2 % 2 ^ n
    rest = omega (arith, parts r, parts x)

-- ---- one byte, two, four

own_byte : (r : ℕ) → advance r (r % 256 ∷ []) ≡ r / 256
unfolding advance bits_up_of bits_up
own_byte r = own generator 8 r (r % 256) (sym (mod-mod r 256))

own_two : (r : ℕ) → advance r (r % 256 ∷ r / 256 % 256 ∷ []) ≡ r / 65536
own_two r =
    let far : r / 256 / 256 ≡ r / 65536 = omega arith in
    advance-joined r (r % 256 ∷ []) (r / 256 % 256 ∷ []) ∙ ap (λ (q : ℕ). advance q (r / 256 % 256 ∷ [])) (own_byte r) ∙ own_byte (r / 256) ∙ far

-- a register that is fed its own four bytes is 0
own-four : (r : ℕ) → r < 2 ^ 32 → advance r (r % 256 ∷ r / 256 % 256 ∷ r / 65536 % 256 ∷ r / 65536 / 256 % 256 ∷ []) ≡ 0
own-four r h =
    let none : r / 65536 / 65536 ≡ 0 = omega arith in
    advance-joined r (r % 256 ∷ r / 256 % 256 ∷ []) (r / 65536 % 256 ∷ r / 65536 / 256 % 256 ∷ [])
    ∙ ap (λ (q : ℕ). advance q (r / 65536 % 256 ∷ r / 65536 / 256 % 256 ∷ [])) (own_two r) ∙ own_two (r / 65536) ∙ none

-- zero bytes at the front change nothing where the register is 0
pub advance-zero : (l : List ℕ) → advance 0 (0 ∷ l) ≡ advance 0 l
unfolding advance feed_down bits_up_of bits_up step_down
advance-zero l = refl

-- the register is carried by the first four bytes of what comes, its low byte by the first
pub carried : (r a b c d : ℕ) (rest : List ℕ) → r < 2 ^ 32
    → advance r (a ∷ b ∷ c ∷ d ∷ rest) ≡ advance 0 (bit_xor (r % 256) a ∷ bit_xor (r / 256 % 256) b ∷ bit_xor (r / 65536 % 256) c ∷ bit_xor (r / 65536 / 256 % 256) d ∷ rest)
unfolding xors
carried r a b c d rest h =
    advance-joined r (a ∷ b ∷ c ∷ d ∷ []) rest
    ∙ ap (λ (q : ℕ). advance q rest)
    (ap (λ (q : ℕ). advance q (a ∷ b ∷ c ∷ d ∷ [])) (sym (xor_zero_r r))
    ∙ ap₂ (λ (x y : ℕ). advance (bit_xor r 0) (x ∷ y ∷ c ∷ d ∷ [])) (sym (xor_undo r₀ a)) (sym (xor_undo r₁ b))
    ∙ ap₂ (λ (x y : ℕ). advance (bit_xor r 0) (bit_xor r₀ (bit_xor r₀ a) ∷ bit_xor r₁ (bit_xor r₁ b) ∷ x ∷ y ∷ [])) (sym (xor_undo r₂ c)) (sym (xor_undo r₃ d))
    ∙ advance_linear r 0 (r₀ ∷ r₁ ∷ r₂ ∷ r₃ ∷ []) four refl
    ∙ ap (λ (q : ℕ). bit_xor q (advance 0 four)) (own-four r h))
    ∙ sym (advance-joined 0 four rest)
  where
    r₀ : ℕ
    r₀ = r % 256

    r₁ : ℕ
    r₁ = r / 256 % 256

    r₂ : ℕ
    r₂ = r / 65536 % 256

    r₃ : ℕ
    r₃ = r / 65536 / 256 % 256

    four : List ℕ
    four = bit_xor r₀ a ∷ bit_xor r₁ b ∷ bit_xor r₂ c ∷ bit_xor r₃ d ∷ []

-- one byte, by one table
pub by_byte : (r a : ℕ) → advance r (a ∷ []) ≡ bit_xor (r / 256) (advance 0 (bit_xor (r % 256) a ∷ []))
unfolding xors
by_byte r a =
    ap₂ (λ (q x : ℕ). advance q (x ∷ [])) (sym (xor_zero_r r)) (sym (xor_undo (r % 256) a))
    ∙ advance_linear r 0 (r % 256 ∷ []) (bit_xor (r % 256) a ∷ []) refl
    ∙ ap (λ (q : ℕ). bit_xor q (advance 0 (bit_xor (r % 256) a ∷ []))) (own_byte r)

-- two bytes, by two tables
pub by_two : (r a b : ℕ) → advance r (a ∷ b ∷ []) ≡ bit_xor (r / 65536) (bit_xor (advance 0 (bit_xor (r % 256) a ∷ 0 ∷ [])) (advance 0 (bit_xor (r / 256 % 256) b ∷ [])))
unfolding xors
by_two r a b =
    ap (λ (q : ℕ). advance q (a ∷ b ∷ [])) (sym (xor_zero_r r))
    ∙ ap₂ (λ (x y : ℕ). advance (bit_xor r 0) (x ∷ y ∷ [])) (sym (xor_undo (r % 256) a)) (sym (xor_undo (r / 256 % 256) b))
    ∙ advance_linear r 0 (r % 256 ∷ r / 256 % 256 ∷ []) (a' ∷ b' ∷ []) refl
    ∙ ap₂ bit_xor (own_two r)
    (ap (λ (x : ℕ). advance 0 (x ∷ b' ∷ [])) (sym (xor_zero_r a'))
    ∙ advance_linear 0 0 (a' ∷ 0 ∷ []) (0 ∷ b' ∷ []) refl
    ∙ ap (bit_xor (advance 0 (a' ∷ 0 ∷ []))) (advance-zero (b' ∷ [])))
  where
    a' : ℕ
    a' = bit_xor (r % 256) a

    b' : ℕ
    b' = bit_xor (r / 256 % 256) b
