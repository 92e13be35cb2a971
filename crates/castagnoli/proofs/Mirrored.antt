-- The register that moves down is the register of crates/crc, its bits in the opposite order, and so is the generator.
-- Assumes nothing.
use mathlib.Core.Path.{◌≡◌, refl, sym, ap, ap₂, ◌∙◌}
use mathlib.Core.List.{List, [], ◌∷◌}
use Prim.Native.Nat.{ℕ, zero, suc, ◌+◌, ◌*◌, ◌/◌, ◌%◌, ◌^◌, ◌<◌}
use native.Mathlib.Nat.{zero-lt-suc, mod-one, mod-eq_of_lt, zero-add, div-one, div-div-eq-div-mul, mul-zero, mul-one, zero-mul, mul_assoc, mul_comm, pow-suc, mul-div_cancel, mul-mod_left}
use native.Mathlib.Numerals.{one-add}
use native.Mathlib.Omega.{arith}
use lib.Arith.{mod-mul, digits_lt}
use lib.Pow.{pow_pos, mod-pow-add}
use lib.Dec.{lit<}
use lib.Bits.{bit_xor, xor_mod, xor_shr, xor_block, xor_lt}
use Rattle.xor.proofs.Bits.{bit_elim, odd-lt}
use Rattle.crc.specs.Crc.{bit_step, feed}
use Rattle.castagnoli.specs.Reflected.{bits_up_of, step_down, feed_down, mirror}
use Rattle.castagnoli.specs.Castagnoli.{published, generator, ones, advance, crc32c}

parts : (n y : ℕ) → y % 2 ^ suc n ≡ y / 2 % 2 ^ n * 2 + y % 2
parts n y = ap (λ (q : ℕ). y % q) (pow-suc 2 n) ∙ mod-mul y (pow_pos n) (zero-lt-suc 1)

far : (n y : ℕ) → y / 2 / 2 ^ n ≡ y / 2 ^ suc n
far n y = div-div-eq-div-mul y 2 (2 ^ n) ∙ ap (λ (q : ℕ). y / q) (mul_comm 2 (2 ^ n) ∙ sym (pow-suc 2 n))

pub mirror-lt : (n x : ℕ) → mirror n x < 2 ^ n
unfolding mirror
mirror-lt zero x = lit< tt
mirror-lt (suc n) x = rw (pow-suc, mul_comm (2 ^ n) 2) (digits_lt (odd-lt x) (mirror-lt n (x / 2)))

-- it is additive
mirror-xor : (n x y : ℕ) → mirror n (bit_xor x y) ≡ bit_xor (mirror n x) (mirror n y)
unfolding mirror
mirror-xor zero x y = refl
mirror-xor (suc n) x y =
    ap₂ (λ (p q : ℕ). p * 2 ^ n + q) (xor_mod x y 1) (ap (mirror n) (xor_shr x y 1) ∙ mirror-xor n (x / 2) (y / 2))
    ∙ sym (xor_block n (x % 2) (y % 2) (mirror n (x / 2)) (mirror n (y / 2)) (mirror-lt n (x / 2)) (mirror-lt n (y / 2)))

mirror-none : (n : ℕ) → mirror n 0 ≡ 0
unfolding mirror
mirror-none zero = refl
mirror-none (suc n) = ap (λ (q : ℕ). 0 * 2 ^ n + q) (mirror-none n) ∙ omega (arith, zero-mul (2 ^ n))

-- the higher bits do not count
mirror-mod : (n x : ℕ) → mirror n (x % 2 ^ n) ≡ mirror n x
unfolding mirror
mirror-mod zero x = refl
mirror-mod (suc n) x =
    let low : x % 2 ^ suc n % 2 ≡ x % 2 = omega (arith, parts n x) in
    let rest : x % 2 ^ suc n / 2 ≡ x / 2 % 2 ^ n = omega (arith, parts n x) in
    ap₂ (λ (p q : ℕ). p * 2 ^ n + mirror n q) low rest ∙ ap (λ (q : ℕ). x % 2 * 2 ^ n + q) (mirror-mod n (x / 2))

-- the highest bit becomes the lowest, and the others are the mirrored rest
mirror-low : (n x : ℕ) → mirror (suc n) x % 2 ≡ x / 2 ^ n % 2
unfolding mirror
mirror-low zero x = let e : (x % 2 * 1 + 0) % 2 ≡ x % 2 = omega arith in e ∙ ap (λ (q : ℕ). q % 2) (sym (div-one x))
mirror-low (suc n) x =
    let up : x % 2 * 2 ^ suc n ≡ x % 2 * 2 ^ n * 2 = ap (λ (q : ℕ). x % 2 * q) (pow-suc 2 n) ∙ sym (mul_assoc (x % 2) (2 ^ n) 2) in
    let e : (x % 2 * 2 ^ suc n + mirror (suc n) (x / 2)) % 2 ≡ mirror (suc n) (x / 2) % 2 = omega arith in
    e ∙ mirror-low n (x / 2) ∙ ap (λ (q : ℕ). q % 2) (far n x)

mirror-half : (n x : ℕ) → mirror (suc n) x / 2 ≡ mirror n x
unfolding mirror
mirror-half zero x = omega arith
mirror-half (suc n) x =
    let up : x % 2 * 2 ^ suc n ≡ x % 2 * 2 ^ n * 2 = ap (λ (q : ℕ). x % 2 * q) (pow-suc 2 n) ∙ sym (mul_assoc (x % 2) (2 ^ n) 2) in
    let e : (x % 2 * 2 ^ suc n + mirror (suc n) (x / 2)) / 2 ≡ x % 2 * 2 ^ n + mirror (suc n) (x / 2) / 2 = omega arith in
    e ∙ ap (λ (q : ℕ). x % 2 * 2 ^ n + q) (mirror-half n (x / 2))

-- a register that moved up, mirrored, is the mirrored register moved down
mirror-up : (n r : ℕ) → mirror (suc n) (r * 2 % 2 ^ suc n) ≡ mirror (suc n) r / 2
unfolding mirror
mirror-up n r =
    let whole : r * 2 / 2 ≡ r = mul-div_cancel r (zero-lt-suc 1) in
    let even : r * 2 % 2 ≡ 0 = mul-mod_left r 2 in
    let low : r * 2 % 2 ^ suc n % 2 ≡ 0 = omega (arith, parts n (r * 2)) in
    let half : r * 2 % 2 ^ suc n / 2 ≡ r * 2 / 2 % 2 ^ n = omega (arith, parts n (r * 2)) in
    ap₂ (λ (p q : ℕ). p * 2 ^ n + mirror n q) low (half ∙ ap (λ (q : ℕ). q % 2 ^ n) whole)
    ∙ ap₂ (λ (p q : ℕ). p + q) (zero-mul (2 ^ n)) (mirror-mod n r) ∙ zero-add (mirror n r) ∙ sym (mirror-half n r)

-- mirrored twice it is what it was
pub mirror-twice : (n x : ℕ) → mirror n (mirror n x) ≡ x % 2 ^ n
unfolding mirror
mirror-twice zero x = sym (mod-one x)
mirror-twice (suc n) x =
    ap₂ (λ (p q : ℕ). p * 2 ^ n + q) (mirror-low n x) (ap (mirror n) (mirror-half n x) ∙ mirror-twice n x)
    ∙ sym (ap (λ (k : ℕ). x % 2 ^ k) (sym (one-add n)) ∙ mod-pow-add x 1 n)

step_mirrored : (w g r b : ℕ) → mirror (suc w) (bit_step (suc w) g r b) ≡ step_down (mirror (suc w) g) (mirror (suc w) r) b
unfolding bit_step step_down
step_mirrored w g r b =
    mirror-xor (suc w) (r * 2 % 2 ^ suc w) (g * t)
    ∙ ap₂ bit_xor (mirror-up w r) (times t (odd-lt (bit_xor (r * 2 / 2 ^ suc w) b)) ∙ ap (λ (q : ℕ). mirror (suc w) g * q) same)
  where
    t : ℕ
    t = bit_xor (r * 2 / 2 ^ suc w) b % 2

    times : (s : ℕ) → s < 2 → mirror (suc w) (g * s) ≡ mirror (suc w) g * s
    times = bit_elim (λ (s : ℕ). mirror (suc w) (g * s) ≡ mirror (suc w) g * s)
        (ap (mirror (suc w)) (mul-zero g) ∙ mirror-none (suc w) ∙ sym (mul-zero (mirror (suc w) g))) (ap (mirror (suc w)) (mul-one g) ∙ sym (mul-one (mirror (suc w) g)))

    same : t ≡ bit_xor (mirror (suc w) r) b % 2
    same =
        xor_mod (r * 2 / 2 ^ suc w) b 1
        ∙ ap (λ (q : ℕ). bit_xor q (b % 2)) (ap (λ (q : ℕ). q % 2) (sym (far w (r * 2)) ∙ ap (λ (q : ℕ). q / 2 ^ w) (mul-div_cancel r (zero-lt-suc 1))) ∙ sym (mirror-low w r))
        ∙ sym (xor_mod (mirror (suc w) r) b 1)

feed_mirrored : (w g r : ℕ) (d : List ℕ) → mirror (suc w) (feed (suc w) g r d) ≡ feed_down (mirror (suc w) g) (mirror (suc w) r) d
unfolding feed feed_down
feed_mirrored w g r [] = refl
feed_mirrored w g r (b ∷ d) = feed_mirrored w g (bit_step (suc w) g r b) d ∙ ap (λ (q : ℕ). feed_down (mirror (suc w) g) q d) (step_mirrored w g r b)

-- ---- CRC-32C

pub generator_mirrored : mirror 32 published ≡ generator
unfolding mirror
generator_mirrored = refl

-- the register of crates/crc, with the generator as it is published, from the mirrored register on
pub mirrored : (r : ℕ) (d : List ℕ) → r < 2 ^ 32 → feed_down generator r d ≡ mirror 32 (feed 32 published (mirror 32 r) d)
mirrored r d h =
    sym (feed_mirrored 31 published (mirror 32 r) d ∙ ap₂ (λ (g q : ℕ). feed_down g q d) generator_mirrored (mirror-twice 32 r ∙ mod-eq_of_lt h))

pub advance_mirrored : (r : ℕ) (bytes : List ℕ) → r < 2 ^ 32 → advance r bytes ≡ mirror 32 (feed 32 published (mirror 32 r) (bits_up_of bytes))
unfolding advance
advance_mirrored r bytes h = mirrored r (bits_up_of bytes) h

-- so registers stay below 2 ^ 32, and checks are
pub feed-lt : (r : ℕ) (d : List ℕ) → r < 2 ^ 32 → feed_down generator r d < 2 ^ 32
feed-lt r d h = rw (mirrored r d h) (mirror-lt 32 (feed 32 published (mirror 32 r) d))

pub advance-lt : (r : ℕ) (bytes : List ℕ) → r < 2 ^ 32 → advance r bytes < 2 ^ 32
unfolding advance
advance-lt r bytes h = feed-lt r (bits_up_of bytes) h

pub crc32c-lt : (bytes : List ℕ) → crc32c bytes < 2 ^ 32
unfolding crc32c
crc32c-lt bytes = xor_lt 32 (advance ones bytes) ones (advance-lt ones bytes (lit< tt)) (lit< tt)
