-- Every change that lies within thirty-two successive bits is noticed: what crates/crc proves of its register, of the width 32, over the
-- mirrored bytes.
-- Assumes nothing.
use mathlib.Core.Path.{◌≡◌, refl, sym, ap, ap₂, subst, ◌∙◌}
use mathlib.Core.Logic.{◌≢◌}
use mathlib.Core.List.{List, [], ◌∷◌, ◌++◌, map}
use Prim.Native.Nat.{ℕ, zero, suc, ◌+◌, ◌*◌, ◌/◌, ◌%◌, ◌^◌, ◌<◌}
use native.Mathlib.Nat.{mod-eq_of_lt, mod-mod, zero-add, mul_assoc, mul_comm, pow-suc, mul-add-div_right, mul-add-mod_self_right}
use native.Mathlib.Omega.{arith}
use lib.Dec.{lit<}
use lib.Pow.{pow_pos, pow-add, high}
use lib.ListN.{length}
use lib.Bits.{bit_xor}
use Rattle.xor.proofs.Bits.{xor-twice}
use Rattle.crc.specs.Crc.{bits, bits_of, feed, Bytes, Within}
use Rattle.crc.proofs.Noticed.{feed-lt, noticed_at}
use Rattle.castagnoli.specs.Reflected.{bits_up, bits_up_of, mirror}
use Rattle.castagnoli.specs.Castagnoli.{published, ones, advance, crc32c}
use Rattle.castagnoli.proofs.Mirrored.{mirror-lt, mirror-twice, advance_mirrored}

-- ---- the bits of a run, the lowest of each byte first, are those of the mirrored bytes, the highest first

up : (t m n : ℕ) → t * 2 ^ (m + suc n) ≡ t * 2 ^ m * 2 * 2 ^ n
up t m n =
    ap (λ (q : ℕ). t * q) (pow-add 2 m (suc n)) ∙ sym (mul_assoc t (2 ^ m) (2 ^ suc n))
    ∙ ap (λ (q : ℕ). t * 2 ^ m * q) (pow-suc 2 n ∙ mul_comm (2 ^ n) 2) ∙ sym (mul_assoc (t * 2 ^ m) 2 (2 ^ n))

-- the higher bits do not count
bits_above : (n m t y : ℕ) → bits n (t * 2 ^ (m + n) + y) ≡ bits n y
unfolding bits
bits_above zero m t y = refl
bits_above (suc n) m t y =
    let more : m + suc n ≡ suc m + n = omega arith in
    ap₂ (λ (p : ℕ) (l : List ℕ). p ∷ l)
    (ap (λ (q : ℕ). (q + y) / 2 ^ n % 2) (up t m n) ∙ ap (λ (q : ℕ). q % 2) (mul-add-div_right (pow_pos n) (t * 2 ^ m * 2) y) ∙ mul-add-mod_self_right (t * 2 ^ m) 2 (y / 2 ^ n))
    (ap (λ (k : ℕ). bits n (t * 2 ^ k + y)) more ∙ bits_above n (suc m) t y)

bits_mirrored : (n x : ℕ) → bits_up n x ≡ bits n (mirror n x)
unfolding bits_up bits mirror
bits_mirrored zero x = refl
bits_mirrored (suc n) x =
    ap₂ (λ (p : ℕ) (l : List ℕ). p ∷ l) (sym (ap (λ (q : ℕ). q % 2) (high (x % 2) n (mirror-lt n (x / 2))) ∙ mod-mod x 2))
    (bits_mirrored n (x / 2) ∙ sym (ap (λ (k : ℕ). bits n (x % 2 * 2 ^ k + mirror n (x / 2))) (sym (zero-add n)) ∙ bits_above n 0 (x % 2) (mirror n (x / 2))))

-- a run with each byte mirrored
abbrev turned : List ℕ → List ℕ
turned bytes = map (mirror 8) bytes

bytes-turned : (a : List ℕ) → Bytes (turned a)
bytes-turned [] k = lit< tt
bytes-turned (x ∷ a) zero = mirror-lt 8 x
bytes-turned (x ∷ a) (suc k) = bytes-turned a k

length-turned : (a : List ℕ) → length (turned a) ≡ length a
length-turned [] = refl
length-turned (x ∷ a) = ap suc (length-turned a)

turned-twice : (a : List ℕ) → Bytes a → turned (turned a) ≡ a
turned-twice [] h = refl
turned-twice (x ∷ a) h = ap₂ (λ (p : ℕ) (l : List ℕ). p ∷ l) (mirror-twice 8 x ∙ mod-eq_of_lt (h 0)) (turned-twice a (λ k. h (suc k)))

bits-turned : (a : List ℕ) → bits_up_of a ≡ bits_of (turned a)
unfolding bits_up_of bits_of
bits-turned [] = refl
bits-turned (x ∷ a) = ap₂ (λ (l m : List ℕ). l ++ m) (bits_mirrored 8 x) (bits-turned a)

-- ---- the check

-- two runs that take a register to one do so with the mirrored register of crates/crc
feeds : (r : ℕ) (a b : List ℕ) → r < 2 ^ 32 → advance r a ≡ advance r b
    → feed 32 published (mirror 32 r) (bits_of (turned a)) ≡ feed 32 published (mirror 32 r) (bits_of (turned b))
feeds r a b h e = sym (back a) ∙ ap (mirror 32) e ∙ back b
  where
    fed : List ℕ → ℕ
    fed a = feed 32 published (mirror 32 r) (bits_of (turned a))

    back : (a : List ℕ) → mirror 32 (advance r a) ≡ fed a
    back a =
        ap (mirror 32) (advance_mirrored r a h ∙ ap (λ (l : List ℕ). mirror 32 (feed 32 published (mirror 32 r) l)) (bits-turned a))
        ∙ mirror-twice 32 (fed a) ∙ mod-eq_of_lt (feed-lt 32 published refl (lit< tt) (lit< tt) (mirror 32 r) (bits_of (turned a)) (mirror-lt 32 r))

-- two runs of bytes that differ only within thirty-two successive bits, and take one register to one, are one run
pub noticed_from : (r : ℕ) (a b : List ℕ) → r < 2 ^ 32 → Bytes a → Bytes b → length a ≡ length b → Within 32 (bits_up_of a) (bits_up_of b)
    → advance r a ≡ advance r b → a ≡ b
noticed_from r a b small ha hb h win e =
    sym (turned-twice a ha)
    ∙ ap turned
    (noticed_at 32 published refl (lit< tt) (lit< tt) (mirror 32 r) (turned a) (turned b) (bytes-turned a) (bytes-turned b)
    (length-turned a ∙ h ∙ sym (length-turned b))
    (subst (λ (l : List ℕ). Within 32 l (bits_of (turned b))) (bits-turned a) (subst (λ (l : List ℕ). Within 32 (bits_up_of a) l) (bits-turned b) win))
    (feeds r a b small e))
    ∙ turned-twice b hb

-- the check notices every change that lies within thirty-two successive bits, counted from the lowest bit of each byte
pub noticed : (a b : List ℕ) → Bytes a → Bytes b → length a ≡ length b → Within 32 (bits_up_of a) (bits_up_of b) → a ≢ b → crc32c a ≢ crc32c b
unfolding crc32c
noticed a b ha hb h win ne e =
    ne (noticed_from ones a b (lit< tt) ha hb h win (sym (xor-twice (advance ones a) ones) ∙ ap (λ (x : ℕ). bit_xor x ones) e ∙ xor-twice (advance ones b) ones))
