-- The end of a division: 32 bits at a time, by a map of shifts that agrees with what they leave on each single bit.
-- Assumes nothing.
use mathlib.Core.Path.{◌≡◌, refl, sym, ap, ap₂, ◌∙◌}
use mathlib.Core.List.{List, ◌∷◌}
use Prim.Native.Nat.{ℕ, zero, suc, ◌+◌, ◌*◌, ◌/◌, ◌%◌, ◌^◌, ◌<◌}
use native.Mathlib.Nat.{zero-lt-suc, mod-lt, pow-suc}
use native.Mathlib.Omega.{arith}
use lib.Arith.{mod-mul}
use lib.Dec.{lit<}
use lib.Pow.{pow_pos}
use lib.Bits.{bit_xor, xor_zero_r}
use Rattle.xor.proofs.Bits.{xor_undo}
use Rattle.words.specs.Words.{Map, same, up, down, low, plus, act}
use Rattle.words.proofs.Linear.{agree, act_linear}
use Rattle.castagnoli.specs.Reflected.{bits_up, feed_down, step_down}
use Rattle.castagnoli.specs.Castagnoli.{generator}
use Rattle.castagnoli.proofs.Joined.{feed-append}
use Rattle.castagnoli.proofs.Linear.{feed_linear, bits-xor, length-bits}
use Rattle.castagnoli.proofs.Mirrored.{feed-lt}
use Rattle.castagnoli.proofs.Shifted.{own}
use Rattle.castagnoli_words.specs.Words.{rest, half}
use Rattle.castagnoli_words.proofs.Sparse.{bits-cut}

-- the quotient that the code computes, and its end
abbrev quotient : Map
quotient = low 32 (plus (plus (plus (plus (plus (plus (plus (plus (plus (plus (plus (plus (plus (plus (plus (plus (plus (plus same (up 4 same)) (up 5 same)) (up 6 same)) (up 7 same)) (up 8 same)) (up 9 same)) (up 12 same)) (up 16 same)) (up 17 same)) (up 18 same)) (up 21 same)) (up 23 same)) (up 25 same)) (up 26 same)) (up 27 same)) (up 28 same)) (up 30 same)) (up 31 same))

abbrev halving : Map
halving = plus (plus (plus (plus (plus (plus (plus (plus (plus (plus (plus (plus (plus (plus (plus (plus quotient (down 6 quotient)) (down 8 quotient)) (down 9 quotient)) (down 10 quotient)) (down 11 quotient)) (down 13 quotient)) (down 14 quotient)) (down 18 quotient)) (down 19 quotient)) (down 20 quotient)) (down 22 quotient)) (down 23 quotient)) (down 25 quotient)) (down 26 quotient)) (down 27 quotient)) (down 28 quotient)

half_linear : (x y : ℕ) → half (bit_xor x y) ≡ bit_xor (half x) (half y)
unfolding half
half_linear x y = ap (feed_down generator 0) (bits-xor 32 x y) ∙ feed_linear generator (bits_up 32 x) (bits_up 32 y) 0 0 (length-bits 32 x ∙ sym (length-bits 32 y))

-- the higher bits do not count
pub bits-low : (n v : ℕ) → bits_up n (v % 2 ^ n) ≡ bits_up n v
unfolding bits_up
bits-low zero v = refl
bits-low (suc n) v =
    let parts : v % 2 ^ suc n ≡ v / 2 % 2 ^ n * 2 + v % 2 = ap (λ (q : ℕ). v % q) (pow-suc 2 n) ∙ mod-mul v (pow_pos n) (zero-lt-suc 1) in
    let first : v % 2 ^ suc n % 2 ≡ v % 2 = omega arith in
    let others : v % 2 ^ suc n / 2 ≡ v / 2 % 2 ^ n = omega arith in
    ap₂ (λ (p q : ℕ). p ∷ bits_up n q) first others ∙ ap (λ (l : List ℕ). v % 2 ∷ l) (bits-low n (v / 2))

half-low : (v : ℕ) → half (v % 2 ^ 32) ≡ half v
unfolding half
half-low v = ap (feed_down generator 0) (bits-low 32 v)

agreed : (x : ℕ) → x < 2 ^ 32 → act halving x ≡ half x
unfolding half feed_down bits_up step_down
agreed x h = agree (act halving) half (act_linear halving) half_linear 32 refl x h

pub halves : (v : ℕ) → act halving (v % 2 ^ 32) ≡ half v
halves v = agreed (v % 2 ^ 32) (mod-lt v (pow_pos 32)) ∙ half-low v

half_lt : (x : ℕ) → half x < 2 ^ 32
unfolding half
half_lt x = feed-lt 0 (bits_up 32 x) (lit< tt)

-- a register that 32 bits come to is carried by them
carries : (r x : ℕ) → r < 2 ^ 32 → feed_down generator r (bits_up 32 x) ≡ half (bit_xor r x)
unfolding half
carries r x h =
    let none : r / 2 ^ 32 ≡ 0 = omega arith in
    ap₂ (λ (q y : ℕ). feed_down generator q (bits_up 32 y)) (sym (xor_zero_r r)) (sym (xor_undo r x))
    ∙ ap (feed_down generator (bit_xor r 0)) (bits-xor 32 r (bit_xor r x))
    ∙ feed_linear generator (bits_up 32 r) (bits_up 32 (bit_xor r x)) r 0 (length-bits 32 r ∙ sym (length-bits 32 (bit_xor r x)))
    ∙ ap (λ (q : ℕ). bit_xor q (feed_down generator 0 (bits_up 32 (bit_xor r x)))) (own generator 32 r r refl ∙ none)

-- two halves are a word
pub ends : (v : ℕ) → half (bit_xor (half v) (v / 2 ^ 32)) ≡ rest v
unfolding rest half
ends v = sym (ap (feed_down generator 0) (bits-cut 32 32 v) ∙ feed-append generator 0 (bits_up 32 v) (bits_up 32 (v / 2 ^ 32)) ∙ carries (half v) (v / 2 ^ 32) (half_lt v))
