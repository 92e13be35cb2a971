-- Registers moved on. A sum of moves that takes the polynomial 1 to 0 takes every register to 0: each bit of a register is 1 moved on.
-- Assumes nothing.
use mathlib.Core.Path.{◌≡◌, refl, sym, ap, ap₂, ◌∙◌}
use mathlib.Core.List.{List, [], ◌∷◌, ◌++◌}
use Prim.Native.Nat.{ℕ, zero, suc, ◌+◌, ◌-◌, ◌*◌, ◌/◌, ◌%◌, ◌^◌, ◌<◌}
use native.Mathlib.Nat.{mod-lt, div-add-mod', div-lt_iff_lt-mul, add_comm}
use native.Mathlib.Omega.{arith}
use lib.Pow.{pow_pos}
use lib.ListN.{length, get_or, replicate, length-replicate, replicate-append-replicate}
use lib.Bits.{bit_xor, xor_self, xor_zero_r, xor_shifted}
use Rattle.xor.proofs.Bits.{bit_elim, xor-four, xor_eq, xor_assoc}
use Rattle.xor.proofs.Lists.{xors-zeros, zeros-xors}
use Rattle.table.specs.Tables.{entries}
use Rattle.table.proofs.Entries.{entry}
use Rattle.castagnoli.specs.Reflected.{bits_up, bits_up_of, feed_down, step_down}
use Rattle.castagnoli.specs.Castagnoli.{generator, advance}
use Rattle.castagnoli.proofs.Joined.{feed-append, advance-joined}
use Rattle.castagnoli.proofs.Linear.{feed_linear, advance_linear}
use Rattle.castagnoli_words.specs.Words.{on, ons}

abbrev pub zeros : ℕ → List ℕ
zeros n = replicate n 0

pub on_linear : (s x y : ℕ) → on s (bit_xor x y) ≡ bit_xor (on s x) (on s y)
unfolding on
on_linear s x y = ap (feed_down generator (bit_xor x y)) (sym (xors-zeros (zeros s) s)) ∙ feed_linear generator (zeros s) (zeros s) x y refl

pub on_none : (s : ℕ) → on s 0 ≡ 0
on_none s = on_linear s 0 0 ∙ xor_self (on s 0)

-- two moves are one
pub on-on : (s t x : ℕ) → on t (on s x) ≡ on (s + t) x
unfolding on
on-on s t x = sym (feed-append generator x (zeros s) (zeros t)) ∙ ap (feed_down generator x) (replicate-append-replicate s t 0)

pub on_swap : (s t x : ℕ) → on t (on s x) ≡ on s (on t x)
on_swap s t x = on-on s t x ∙ ap (λ (k : ℕ). on k x) (add_comm s t) ∙ sym (on-on t s x)

-- ---- sums of moves

pub ons_linear : (ss : List ℕ) (x y : ℕ) → ons ss (bit_xor x y) ≡ bit_xor (ons ss x) (ons ss y)
unfolding ons
ons_linear [] x y = refl
ons_linear (s ∷ ss) x y = ap₂ bit_xor (on_linear s x y) (ons_linear ss x y) ∙ xor-four (on s x) (on s y) (ons ss x) (ons ss y)

pub ons-append : (ss ts : List ℕ) (x : ℕ) → ons (ss ++ ts) x ≡ bit_xor (ons ss x) (ons ts x)
unfolding ons
ons-append [] ts x = refl
ons-append (s ∷ ss) ts x = ap (bit_xor (on s x)) (ons-append ss ts x) ∙ sym (xor_assoc (on s x) (ons ss x) (ons ts x))

ons-on : (ss : List ℕ) (t x : ℕ) → ons ss (on t x) ≡ on t (ons ss x)
unfolding ons
ons-on [] t x = sym (on_none t)
ons-on (s ∷ ss) t x = ap₂ bit_xor (on_swap t s x) (ons-on ss t x) ∙ sym (on_linear t (on s x) (ons ss x))

-- the polynomial 1, and the single bits
abbrev pub one : ℕ
one = 0x80000000

bits-moved : entries (λ (i : ℕ). on (31 - i) one) 0 32 ≡ entries (λ (i : ℕ). 2 ^ i) 0 32
unfolding on feed_down step_down
bits-moved = refl

bit_moved : (i : ℕ) → i < 32 → on (31 - i) one ≡ 2 ^ i
bit_moved i h =
    sym (entry (λ (i : ℕ). on (31 - i) one) 32 i h) ∙ ap (λ (l : List ℕ). get_or l i 0) bits-moved ∙ entry (λ (i : ℕ). 2 ^ i) 32 i h

-- what is additive, and 0 at each power of two below 2 ^ n, is 0 below 2 ^ n
additive : (f : ℕ → ℕ) → ((x y : ℕ) → f (bit_xor x y) ≡ bit_xor (f x) (f y)) → (n : ℕ) → ((k : ℕ) → k < n → f (2 ^ k) ≡ 0) → (x : ℕ) → x < 2 ^ n → f x ≡ 0
additive f add zero at x h = let e : x ≡ 0 = omega arith in ap f e ∙ add 0 0 ∙ xor_self (f 0)
additive f add (suc n) at x h =
    let high : x / 2 ^ n < 2 = (div-lt_iff_lt-mul (pow_pos n)).1 (omega arith) in
    let low : x % 2 ^ n < 2 ^ n = mod-lt x (pow_pos n) in
    let parts : x ≡ bit_xor (x / 2 ^ n * 2 ^ n) (x % 2 ^ n) = sym (div-add-mod' x (2 ^ n)) ∙ sym (xor_shifted (x / 2 ^ n) n (x % 2 ^ n) low) in
    ap f parts ∙ add (x / 2 ^ n * 2 ^ n) (x % 2 ^ n)
    ∙ ap₂ bit_xor
    (bit_elim (λ (b : ℕ). f (b * 2 ^ n) ≡ 0) (ap f none ∙ add 0 0 ∙ xor_self (f 0)) (ap f once ∙ at n (omega arith)) (x / 2 ^ n) high)
    (additive f add n (λ k l. at k (omega arith)) (x % 2 ^ n) low)
  where
    none : 0 * 2 ^ n ≡ 0
    none = omega arith

    once : 1 * 2 ^ n ≡ 2 ^ n
    once = omega arith

-- THE LAW: a move that is a sum of moves for 1 is so for every register
pub alike : (s : ℕ) (ss : List ℕ) → on s one ≡ ons ss one → (x : ℕ) → x < 2 ^ 32 → on s x ≡ ons ss x
alike s ss e x h = xor_eq (on s x) (ons ss x) (additive apart through 32 (λ k l. ap apart (sym (bit_moved k l)) ∙ moved (31 - k)) x h)
  where
    apart : ℕ → ℕ
    apart x = bit_xor (on s x) (ons ss x)

    through : (x y : ℕ) → apart (bit_xor x y) ≡ bit_xor (apart x) (apart y)
    through x y = ap₂ bit_xor (on_linear s x y) (ons_linear ss x y) ∙ xor-four (on s x) (on s y) (ons ss x) (ons ss y)

    moved : (t : ℕ) → apart (on t one) ≡ 0
    moved t =
        ap₂ bit_xor (on_swap t s one) (ons-on ss t one) ∙ sym (on_linear t (on s one) (ons ss one))
        ∙ ap (λ (r : ℕ). on t (bit_xor r (ons ss one))) e ∙ ap (on t) (xor_self (ons ss one)) ∙ on_none t

-- a sum of powers of x by their distances, the lowest power first
unfoldable pub powers : List ℕ → ℕ
powers [] = 0
powers (g ∷ gs) = on g (bit_xor one (powers gs))

-- the exponents that they come to
abbrev pub exponents : ℕ → List ℕ → List ℕ
exponents s [] = []
exponents s (g ∷ gs) = (s + g) ∷ exponents (s + g) gs

pub powers-ons : (s : ℕ) (gs : List ℕ) → on s (powers gs) ≡ ons (exponents s gs) one
unfolding powers ons
powers-ons s [] = on_none s
powers-ons s (g ∷ gs) = on-on g s (bit_xor one (powers gs)) ∙ ap (λ (k : ℕ). on k (bit_xor one (powers gs))) (add_comm g s) ∙ on_linear (s + g) one (powers gs) ∙ ap (bit_xor (on (s + g) one)) (powers-ons (s + g) gs)

-- a sum that is 0 says the last power as a sum of the others
pub last_power : (gs ss : List ℕ) (s : ℕ) → exponents 0 gs ≡ ss ++ (s ∷ []) → powers gs ≡ 0 → on s one ≡ ons ss one
unfolding ons
last_power gs ss s e z =
    sym (xor_zero_r (on s one))
    ∙ sym (xor_eq (ons ss one) (bit_xor (on s one) 0)
    (sym (ons-append ss (s ∷ []) one) ∙ ap (λ (l : List ℕ). ons l one) (sym e) ∙ sym (powers-ons 0 gs) ∙ ap (on 0) z ∙ on_none 0))

-- ---- bytes 0 move a register on

zero_bits : (n : ℕ) → bits_up_of (zeros n) ≡ zeros (8 * n)
unfolding bits_up_of bits_up
zero_bits zero = refl
zero_bits (suc n) =
    let e : 8 + 8 * n ≡ 8 * suc n = omega arith in
    ap (λ (l : List ℕ). zeros 8 ++ l) (zero_bits n) ∙ replicate-append-replicate 8 (8 * n) 0 ∙ ap zeros e

pub zeros-on : (n r : ℕ) → advance r (zeros n) ≡ on (8 * n) r
unfolding advance on
zeros-on n r = ap (feed_down generator r) (zero_bits n)

-- the register after some bytes: it is moved on, and what they make of 0 is added
pub advance_parts : (r : ℕ) (y : List ℕ) → advance r y ≡ bit_xor (on (8 * length y) r) (advance 0 y)
advance_parts r y =
    ap₂ advance (sym (xor_zero_r r)) (sym (zeros-xors y)) ∙ advance_linear r 0 (zeros (length y)) y (length-replicate (length y) 0)
    ∙ ap (λ (q : ℕ). bit_xor q (advance 0 y)) (zeros-on (length y) r)

-- what two parts make of 0
pub parts : (x y : List ℕ) → advance 0 (x ++ y) ≡ bit_xor (on (8 * length y) (advance 0 x)) (advance 0 y)
parts x y = advance-joined 0 x y ∙ advance_parts (advance 0 x) y
