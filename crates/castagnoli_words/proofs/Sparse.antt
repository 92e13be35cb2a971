-- A word moved on with few shifts. The word is cut in two, and each part is moved up to the bits that come last; from there, moved down by
-- s bits, it is moved on by s.
-- Assumes nothing.
use mathlib.Core.Path.{◌≡◌, refl, sym, ap, ap₂, ◌∙◌}
use mathlib.Core.Bool.{Bool, true, false, ◌&&◌}
use mathlib.Core.List.{List, [], ◌∷◌, ◌++◌}
use Prim.Native.Nat.{ℕ, zero, suc, ◌+◌, ◌-◌, ◌*◌, ◌/◌, ◌%◌, ◌^◌, ◌≤◌, ◌<◌}
use native.Mathlib.Nat.{zero-lt-suc, mod-lt, mod-eq_of_lt, zero-mod, mul-mod_left, pow-suc, add-zero, div-lt_iff_lt-mul}
use native.Mathlib.Numerals.{one-add}
use native.Mathlib.Omega.{arith}
use lib.Arith.{mod-mul}
use lib.Dec.{lit<, leb}
use lib.Pow.{pow_pos, mod-pow-add, mod-mod-pow, shl-shr, shr-shr, split}
use lib.Bits.{bit_xor, xor_mod, xor_lt, xor_comm, xor_shifted}
use Rattle.xor.proofs.Bits.{xor_assoc, xor_swap}
use borrow.Author.Tests.{leb-true}
use Rattle.castagnoli.specs.Reflected.{bits_up, feed_down}
use Rattle.castagnoli.specs.Castagnoli.{generator}
use Rattle.castagnoli.proofs.Joined.{feed-append}
use Rattle.castagnoli.proofs.Linear.{feed_linear, bits-xor, length-bits}
use Rattle.castagnoli.proofs.Mirrored.{feed-lt}
use Rattle.castagnoli_words.specs.Words.{rest, on, after, ons, downs}
use Rattle.castagnoli_words.proofs.Moves.{zeros, one, on_none, on_linear, on-on, ons_linear, ons-append, alike}

pub rest_linear : (x y : ℕ) → rest (bit_xor x y) ≡ bit_xor (rest x) (rest y)
unfolding rest
rest_linear x y = ap (feed_down generator 0) (bits-xor 64 x y) ∙ feed_linear generator (bits_up 64 x) (bits_up 64 y) 0 0 (length-bits 64 x ∙ sym (length-bits 64 y))

pub rest_lt : (v : ℕ) → rest v < 2 ^ 32
unfolding rest
rest_lt v = feed-lt 0 (bits_up 64 v) (lit< tt)

-- ---- a word whose low bits are 0, moved down

pub bits-cut : (k n v : ℕ) → bits_up (k + n) v ≡ bits_up k v ++ bits_up n (v / 2 ^ k)
unfolding bits_up
bits-cut zero n v = let e : v ≡ v / 1 = omega arith in let f : zero + n ≡ n = omega arith in ap₂ bits_up f e
bits-cut (suc k) n v =
    let f : suc k + n ≡ suc (k + n) = omega arith in
    ap (λ (m : ℕ). bits_up m v) f
    ∙ ap (λ (l : List ℕ). v % 2 ∷ l) (bits-cut k n (v / 2) ∙ ap (λ (x : ℕ). bits_up k (v / 2) ++ bits_up n x) (shr-shr v 1 k ∙ ap (λ (m : ℕ). v / 2 ^ m) (one-add k)))

bits-zero : (k v : ℕ) → v % 2 ^ k ≡ 0 → bits_up k v ≡ zeros k
unfolding bits_up
bits-zero zero v e = refl
bits-zero (suc k) v e =
    let parts : v % 2 ^ suc k ≡ v / 2 % 2 ^ k * 2 + v % 2 = ap (λ (q : ℕ). v % q) (pow-suc 2 k) ∙ mod-mul v (pow_pos k) (zero-lt-suc 1) in
    let low : v % 2 ≡ 0 = omega arith in
    let high : v / 2 % 2 ^ k ≡ 0 = omega arith in
    ap₂ (λ (p : ℕ) (l : List ℕ). p ∷ l) low (bits-zero k (v / 2) high)

fed-zeros : (k : ℕ) (l : List ℕ) → feed_down generator 0 (zeros k ++ l) ≡ feed_down generator 0 l
unfolding on
fed-zeros k l = feed-append generator 0 (zeros k) l ∙ ap (λ (r : ℕ). feed_down generator r l) (on_none k)

pub moved_down : (k v : ℕ) → k ≤ 64 → v < 2 ^ 64 → v % 2 ^ k ≡ 0 → rest (v / 2 ^ k) ≡ on k (rest v)
unfolding rest on
moved_down k v h less e =
    let n = 64 - k in
    let back : n + k ≡ 64 = omega arith in
    let forth : k + n ≡ 64 = omega arith in
    let none : v / 2 ^ k / 2 ^ n ≡ 0 = shr-shr v k n ∙ ap (λ (m : ℕ). v / 2 ^ m) forth ∙ div-none in
    ap (λ (m : ℕ). feed_down generator 0 (bits_up m (v / 2 ^ k))) (sym back)
    ∙ ap (feed_down generator 0) (bits-cut n k (v / 2 ^ k) ∙ ap (λ (l : List ℕ). bits_up n (v / 2 ^ k) ++ l) (bits-zero k (v / 2 ^ k / 2 ^ n) (ap (λ (x : ℕ). x % 2 ^ k) none ∙ zero-mod (2 ^ k))))
    ∙ feed-append generator 0 (bits_up n (v / 2 ^ k)) (zeros k)
    ∙ ap (λ (r : ℕ). feed_down generator r (zeros k))
    (sym (ap (λ (m : ℕ). feed_down generator 0 (bits_up m v)) (sym forth)
    ∙ ap (feed_down generator 0) (bits-cut k n v ∙ ap (λ (l : List ℕ). l ++ bits_up n (v / 2 ^ k)) (bits-zero k v e))
    ∙ fed-zeros k (bits_up n (v / 2 ^ k))))
  where
    div-none : v / 2 ^ 64 ≡ 0
    div-none = let few : v / 2 ^ 64 < 1 = (div-lt_iff_lt-mul (pow_pos 64)).1 (omega arith) in omega arith

-- each number of the list is at most k
abbrev pub fits : ℕ → List ℕ → Bool
fits k [] = true
fits k (s ∷ ss) = leb s k && fits k ss

pub first_true : (a b : Bool) → a && b ≡ true → a ≡ true
first_true true b e = refl
first_true false b e = e

pub second_true : (a b : Bool) → a && b ≡ true → b ≡ true
second_true true b e = e
second_true false true e = refl
second_true false false e = e

fewer_zeros : (k s h : ℕ) → s ≤ k → h % 2 ^ k ≡ 0 → h % 2 ^ s ≡ 0
fewer_zeros k s h l e =
    let whole : k ≡ k - s + s = omega arith in
    sym (mod-mod-pow h (k - s) s) ∙ ap (λ (m : ℕ). h % 2 ^ m % 2 ^ s) (sym whole) ∙ ap (λ (x : ℕ). x % 2 ^ s) e ∙ zero-mod (2 ^ s)

rest-downs : (k h : ℕ) → k ≤ 64 → h < 2 ^ 64 → h % 2 ^ k ≡ 0 → (ss : List ℕ) → fits k ss ≡ true → (v : ℕ) → rest (downs v ss h) ≡ bit_xor (rest v) (ons ss (rest h))
unfolding ons
rest-downs k h few less e [] f v = sym (xor_comm (rest v) 0)
rest-downs k h few less e (s ∷ ss) f v =
    let l = leb-true s k (first_true (leb s k) (fits k ss) f) in
    rest-downs k h few less e ss (second_true (leb s k) (fits k ss) f) (bit_xor v (h / 2 ^ s))
    ∙ ap (λ (x : ℕ). bit_xor x (ons ss (rest h))) (rest_linear v (h / 2 ^ s) ∙ ap (bit_xor (rest v)) (moved_down s h (omega arith) less (fewer_zeros k s h l e)))
    ∙ xor_assoc (rest v) (on s (rest h)) (ons ss (rest h))

-- ---- the step

-- a word cut at i + j = 64: its low i bits moved up by j, and the others where they are
module _ (i j : ℕ) (cut : i + j ≡ 64) (v : ℕ) (less : v < 2 ^ 64) where
  abbrev h : ℕ
  h = v * 2 ^ j % 2 ^ 64

  abbrev l : ℕ
  l = v / 2 ^ i * 2 ^ i % 2 ^ 64

  low-moved : h ≡ v % 2 ^ i * 2 ^ j
  low-moved =
      ap (λ (k : ℕ). v * 2 ^ j % 2 ^ k) (sym cut) ∙ mod-pow-add (v * 2 ^ j) i j
      ∙ ap₂ (λ (x y : ℕ). x % 2 ^ i * 2 ^ j + y) (shl-shr v j) (mul-mod_left v (2 ^ j)) ∙ add-zero (v % 2 ^ i * 2 ^ j)

  high_left : l ≡ v / 2 ^ i * 2 ^ i
  high_left = mod-eq_of_lt (omega (arith, split v i))

  h-zeros : h % 2 ^ j ≡ 0
  h-zeros = ap (λ (x : ℕ). x % 2 ^ j) low-moved ∙ mul-mod_left (v % 2 ^ i) (2 ^ j)

  l-zeros : l % 2 ^ i ≡ 0
  l-zeros = ap (λ (x : ℕ). x % 2 ^ i) high_left ∙ mul-mod_left (v / 2 ^ i) (2 ^ i)

  h_less : h < 2 ^ 64
  h_less = mod-lt (v * 2 ^ j) (pow_pos 64)

  l_less : l < 2 ^ 64
  l_less = mod-lt (v / 2 ^ i * 2 ^ i) (pow_pos 64)

  whole : rest v ≡ bit_xor (rest l) (on j (rest h))
  whole =
      ap rest (sym (split v i) ∙ sym (xor_shifted (v / 2 ^ i) i (v % 2 ^ i) (mod-lt v (pow_pos i))))
      ∙ rest_linear (v / 2 ^ i * 2 ^ i) (v % 2 ^ i)
      ∙ ap₂ bit_xor (ap rest (sym high_left))
      (ap rest (sym (shl-shr (v % 2 ^ i) j) ∙ ap (λ (x : ℕ). x / 2 ^ j) (sym low-moved)) ∙ moved_down j h (omega arith) h_less h-zeros)

  both-zeros : (k : ℕ) → k ≤ i → k ≤ j → bit_xor h l % 2 ^ k ≡ 0
  both-zeros k li lj = xor_mod h l k ∙ ap₂ bit_xor (fewer_zeros j k h lj h-zeros) (fewer_zeros i k l li l-zeros)

  -- both parts by the moves us, the low one by the moves hs as well, the high one by ls
  pub sparse : (k s : ℕ) (us hs ls : List ℕ) → k ≤ i → k ≤ j → fits k us ≡ true → fits j hs ≡ true → fits i ls ≡ true
      → on (j + s) one ≡ ons (us ++ hs) one → on s one ≡ ons (us ++ ls) one
      → (w : ℕ) → rest (downs (downs (downs w us (bit_xor h l)) hs h) ls l) ≡ after s (rest v) (rest w)
  sparse k s us hs ls ki kj fu fh fl eh el w =
      let x = rest h in
      let y = rest l in
      let c = rest w in
      rest-downs i l (omega arith) l_less l-zeros ls fl (downs (downs w us (bit_xor h l)) hs h)
      ∙ ap (λ (z : ℕ). bit_xor z (ons ls y))
      (rest-downs j h (omega arith) h_less h-zeros hs fh (downs w us (bit_xor h l))
      ∙ ap (λ (z : ℕ). bit_xor z (ons hs x))
      (rest-downs k (bit_xor h l) (omega arith) (xor_lt 64 h l h_less l_less) (both-zeros k ki kj) us fu w
      ∙ ap (bit_xor c) (ap (ons us) (rest_linear h l) ∙ ons_linear us x y)))
      ∙ gather c (ons us x) (ons us y) (ons hs x) (ons ls y)
      ∙ ap (λ (z : ℕ). bit_xor z c)
      (ap₂ bit_xor (sym (ons-append us ls y) ∙ sym (alike s (us ++ ls) el y (rest_lt l)))
      (sym (ons-append us hs x) ∙ sym (alike (j + s) (us ++ hs) eh x (rest_lt h)) ∙ sym (on-on j s x))
      ∙ sym (on_linear s y (on j x)) ∙ ap (on s) (sym whole))
    where
      gather : (c p q r t : ℕ) → bit_xor (bit_xor (bit_xor c (bit_xor p q)) r) t ≡ bit_xor (bit_xor (bit_xor q t) (bit_xor p r)) c
      gather c p q r t =
          ap (λ (z : ℕ). bit_xor z t) (xor_assoc c (bit_xor p q) r) ∙ xor_assoc c (bit_xor (bit_xor p q) r) t
          ∙ xor_comm c (bit_xor (bit_xor (bit_xor p q) r) t)
          ∙ ap (λ (z : ℕ). bit_xor z c)
          (ap (λ (z : ℕ). bit_xor z t) (xor_swap p q r) ∙ xor_assoc (bit_xor p r) q t ∙ xor_comm (bit_xor p r) (bit_xor q t))
