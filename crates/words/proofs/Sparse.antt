-- A sparse step: where x ^ s, and x ^ s times x ^ k, are sums of few low powers of x modulo the generator, a map that adds the low k bits of a
-- word at the powers of the one sum and its other bits at those of the other moves every word on by s bits.
-- Assumes nothing.
use mathlib.Core.Path.{◌≡◌, refl, sym, ap, ap₂, subst, ◌∙◌}
use mathlib.Core.Bool.{Bool, true, false, cond, ◌&&◌}
use Prim.Native.Nat.{ℕ, zero, suc, ◌+◌, ◌-◌, ◌*◌, ◌/◌, ◌%◌, ◌^◌, ◌≤◌, ◌<◌, max}
use native.Mathlib.Nat.{mod-lt, mod-eq_of_lt, mul_assoc, div-add-mod', lt_of_lt_of_le, le-max_left, le-max_right}
use native.Mathlib.Omega.{arith}
use lib.Dec.{leb, eqb}
use lib.Pow.{pow_pos, pow_mono, pow-add, shl_lt, shl_exact, shr_lt}
use lib.Bits.{bit_xor, xor_self, xor_comm, xor_zero_r, xor_lt, xor_shifted}
use Rattle.xor.proofs.Bits.{xor-four}
use borrow.Author.Tests.{leb-true, eqb-true}
use Rattle.crc.specs.Crc.{feed, bits, bit_step}
use Rattle.crc.specs.Guard.{generator}
use Rattle.join.specs.Remainders.{product}
use Rattle.join.proofs.Products.{product_linear, product-up, one_product}
use Rattle.words.specs.Words.{rest, on, after, Map, same, up, down, low, plus, act}
use Rattle.words.proofs.Linear.{rest_linear, on_linear, on-on, rest-act, rest_lt, agree}

-- ---- a word moved up, where nothing is lost

doubled : (x : ℕ) → x < 2 ^ 63 → rest (act (up 1 same) x) ≡ on 1 (rest x)
unfolding rest on feed bits bit_step
doubled = agree (λ x. rest (act (up 1 same) x)) (λ x. on 1 (rest x)) (rest-act (up 1 same)) (λ x y. ap (on 1) (rest_linear x y) ∙ on_linear 1 (rest x) (rest y)) 63 refl

up-on : (e x j : ℕ) → x < 2 ^ j → j + e ≤ 64 → rest (x * 2 ^ e % 2 ^ 64) ≡ on e (rest x)
unfolding on feed
up-on zero x j h l =
    let few : j ≤ 64 = omega arith in
    let small : x < 2 ^ 64 = lt_of_lt_of_le h (pow_mono few) in
    let e : x * 1 ≡ x = omega arith in
    ap (λ (y : ℕ). rest (y % 2 ^ 64)) e ∙ ap rest (mod-eq_of_lt small)
up-on (suc e) x j h l =
    let once : x * 2 ^ 1 % 2 ^ 64 ≡ x * 2 ^ 1 = shl_exact {a = x} j 1 64 h (omega arith) in
    let few : j ≤ 63 = omega arith in
    let more : 1 + e ≡ suc e = omega arith in
    ap (λ (n : ℕ). rest (x * 2 ^ n % 2 ^ 64)) (sym more) ∙ ap (λ (y : ℕ). rest (y % 2 ^ 64)) (ap (λ (y : ℕ). x * y) (pow-add 2 1 e) ∙ sym (mul_assoc x (2 ^ 1) (2 ^ e)))
    ∙ up-on e (x * 2 ^ 1) (j + 1) (shl_lt {a = x} j 1 h) (omega arith) ∙ ap (λ (y : ℕ). on e (rest y)) (sym once)
    ∙ ap (on e) (doubled x (lt_of_lt_of_le h (pow_mono few))) ∙ on-on 1 e (rest x) ∙ ap (λ (n : ℕ). on n (rest x)) more

-- ---- products with a power of x

on-first : (e f b : ℕ) → product 16 generator (on e f) b ≡ on e (product 16 generator f b)
unfolding on feed
on-first zero f b = refl
on-first (suc e) f b = on-first e (bit_step 16 generator f 0) b ∙ ap (on e) (product-up 16 generator f b)

none_first : (b : ℕ) → product 16 generator 0 b ≡ 0
none_first b = product_linear 16 generator 0 0 b ∙ xor_self (product 16 generator 0 b)

one-first : (v : ℕ) → product 16 generator 1 (rest v) ≡ rest v
one-first v = one_product 16 generator (rest v) (rest_lt v)

-- ---- maps that are made of the two parts of a word

abbrev pub is_same : Map → Bool
is_same same = true
is_same (up e m) = false
is_same (down j m) = false
is_same (low j m) = false
is_same (plus m n) = false

-- how many bits such a map makes, the parts being cut at k
abbrev pub width : ℕ → Map → ℕ
width k same = 64
width k (up e m) = width k m + e
width k (down j m) = 64 - k
width k (low j m) = k
width k (plus m n) = max (width k m) (width k n)

abbrev pub made : ℕ → Map → Bool
made k same = false
made k (up e m) = made k m && leb (width k m + e) 64
made k (down j m) = is_same m && eqb j k
made k (low j m) = is_same m && eqb j k
made k (plus m n) = made k m && made k n

-- by what it multiplies the high part, and the low one
abbrev pub by_high : Map → ℕ
by_high same = 0
by_high (up e m) = on e (by_high m)
by_high (down j m) = 1
by_high (low j m) = 0
by_high (plus m n) = bit_xor (by_high m) (by_high n)

abbrev pub by_low : Map → ℕ
by_low same = 0
by_low (up e m) = on e (by_low m)
by_low (down j m) = 0
by_low (low j m) = 1
by_low (plus m n) = bit_xor (by_low m) (by_low n)

first_true : (a b : Bool) → a && b ≡ true → a ≡ true
first_true true b e = refl
first_true false b e = e

second_true : (a b : Bool) → a && b ≡ true → b ≡ true
second_true true b e = e
second_true false true e = refl
second_true false false e = e

never : {A : Type 0} → false ≡ true → A
never e = let z : ◌≡◌ {A = ℕ} 0 1 = ap (λ (b : Bool). cond b 1 0) e in absurd (omega arith)

same-act : (m : Map) → is_same m ≡ true → (v : ℕ) → act m v ≡ v
same-act same e v = refl
same-act (up j m) e v = never e
same-act (down j m) e v = never e
same-act (low j m) e v = never e
same-act (plus m n) e v = never e

module _ (k : ℕ) (few : k ≤ 64) (v : ℕ) (h : v < 2 ^ 64) where
  high_lt : v / 2 ^ k < 2 ^ (64 - k)
  high_lt = let e : 64 ≡ 64 - k + k = omega arith in shr_lt {n = v} (64 - k) k (subst (λ (n : ℕ). v < 2 ^ n) e h)

  -- the part that a map takes
  part : (m : Map) (j : ℕ) → is_same m && eqb j k ≡ true → (f : ℕ → ℕ → ℕ) → f (act m v) j ≡ f v k
  part m j e f = ap₂ f (same-act m (first_true (is_same m) (eqb j k) e) v) (eqb-true j k (second_true (is_same m) (eqb j k) e))

  pub act-lt : (m : Map) → made k m ≡ true → act m v < 2 ^ width k m
  act-lt same e = never e
  act-lt (up i m) e =
      let less = act-lt m (first_true (made k m) (leb (width k m + i) 64) e) in
      let fits = leb-true (width k m + i) 64 (second_true (made k m) (leb (width k m + i) 64) e) in
      rw (shl_exact {a = act m v} (width k m) i 64 less fits) (shl_lt {a = act m v} (width k m) i less)
  act-lt (down j m) e = rw (part m j e (λ x y. x / 2 ^ y)) high_lt
  act-lt (low j m) e = rw (part m j e (λ x y. x % 2 ^ y)) (mod-lt v (pow_pos k))
  act-lt (plus m n) e =
      let a = width k m in
      let b = width k n in
      xor_lt (max a b) (act m v) (act n v) (lt_of_lt_of_le (act-lt m (first_true (made k m) (made k n) e)) (pow_mono (le-max_left a b)))
      (lt_of_lt_of_le (act-lt n (second_true (made k m) (made k n) e)) (pow_mono (le-max_right a b)))

  abbrev both : ℕ → ℕ → ℕ
  both f g = bit_xor (product 16 generator f (rest (v / 2 ^ k))) (product 16 generator g (rest (v % 2 ^ k)))

  splits : (m : Map) → made k m ≡ true → rest (act m v) ≡ both (by_high m) (by_low m)
  splits same e = never e
  splits (up i m) e =
      let ok = first_true (made k m) (leb (width k m + i) 64) e in
      let p = product 16 generator (by_high m) (rest (v / 2 ^ k)) in
      let q = product 16 generator (by_low m) (rest (v % 2 ^ k)) in
      up-on i (act m v) (width k m) (act-lt m ok) (leb-true (width k m + i) 64 (second_true (made k m) (leb (width k m + i) 64) e))
      ∙ ap (on i) (splits m ok) ∙ on_linear i p q
      ∙ ap₂ bit_xor (sym (on-first i (by_high m) (rest (v / 2 ^ k)))) (sym (on-first i (by_low m) (rest (v % 2 ^ k))))
  splits (down j m) e =
      ap rest (part m j e (λ x y. x / 2 ^ y)) ∙ sym (xor_zero_r (rest (v / 2 ^ k)))
      ∙ ap₂ bit_xor (sym (one-first (v / 2 ^ k))) (sym (none_first (rest (v % 2 ^ k))))
  splits (low j m) e =
      ap rest (part m j e (λ x y. x % 2 ^ y)) ∙ sym (xor_comm 0 (rest (v % 2 ^ k)) ∙ xor_zero_r (rest (v % 2 ^ k)))
      ∙ ap₂ bit_xor (sym (none_first (rest (v / 2 ^ k)))) (sym (one-first (v % 2 ^ k)))
  splits (plus m n) e =
      let x = rest (v / 2 ^ k) in
      let y = rest (v % 2 ^ k) in
      rest_linear (act m v) (act n v) ∙ ap₂ bit_xor (splits m (first_true (made k m) (made k n) e)) (splits n (second_true (made k m) (made k n) e))
      ∙ xor-four (product 16 generator (by_high m) x) (product 16 generator (by_low m) y) (product 16 generator (by_high n) x) (product 16 generator (by_low n) y)
      ∙ ap₂ bit_xor (sym (product_linear 16 generator (by_high m) (by_high n) x)) (sym (product_linear 16 generator (by_low m) (by_low n) y))

  -- the word itself
  whole : rest v ≡ bit_xor (on k (rest (v / 2 ^ k))) (rest (v % 2 ^ k))
  whole =
      let fits : 64 - k + k ≤ 64 = omega arith in
      ap rest (sym (div-add-mod' v (2 ^ k)) ∙ sym (xor_shifted (v / 2 ^ k) k (v % 2 ^ k) (mod-lt v (pow_pos k))))
      ∙ rest_linear (v / 2 ^ k * 2 ^ k) (v % 2 ^ k)
      ∙ ap (λ (x : ℕ). bit_xor x (rest (v % 2 ^ k)))
      (ap rest (sym (shl_exact {a = v / 2 ^ k} (64 - k) k 64 high_lt fits)) ∙ up-on k (v / 2 ^ k) (64 - k) high_lt fits)

  power : (t w : ℕ) → product 16 generator (on t 1) (rest w) ≡ on t (rest w)
  power t w = on-first t 1 (rest w) ∙ ap (on t) (one-first w)

  pub moved : (m : Map) (s : ℕ) → made k m ≡ true → by_high m ≡ on (k + s) 1 → by_low m ≡ on s 1 → rest (act m v) ≡ on s (rest v)
  moved m s e f g =
      splits m e ∙ ap₂ both f g ∙ ap₂ bit_xor (power (k + s) (v / 2 ^ k)) (power s (v % 2 ^ k))
      ∙ sym (ap (on s) whole ∙ on_linear s (on k (rest (v / 2 ^ k))) (rest (v % 2 ^ k)) ∙ ap (λ (x : ℕ). bit_xor x (on s (rest (v % 2 ^ k)))) (on-on k s (rest (v / 2 ^ k))))

-- the step, and a word added
pub sparse : (m : Map) (k s : ℕ) → k ≤ 64 → made k m ≡ true → by_high m ≡ on (k + s) 1 → by_low m ≡ on s 1
    → (v w : ℕ) → v < 2 ^ 64 → rest (bit_xor (act m v) w) ≡ after s (rest v) (rest w)
sparse m k s few e f g v w h = rest_linear (act m v) w ∙ ap (λ (x : ℕ). bit_xor x (rest w)) (moved k few v h m s e f g)
