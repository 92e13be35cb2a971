-- Remainders of words, moves and maps go through exclusive-or. So two maps that agree on the single bits, which the checker computes,
-- agree on every word.
-- Assumes nothing.
use mathlib.Core.Path.{◌≡◌, refl, sym, ap, ap₂, ◌∙◌}
use mathlib.Core.List.{List}
use Prim.Native.Nat.{ℕ, zero, suc, ◌+◌, ◌*◌, ◌/◌, ◌%◌, ◌^◌, ◌<◌}
use native.Mathlib.Nat.{mod-lt, div-add-mod', div-lt_iff_lt-mul}
use native.Mathlib.Omega.{arith}
use lib.ListN.{get_or, replicate, replicate-append-replicate}
use lib.Dec.{lit<}
use lib.Pow.{pow_pos}
use lib.Bits.{bit_xor, xor_mod, xor_shr, xor_self, xor_shifted}
use Rattle.xor.proofs.Bits.{bit_elim, xor_shl, xor-four, xor_eq}
use Rattle.xor.proofs.Lists.{xors-zeros}
use Rattle.crc.specs.Crc.{bits, feed}
use Rattle.crc.specs.Guard.{generator}
use Rattle.crc.proofs.Joined.{feed-append}
use Rattle.crc.proofs.Linear.{feed_linear, bits-xor, length-bits}
use Rattle.crc.proofs.Noticed.{feed-lt}
use Rattle.join.specs.Remainders.{product}
use Rattle.join.proofs.Products.{product_zeros, product-one}
use Rattle.table.specs.Tables.{entries}
use Rattle.table.proofs.Entries.{entry}
use Rattle.words.specs.Words.{rest, on, Map, same, up, down, low, plus, act}

abbrev pub zeros : ℕ → List ℕ
zeros n = replicate n 0

zeros-at : (n k : ℕ) → get_or (zeros n) k 0 ≡ 0
zeros-at zero k = refl
zeros-at (suc n) zero = refl
zeros-at (suc n) (suc k) = zeros-at n k

pub rest_linear : (x y : ℕ) → rest (bit_xor x y) ≡ bit_xor (rest x) (rest y)
unfolding rest
rest_linear x y = ap (feed 16 generator 0) (bits-xor 64 x y) ∙ feed_linear 16 generator (bits 64 x) (bits 64 y) 0 0 (length-bits 64 x ∙ sym (length-bits 64 y))

pub on_linear : (s x y : ℕ) → on s (bit_xor x y) ≡ bit_xor (on s x) (on s y)
unfolding on
on_linear s x y = ap (feed 16 generator (bit_xor x y)) (sym (xors-zeros (zeros s) s)) ∙ feed_linear 16 generator (zeros s) (zeros s) x y refl

-- two moves are one
pub on-on : (s t x : ℕ) → on t (on s x) ≡ on (s + t) x
unfolding on
on-on s t x = sym (feed-append 16 generator x (zeros s) (zeros t)) ∙ ap (feed 16 generator x) (replicate-append-replicate s t 0)

pub act_linear : (m : Map) (x y : ℕ) → act m (bit_xor x y) ≡ bit_xor (act m x) (act m y)
act_linear same x y = refl
act_linear (up k m) x y =
    ap (λ (v : ℕ). v * 2 ^ k % 2 ^ 64) (act_linear m x y) ∙ ap (λ (v : ℕ). v % 2 ^ 64) (sym (xor_shl k (act m x) (act m y)))
    ∙ xor_mod (act m x * 2 ^ k) (act m y * 2 ^ k) 64
act_linear (down k m) x y = ap (λ (v : ℕ). v / 2 ^ k) (act_linear m x y) ∙ xor_shr (act m x) (act m y) k
act_linear (low k m) x y = ap (λ (v : ℕ). v % 2 ^ k) (act_linear m x y) ∙ xor_mod (act m x) (act m y) k
act_linear (plus m n) x y = ap₂ bit_xor (act_linear m x y) (act_linear n x y) ∙ xor-four (act m x) (act m y) (act n x) (act n y)

pub rest_lt : (v : ℕ) → rest v < 2 ^ 16
unfolding rest
rest_lt v = feed-lt 16 generator refl (lit< tt) (lit< tt) 0 (bits 64 v) (lit< tt)

-- a move is a product
pub on-product : (s x : ℕ) → x < 2 ^ 16 → product 16 generator x (on s 1) ≡ on s x
unfolding on
on-product s x h = product_zeros 16 generator (lit< tt) s x 1 h (lit< tt) ∙ ap (λ (r : ℕ). feed 16 generator r (zeros s)) (product-one 16 generator (lit< tt) x h (lit< tt))

-- a map that goes through exclusive-or
abbrev pub Through : (ℕ → ℕ) → Type 0
Through f = (x y : ℕ) → f (bit_xor x y) ≡ bit_xor (f x) (f y)

-- what is additive, and 0 at each power of two below 2 ^ n, is 0 below 2 ^ n
additive : (f : ℕ → ℕ) → ((x y : ℕ) → f (bit_xor x y) ≡ bit_xor (f x) (f y)) → f 0 ≡ 0 → (n : ℕ) → ((k : ℕ) → k < n → f (2 ^ k) ≡ 0) → (x : ℕ) → x < 2 ^ n → f x ≡ 0
additive f add zero-at zero at x h = let e : x ≡ 0 = omega arith in ap f e ∙ zero-at
additive f add zero-at (suc n) at x h =
    let high : x / 2 ^ n < 2 = (div-lt_iff_lt-mul (pow_pos n)).1 (omega arith) in
    let low : x % 2 ^ n < 2 ^ n = mod-lt x (pow_pos n) in
    let parts : x ≡ bit_xor (x / 2 ^ n * 2 ^ n) (x % 2 ^ n) = sym (div-add-mod' x (2 ^ n)) ∙ sym (xor_shifted (x / 2 ^ n) n (x % 2 ^ n) low) in
    ap f parts ∙ add (x / 2 ^ n * 2 ^ n) (x % 2 ^ n)
    ∙ ap₂ bit_xor
    (bit_elim (λ (b : ℕ). f (b * 2 ^ n) ≡ 0) (ap f none ∙ zero-at) (ap f one ∙ at n (omega arith)) (x / 2 ^ n) high)
    (additive f add zero-at n (λ k l. at k (omega arith)) (x % 2 ^ n) low)
  where
    none : 0 * 2 ^ n ≡ 0
    none = omega arith

    one : 1 * 2 ^ n ≡ 2 ^ n
    one = omega arith

-- two of them added, and one after the other
pub sum_through : (f g : ℕ → ℕ) → Through f → Through g → Through (λ (x : ℕ). bit_xor (f x) (g x))
sum_through f g hf hg x y = ap₂ bit_xor (hf x y) (hg x y) ∙ xor-four (f x) (f y) (g x) (g y)

pub next_through : (f g : ℕ → ℕ) → Through f → Through g → Through (λ (x : ℕ). g (f x))
next_through f g hf hg x y = ap g (hf x y) ∙ hg (f x) (f y)

-- two such maps that agree on the n lowest single bits agree on every number below 2 ^ n
module _ (f g : ℕ → ℕ) where
  abbrev pub apart : ℕ → ℕ
  apart k = bit_xor (f (2 ^ k)) (g (2 ^ k))

  pub agree : Through f → Through g → (n : ℕ) → entries apart 0 n ≡ zeros n → (v : ℕ) → v < 2 ^ n → f v ≡ g v
  agree hf hg n none v h =
      xor_eq (f v) (g v)
      (additive (λ (x : ℕ). bit_xor (f x) (g x)) (sum_through f g hf hg) (sum_through f g hf hg 0 0 ∙ xor_self (bit_xor (f 0) (g 0))) n
      (λ k l. sym (entry apart n k l) ∙ ap (λ (q : List ℕ). get_or q k 0) none ∙ zeros-at n k) v h)

-- a word through a map
pub rest-act : (m : Map) → Through (λ (v : ℕ). rest (act m v))
rest-act m x y = ap rest (act_linear m x y) ∙ rest_linear (act m x) (act m y)
