-- A check with an odd generator notices every change that lies within as many successive bits as it is wide. The idea: the difference
-- of the two runs would take a register of zeros to zeros; run backwards over the zeros after the change, the register stays zero in
-- its low bits, one place fewer for each bit of the change, and so at the change's first bit it could not have become odd.
-- Assumes nothing.
use mathlib.Core.Path.{◌≡◌, refl, sym, ap, ap₂, ◌∙◌}
use mathlib.Core.Logic.{◌≢◌}
use mathlib.Core.List.{List, [], ◌∷◌, ◌++◌}
use Prim.Native.Nat.{ℕ, zero, suc, ◌+◌, ◌-◌, ◌*◌, ◌/◌, ◌%◌, ◌^◌, ◌≤◌, ◌<◌, zero-le, suc-le-suc}
use native.Mathlib.Nat.{le_refl, mod-lt, mod-eq_of_lt, mul-zero, mul-one, zero-mod, zero-div, mul-mod_left, mul-div_cancel, div-add-mod', div-lt_iff_lt-mul, zero-lt-suc, zero-mul, add-zero, mod-one, mod-mod, pow-suc}
use native.Mathlib.Numerals.{one-add}
use native.Mathlib.Omega.{arith}
use native.Mathlib.Decide.{dec_lt}
use lib.Arith.{mod-mul}
use lib.Dec.{lit<}
use lib.Pow.{pow_pos, mod-mod-pow, mod-pow-add}
use lib.ListN.{length, get_or, get_or-eq_default}
use lib.Bits.{bit_xor, xor_mod, xor_lt, xor_zero_r, xor_self}
use Rattle.xor.specs.Xors.{xors}
use Rattle.xor.proofs.Bits.{bit_elim, odd-lt, xor_eq}
use Rattle.xor.proofs.Lists.{get_or-xors, length-xors}
use Rattle.crc.specs.Crc.{feed, bits, bits_of, bit_step, Bytes, Within}
use Rattle.crc.specs.Guard.{generator, run, guard}
use Rattle.crc.proofs.Linear.{feed-bytes_linear, bits_of-xors, length-bits_of}

mod-mod-le : (n i j : ℕ) → i ≤ j → n % 2 ^ j % 2 ^ i ≡ n % 2 ^ i
mod-mod-le n i j h =
    let e : j ≡ j - i + i = omega arith in
    ap (λ (x : ℕ). n % 2 ^ x % 2 ^ i) e ∙ mod-mod-pow n (j - i) i

twice-mod : (r i : ℕ) → r * 2 % 2 ^ suc i ≡ r % 2 ^ i * 2
twice-mod r i =
    ap (λ (x : ℕ). r * 2 % x) (pow-suc 2 i) ∙ mod-mul (r * 2) (pow_pos i) (zero-lt-suc 1)
    ∙ ap₂ (λ (x y : ℕ). x % 2 ^ i * 2 + y) (mul-div_cancel r (zero-lt-suc 1)) (mul-mod_left r 2)
    ∙ omega arith

-- the bit that decides whether the generator is added
abbrev out : ℕ → ℕ → ℕ → ℕ
out w r b = bit_xor (r * 2 / 2 ^ w) b % 2

module _ (w g : ℕ) (odd : g % 2 ≡ 1) (small : g < 2 ^ w) (some : 0 < w) where
  step_lt : (r b : ℕ) → bit_step w g r b < 2 ^ w
  unfolding bit_step
  step_lt r b =
      xor_lt w (r * 2 % 2 ^ w) (g * (bit_xor (r * 2 / 2 ^ w) b % 2)) (mod-lt (r * 2) (pow_pos w))
      (bit_elim (λ (t : ℕ). g * t < 2 ^ w) (rw mul-zero (pow_pos w)) (rw mul-one small) (bit_xor (r * 2 / 2 ^ w) b % 2) (odd-lt (bit_xor (r * 2 / 2 ^ w) b)))

  -- it is the lowest bit of the next register
  step_odd : (r b : ℕ) → bit_step w g r b % 2 ≡ out w r b
  unfolding bit_step
  step_odd r b =
      xor_mod (r * 2 % 2 ^ w) (g * (bit_xor (r * 2 / 2 ^ w) b % 2)) 1
      ∙ ap₂ bit_xor (mod-mod-le (r * 2) 1 w some ∙ mul-mod_left r 2)
      (bit_elim (λ (t : ℕ). g * t % 2 ≡ t) (rw mul-zero) (rw mul-one odd) (bit_xor (r * 2 / 2 ^ w) b % 2) (odd-lt (bit_xor (r * 2 / 2 ^ w) b)))

  -- where it is 0 the register has only moved up
  step_even : (r b : ℕ) → bit_step w g r b % 2 ≡ 0 → bit_step w g r b ≡ r * 2 % 2 ^ w
  unfolding bit_step
  step_even r b e =
      ap (λ (t : ℕ). bit_xor (r * 2 % 2 ^ w) (g * t)) (sym (step_odd r b) ∙ e)
      ∙ ap (bit_xor (r * 2 % 2 ^ w)) (mul-zero g) ∙ xor_zero_r (r * 2 % 2 ^ w)

  -- where the suc i low bits of the next register are 0, the i low bits of this one are
  one-back : (r b i : ℕ) → i < w → bit_step w g r b % 2 ^ suc i ≡ 0 → r % 2 ^ i ≡ 0
  one-back r b i h e =
      let even : bit_step w g r b % 2 ≡ 0 = sym (mod-mod-le (bit_step w g r b) 1 (suc i) (suc-le-suc zero-le)) ∙ ap (λ (x : ℕ). x % 2) e in
      let low : r % 2 ^ i * 2 ≡ 0 = sym (twice-mod r i) ∙ sym (mod-mod-le (r * 2) (suc i) w h) ∙ ap (λ (x : ℕ). x % 2 ^ suc i) (sym (step_even r b even)) ∙ e in
      omega arith

  -- a register that a bit 0 takes to 0 is 0
  kernel : (r : ℕ) → r < 2 ^ w → bit_step w g r 0 ≡ 0 → r ≡ 0
  kernel r l e =
      let even : bit_step w g r 0 % 2 ≡ 0 = ap (λ (x : ℕ). x % 2) e in
      let low : r * 2 % 2 ^ w ≡ 0 = sym (step_even r 0 even) ∙ e in
      let top : r * 2 / 2 ^ w % 2 ≡ 0 = ap (λ (x : ℕ). x % 2) (sym (xor_zero_r (r * 2 / 2 ^ w))) ∙ sym (step_odd r 0) ∙ even in
      let high : r * 2 / 2 ^ w < 2 = (div-lt_iff_lt-mul (pow_pos w)).1 (omega arith) in
      let none : r * 2 / 2 ^ w ≡ 0 = omega arith in
      let whole : 0 * 2 ^ w + 0 ≡ r * 2 = ap₂ (λ (x y : ℕ). x * 2 ^ w + y) (sym none) (sym low) ∙ div-add-mod' (r * 2) (2 ^ w) in
      omega (arith, zero-mul (2 ^ w))

  -- a register that d takes to 0, where d has n bits and then zeros: its w - n low bits are 0
  back : (d : List ℕ) (r n i : ℕ) → i + n ≡ w → r < 2 ^ w → ((k : ℕ) → n ≤ k → get_or d k 0 ≡ 0) → feed w g r d ≡ 0 → r % 2 ^ i ≡ 0
  unfolding feed
  back [] r n i e l z f = ap (λ (x : ℕ). x % 2 ^ i) f ∙ zero-mod (2 ^ i)
  back (b ∷ d) r zero i e l z f =
      let whole : i ≡ w = omega arith in
      let next : bit_step w g r b % 2 ^ i ≡ 0 = back d (bit_step w g r b) zero i e (step_lt r b) (λ k h. z (suc k) zero-le) f in
      let gone : bit_step w g r b ≡ 0 = sym (mod-eq_of_lt (step_lt r b)) ∙ (rw whole at next) in
      ap (λ (x : ℕ). x % 2 ^ i) (kernel r l (ap (bit_step w g r) (sym (z 0 zero-le)) ∙ gone)) ∙ zero-mod (2 ^ i)
  back (b ∷ d) r (suc n) i e l z f =
      one-back r b i (omega arith) (back d (bit_step w g r b) n (suc i) (omega arith) (step_lt r b) (λ k h. z (suc k) (suc-le-suc h)) f)

  -- from 0 the bit that decides is the bit that comes in
  out-zero : (b : ℕ) → bit_step w g 0 b % 2 ≡ b % 2
  out-zero b = step_odd 0 b ∙ ap (λ (x : ℕ). bit_xor x b % 2) (zero-div (2 ^ w))

  still : (b : ℕ) → b % 2 ≡ 0 → bit_step w g 0 b ≡ 0
  still b e = step_even 0 b (out-zero b ∙ e) ∙ zero-mod (2 ^ w)

  -- where d has at most w bits and then zeros, and takes 0 to 0, its first bit is 0
  first : (b : ℕ) (d : List ℕ) (n : ℕ) → n < w → ((k : ℕ) → n ≤ k → get_or d k 0 ≡ 0) → feed w g (bit_step w g 0 b) d ≡ 0 → b % 2 ≡ 0
  first b d n h z f =
      sym (out-zero b) ∙ sym (mod-mod-le (bit_step w g 0 b) 1 (w - n) (omega arith))
      ∙ ap (λ (x : ℕ). x % 2) (back d (bit_step w g 0 b) n (w - n) (omega arith) (step_lt 0 b) z f)

  -- and so is each other bit
  front : (d : List ℕ) (n : ℕ) → n ≤ w → ((k : ℕ) → n ≤ k → get_or d k 0 ≡ 0) → feed w g 0 d ≡ 0 → (k : ℕ) → get_or d k 0 % 2 ≡ 0
  unfolding feed
  front [] n h z f k = refl
  front (b ∷ d) zero h z f k = ap (λ (x : ℕ). x % 2) (z k zero-le)
  front (b ∷ d) (suc n) h z f zero = first b d n h (λ k p. z (suc k) (suc-le-suc p)) f
  front (b ∷ d) (suc n) h z f (suc k) =
      front d n (omega arith) (λ k p. z (suc k) (suc-le-suc p))
      (ap (λ (x : ℕ). feed w g x d) (sym (still b (first b d n h (λ k p. z (suc k) (suc-le-suc p)) f))) ∙ f) k

  -- the same, after i zeros
  skip : (i n : ℕ) (d : List ℕ) → n ≤ w → ((k : ℕ) → k < i → get_or d k 0 ≡ 0) → ((k : ℕ) → i + n ≤ k → get_or d k 0 ≡ 0)
      → feed w g 0 d ≡ 0 → (k : ℕ) → get_or d k 0 % 2 ≡ 0
  unfolding feed
  skip zero n d h lo hi f k = front d n h (λ k p. hi k (omega arith)) f k
  skip (suc i) n [] h lo hi f k = refl
  skip (suc i) n (b ∷ d) h lo hi f zero = ap (λ (x : ℕ). x % 2) (lo 0 (omega arith))
  skip (suc i) n (b ∷ d) h lo hi f (suc k) =
      skip i n d h (λ k p. lo (suc k) (suc-le-suc p)) (λ k p. hi (suc k) (omega arith))
      (ap (λ (x : ℕ). feed w g x d) (sym (still b (ap (λ (x : ℕ). x % 2) (lo 0 (omega arith))))) ∙ f) k

-- ---- from the bits back to the bytes

-- each bit is 0
abbrev Even : List ℕ → Type 0
Even l = (k : ℕ) → get_or l k 0 % 2 ≡ 0

even-left : (l m : List ℕ) → Even (l ++ m) → Even l
even-left [] m z k = refl
even-left (x ∷ l) m z zero = z 0
even-left (x ∷ l) m z (suc k) = even-left l m (λ k. z (suc k)) k

even_right : (l m : List ℕ) → Even (l ++ m) → Even m
even_right [] m z = z
even_right (x ∷ l) m z = even_right l m (λ k. z (suc k))

bits-zero : (n x : ℕ) → Even (bits n x) → x % 2 ^ n ≡ 0
unfolding bits
bits-zero zero x z = mod-one x
bits-zero (suc n) x z =
    ap (λ (k : ℕ). x % 2 ^ k) (sym (one-add n)) ∙ mod-pow-add x 1 n
    ∙ ap₂ (λ (p q : ℕ). p * 2 ^ n + q) (sym (mod-mod (x / 2 ^ n) 2) ∙ z 0) (bits-zero n x (λ k. z (suc k)))
    ∙ add-zero (0 * 2 ^ n) ∙ zero-mul (2 ^ n)

same : (a b : List ℕ) → Bytes a → Bytes b → length a ≡ length b → Even (bits_of (xors a b)) → a ≡ b
unfolding xors bits_of
same [] [] ha hb h z = refl
same [] (y ∷ b) ha hb h z = absurd (omega arith)
same (x ∷ a) [] ha hb h z = absurd (omega arith)
same (x ∷ a) (y ∷ b) ha hb h z =
    let low : bit_xor x y % 2 ^ 8 ≡ 0 = bits-zero 8 (bit_xor x y) (even-left (bits 8 (bit_xor x y)) (bits_of (xors a b)) z) in
    let none : bit_xor x y ≡ 0 = sym (mod-eq_of_lt (xor_lt 8 x y (ha 0) (hb 0))) ∙ low in
    ap₂ (λ (p : ℕ) (l : List ℕ). p ∷ l) (xor_eq x y none)
    (same a b (λ k. ha (suc k)) (λ k. hb (suc k)) (omega arith) (even_right (bits 8 (bit_xor x y)) (bits_of (xors a b)) z))

-- two runs of bytes that differ only within w successive bits, and take one register to one, are one run
pub noticed_at : (w g : ℕ) → g % 2 ≡ 1 → g < 2 ^ w → 0 < w → (r : ℕ) (a b : List ℕ) → Bytes a → Bytes b → length a ≡ length b
    → Within w (bits_of a) (bits_of b) → feed w g r (bits_of a) ≡ feed w g r (bits_of b) → a ≡ b
noticed_at w g odd small some r a b ha hb h win e =
    same a b ha hb h
    (skip w g odd small some win.from w (bits_of (xors a b)) (le_refl w)
    (λ k p. agree k (win.before k p)) (λ k p. agree k (win.after k p))
    (ap (λ (q : ℕ). feed w g q (bits_of (xors a b))) (sym (xor_self r)) ∙ feed-bytes_linear w g r r a b h
    ∙ ap (λ (x : ℕ). bit_xor x (feed w g r (bits_of b))) e ∙ xor_self (feed w g r (bits_of b))))
  where
    long : length (bits_of a) ≡ length (bits_of b)
    long = length-bits_of a b h

    agree : (k : ℕ) → get_or (bits_of a) k 0 ≡ get_or (bits_of b) k 0 → get_or (bits_of (xors a b)) k 0 ≡ 0
    agree k p = ap (λ (l : List ℕ). get_or l k 0) (bits_of-xors a b h) ∙ go (dec_lt k (length (bits_of a)))
      where
        go : Dec (k < length (bits_of a)) → get_or (xors (bits_of a) (bits_of b)) k 0 ≡ 0
        go (yes l) =
            get_or-xors (bits_of a) (bits_of b) k l ∙ ap (λ (x : ℕ). bit_xor x (get_or (bits_of b) k 0)) p ∙ xor_self (get_or (bits_of b) k 0)
        go (no l) = get_or-eq_default (xors (bits_of a) (bits_of b)) 0 (omega (arith, length-xors (bits_of a) (bits_of b)))

-- the guard notices every change that lies within sixteen successive bits
pub noticed : (a b : List ℕ) → Bytes a → Bytes b → length a ≡ length b → Within 16 (bits_of a) (bits_of b) → a ≢ b → guard a ≢ guard b
unfolding guard run
noticed a b ha hb h win ne e = ne (noticed_at 16 generator refl (lit< tt) (lit< tt) 0 a b ha hb h win e)

-- a register stays below 2 ^ w
pub feed-lt : (w g : ℕ) → g % 2 ≡ 1 → g < 2 ^ w → 0 < w → (r : ℕ) (d : List ℕ) → r < 2 ^ w → feed w g r d < 2 ^ w
unfolding feed
feed-lt w g odd small some r [] h = h
feed-lt w g odd small some r (b ∷ d) h = feed-lt w g odd small some (bit_step w g r b) d (step_lt w g odd small some r b)

pub run-lt : (r : ℕ) (bytes : List ℕ) → r < 2 ^ 16 → run r bytes < 2 ^ 16
unfolding run
run-lt r bytes h = feed-lt 16 generator refl (lit< tt) (lit< tt) r (bits_of bytes) h

pub guard-lt : (bytes : List ℕ) → guard bytes < 2 ^ 16
unfolding guard
guard-lt bytes = run-lt 0 bytes (lit< tt)
