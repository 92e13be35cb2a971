-- A block of 512 bytes made 288. As x ^ 2048 = x ^ 240 + x ^ 208 + x ^ 64 modulo the generator, the first 224 bytes may be taken away and added
-- 226, 230 and 248 places on; and each word of what is left is a sum of words of the block.
-- Assumes nothing.
use mathlib.Core.Path.{◌≡◌, refl, sym, ap, ap₂, subst, ◌∙◌}
use mathlib.Core.List.{List, [], ◌∷◌, ◌++◌}
use Prim.Native.Nat.{ℕ, zero, suc, ◌+◌, ◌-◌, ◌*◌, ◌^◌, ◌≤◌, ◌<◌, min}
use native.Mathlib.Nat.{zero-add, suc-add, sub-zero, not-suc-le-zero, le_of_suc-le-suc}
use native.Mathlib.Omega.{arith}
use lib.Dec.{lit<}
use lib.ListN.{length, take, drop, length-replicate, length-append, length-take, length-drop, take-append-drop}
use lib.Seq.{take-append-le, drop-append-le, take-append-add, take-take, drop-drop, length-take-le}
use lib.Bits.{bit_xor, xor_comm}
use Rattle.xor.specs.Xors.{xors}
use Rattle.xor.proofs.Bits.{xor_assoc}
use Rattle.xor.proofs.Lists.{length-xors, take-xors, drop-xors}
use Rattle.crc.specs.Crc.{feed, bit_step}
use Rattle.crc.specs.Guard.{generator, guard}
use Rattle.crc.proofs.Linear.{guard_linear}
use Rattle.crc.proofs.Noticed.{feed-lt, guard-lt}
use Rattle.crc.proofs.Shifted.{guard-zero}
use Rattle.join.specs.Remainders.{product}
use Rattle.join.proofs.Products.{product_linear, product_comm}
use Rattle.words.specs.Words.{on}
use Rattle.fold.specs.Reading.{piece}
use Rattle.fold.specs.Columns.{carry}
use Rattle.words.proofs.Linear.{zeros, on-on, on-product}
use Rattle.words.proofs.Parts.{zeros-on, guard_parts}
use Rattle.fold.proofs.Quads.{on_none}

-- the 288 bytes
unfoldable pub short : List ℕ → List ℕ
short b = xors (xors (xors (drop 224 b) (carry 24 b)) (carry 6 b)) (carry 2 b)

-- ---- x ^ 2048 = x ^ 64 + x ^ 208 + x ^ 240

on-lt : (s x : ℕ) → x < 2 ^ 16 → on s x < 2 ^ 16
unfolding on
on-lt s x h = feed-lt 16 generator refl (lit< tt) (lit< tt) x (zeros s) h

factors : on 2048 1 ≡ bit_xor (bit_xor (on 64 1) (on 208 1)) (on 240 1)
unfolding on feed bit_step
factors = refl

pub three_moves : (x : ℕ) → x < 2 ^ 16 → on 2048 x ≡ bit_xor (bit_xor (on 64 x) (on 208 x)) (on 240 x)
three_moves x h =
    sym (on-product 2048 x h) ∙ ap by factors ∙ product_comm 16 generator x f h lf ∙ product_linear 16 generator (bit_xor a b) c x
    ∙ ap₂ bit_xor (product_linear 16 generator a b x ∙ ap₂ bit_xor (back 64) (back 208)) (back 240)
  where
    by : ℕ → ℕ
    by = product 16 generator x

    a : ℕ
    a = on 64 1

    b : ℕ
    b = on 208 1

    c : ℕ
    c = on 240 1

    f : ℕ
    f = bit_xor (bit_xor a b) c

    lf : f < 2 ^ 16
    lf = subst (λ (y : ℕ). y < 2 ^ 16) factors (on-lt 2048 1 (lit< tt))

    back : (s : ℕ) → product 16 generator (on s 1) x ≡ on s x
    back s = product_comm 16 generator (on s 1) x (on-lt s 1 (lit< tt)) h ∙ on-product s x h

-- 256 bits further
further_moves : (x : ℕ) → x < 2 ^ 16 → on 2304 x ≡ bit_xor (bit_xor (on 320 x) (on 464 x)) (on 496 x)
further_moves x h =
    sym (on-on 256 2048 x) ∙ three_moves (on 256 x) (on-lt 256 x h) ∙ ap₂ bit_xor (ap₂ bit_xor (on-on 256 64 x) (on-on 256 208 x)) (on-on 256 240 x)

-- ---- the guard

zeros-first : (n : ℕ) (l : List ℕ) → guard (zeros n ++ l) ≡ guard l
zeros-first zero l = refl
zeros-first (suc n) l = guard-zero (zeros n ++ l) ∙ zeros-first n l

guard-zeros : (n : ℕ) → guard (zeros n) ≡ 0
unfolding guard
guard-zeros n = zeros-on n 0 ∙ on_none (8 * n)

guard_then : (l : List ℕ) (n : ℕ) → guard (l ++ zeros n) ≡ on (8 * n) (guard l)
guard_then l n =
    guard_parts l (zeros n) ∙ ap₂ (λ (k g : ℕ). bit_xor (on (8 * k) (guard l)) g) (length-replicate {A = ℕ} n 0) (guard-zeros n) ∙ xor_comm (on (8 * n) (guard l)) 0

guard-carry : (d : ℕ) (b : List ℕ) → guard (carry d b) ≡ on (8 * (64 - d)) (guard (take 224 b))
unfolding carry
guard-carry d b = zeros-first d (take 224 b ++ zeros (64 - d)) ∙ guard_then (take 224 b) (64 - d)

length-carry : (d : ℕ) (b : List ℕ) → d ≤ 64 → 224 ≤ length b → length (carry d b) ≡ 288
unfolding carry
length-carry d b h l =
    length-append (zeros d) (take 224 b ++ zeros (64 - d))
    ∙ ap₂ (λ (x y : ℕ). x + y) (length-replicate {A = ℕ} d 0) (length-append (take 224 b) (zeros (64 - d)) ∙ ap₂ (λ (x y : ℕ). x + y) (length-take-le 224 b l) (length-replicate {A = ℕ} (64 - d) 0))
    ∙ omega arith

module _ (b : List ℕ) (e : length b ≡ 512) where
  back_long : length (drop 224 b) ≡ 288
  back_long = length-drop 224 b ∙ ap (λ (n : ℕ). n - 224) e

  carry-long : (d : ℕ) → d ≤ 64 → length (carry d b) ≡ 288
  carry-long d h = length-carry d b h (omega arith)

  once-long : length (xors (drop 224 b) (carry 24 b)) ≡ 288
  once-long = length-xors (drop 224 b) (carry 24 b) ∙ back_long

  twice-long : length (xors (xors (drop 224 b) (carry 24 b)) (carry 6 b)) ≡ 288
  twice-long = length-xors (xors (drop 224 b) (carry 24 b)) (carry 6 b) ∙ once-long

  pub length-short : length (short b) ≡ 288
  unfolding short
  length-short = length-xors (xors (xors (drop 224 b) (carry 24 b)) (carry 6 b)) (carry 2 b) ∙ twice-long

  pub guard-short : guard (short b) ≡ guard b
  unfolding short
  guard-short =
      let p = guard (take 224 b) in
      let q = guard (drop 224 b) in
      guard_linear (xors (xors (drop 224 b) (carry 24 b)) (carry 6 b)) (carry 2 b) (twice-long ∙ sym (carry-long 2 (omega arith)))
      ∙ ap₂ bit_xor
      (guard_linear (xors (drop 224 b) (carry 24 b)) (carry 6 b) (once-long ∙ sym (carry-long 6 (omega arith)))
      ∙ ap₂ bit_xor (guard_linear (drop 224 b) (carry 24 b) (back_long ∙ sym (carry-long 24 (omega arith))) ∙ ap (bit_xor q) (guard-carry 24 b)) (guard-carry 6 b))
      (guard-carry 2 b)
      ∙ ap (λ (x : ℕ). bit_xor x (on 496 p)) (xor_assoc q (on 320 p) (on 464 p)) ∙ xor_assoc q (bit_xor (on 320 p) (on 464 p)) (on 496 p)
      ∙ ap (bit_xor q) (sym (further_moves p (guard-lt (take 224 b)))) ∙ xor_comm q (on 2304 p)
      ∙ ap (λ (n : ℕ). bit_xor (on (8 * n) p) q) (sym back_long) ∙ sym (guard_parts (take 224 b) (drop 224 b)) ∙ ap guard (take-append-drop 224 b)

  same-part : (a c : List ℕ) (q : ℕ) → length a ≡ length c → length (take 8 (drop q a)) ≡ length (take 8 (drop q c))
  same-part a c q h =
      length-take 8 (drop q a) ∙ ap (min 8) (length-drop q a ∙ ap (λ (n : ℕ). n - q) h ∙ sym (length-drop q c)) ∙ sym (length-take 8 (drop q c))

  piece-xors : (a c : List ℕ) (q : ℕ) → length a ≡ length c → piece (xors a c) q ≡ bit_xor (piece a q) (piece c q)
  unfolding piece
  piece-xors a c q h =
      ap guard (ap (take 8) (drop-xors q a c) ∙ take-xors 8 (drop q a) (drop q c)) ∙ guard_linear (take 8 (drop q a)) (take 8 (drop q c)) (same-part a c q h)

  pub piece-short : (q : ℕ) → piece (short b) q ≡ bit_xor (bit_xor (bit_xor (piece b (224 + q)) (piece (carry 24 b) q)) (piece (carry 6 b) q)) (piece (carry 2 b) q)
  unfolding short piece
  piece-short q =
      piece-xors (xors (xors (drop 224 b) (carry 24 b)) (carry 6 b)) (carry 2 b) q (twice-long ∙ sym (carry-long 2 (omega arith)))
      ∙ ap (λ (x : ℕ). bit_xor x (piece (carry 2 b) q))
      (piece-xors (xors (drop 224 b) (carry 24 b)) (carry 6 b) q (once-long ∙ sym (carry-long 6 (omega arith)))
      ∙ ap (λ (x : ℕ). bit_xor x (piece (carry 6 b) q))
      (piece-xors (drop 224 b) (carry 24 b) q (back_long ∙ sym (carry-long 24 (omega arith)))
      ∙ ap (λ (l : List ℕ). bit_xor (guard (take 8 l)) (piece (carry 24 b) q)) (drop-drop q 224 b)))

-- ---- pieces of what is carried

drop-zeros : (d i : ℕ) (l : List ℕ) → drop (d + i) (zeros d ++ l) ≡ drop i l
drop-zeros zero i l = ap (λ (k : ℕ). drop k l) (zero-add i)
drop-zeros (suc d) i l = ap (λ (k : ℕ). drop k (0 ∷ (zeros d ++ l))) (suc-add d i) ∙ drop-zeros d i l

zeros-drop : (n i : ℕ) → drop i (zeros n) ≡ zeros (n - i)
zeros-drop n zero = ap zeros (sym (sub-zero n))
zeros-drop zero (suc i) = let e : 0 ≡ 0 - suc i = omega arith in ap zeros e
zeros-drop (suc n) (suc i) = let e : n - i ≡ suc n - suc i = omega arith in zeros-drop n i ∙ ap zeros e

zeros-take : (n k : ℕ) → take k (zeros n) ≡ zeros (min k n)
zeros-take n zero = let e : 0 ≡ min 0 n = omega arith in ap zeros e
zeros-take zero (suc k) = let e : 0 ≡ min (suc k) 0 = omega arith in ap zeros e
zeros-take (suc n) (suc k) = let e : suc (min k n) ≡ min (suc k) (suc n) = omega arith in ap (λ (l : List ℕ). 0 ∷ l) (zeros-take n k) ∙ ap zeros e

drop-take : (i n : ℕ) (l : List ℕ) → i ≤ n → n ≤ length l → drop i (take n l) ≡ take (n - i) (drop i l)
drop-take zero n l h g = ap (λ (k : ℕ). take k l) (sym (sub-zero n))
drop-take (suc i) zero l h g = absurd (not-suc-le-zero h)
drop-take (suc i) (suc n) [] h g = absurd (not-suc-le-zero g)
drop-take (suc i) (suc n) (x ∷ l) h g =
    let e : n - i ≡ suc n - suc i = omega arith in
    drop-take i n l (le_of_suc-le-suc h) (le_of_suc-le-suc g) ∙ ap (λ (k : ℕ). take k (drop i l)) e

module _ (b : List ℕ) (e : length b ≡ 512) where
  long : length (take 224 b) ≡ 224
  long = length-take-le 224 b (omega arith)

  -- what is left of them from i on
  left : (i n : ℕ) → i + n ≡ 224 → (z : List ℕ) → drop i (take 224 b ++ z) ≡ take n (drop i b) ++ z
  left i n h z =
      let m : 224 - i ≡ n = omega arith in
      drop-append-le i (take 224 b) z (omega (arith, long))
      ∙ ap (λ (l : List ℕ). l ++ z) (drop-take i 224 b (omega arith) (omega arith) ∙ ap (λ (k : ℕ). take k (drop i b)) m)

  part-long : (i n : ℕ) → i + n ≡ 224 → length (take n (drop i b)) ≡ n
  part-long i n h = length-take-le n (drop i b) (rw (length-drop i b) (omega arith))

  -- eight bytes of them
  pub inside : (d i q : ℕ) → q ≡ d + i → i + 8 ≤ 224 → piece (carry d b) q ≡ piece b i
  unfolding piece carry
  inside d i q f h =
      let n = 224 - i in
      let all : i + n ≡ 224 = omega arith in
      ap (λ (k : ℕ). guard (take 8 (drop k (carry d b)))) f
      ∙ ap (λ (l : List ℕ). guard (take 8 l)) (drop-zeros d i (take 224 b ++ zeros (64 - d)) ∙ left i n all (zeros (64 - d)))
      ∙ ap guard (take-append-le 8 (take n (drop i b)) (zeros (64 - d)) (omega (arith, part-long i n all)) ∙ take-take 8 n (drop i b) (omega arith))

  -- the last n of them, and zeros
  pub parting : (d i n q : ℕ) → q ≡ d + i → i + n ≡ 224 → n ≤ 8 → d + (8 - n) ≤ 64 → piece (carry d b) q ≡ on (8 * (8 - n)) (guard (take n (drop i b)))
  unfolding piece carry
  parting d i n q f h g l =
      let p = take n (drop i b) in
      let m : 8 ≡ length p + (8 - n) = omega (arith, part-long i n h) in
      let z : min (8 - n) (64 - d) ≡ 8 - n = omega arith in
      ap (λ (k : ℕ). guard (take 8 (drop k (carry d b)))) f
      ∙ ap (λ (l : List ℕ). guard (take 8 l)) (drop-zeros d i (take 224 b ++ zeros (64 - d)) ∙ left i n h (zeros (64 - d)))
      ∙ ap (λ (k : ℕ). guard (take k (p ++ zeros (64 - d)))) m
      ∙ ap guard (take-append-add p (zeros (64 - d)) (8 - n) ∙ ap (λ (x : List ℕ). p ++ x) (zeros-take (64 - d) (8 - n) ∙ ap zeros z))
      ∙ guard_then p (8 - n)

  -- past them
  pub past : (d i q : ℕ) → q ≡ d + (224 + i) → piece (carry d b) q ≡ 0
  unfolding piece carry
  past d i q f =
      ap (λ (k : ℕ). guard (take 8 (drop k (carry d b)))) f
      ∙ ap (λ (l : List ℕ). guard (take 8 l))
      (drop-zeros d (224 + i) (take 224 b ++ zeros (64 - d)) ∙ sym (drop-drop i 224 (take 224 b ++ zeros (64 - d)))
      ∙ ap (drop i) (left 224 0 refl (zeros (64 - d))) ∙ zeros-drop (64 - d) i)
      ∙ ap guard (zeros-take (64 - d - i) 8) ∙ guard-zeros (min 8 (64 - d - i))

  -- before them
  pub ahead : (d q : ℕ) → q + 8 ≤ d → piece (carry d b) q ≡ 0
  unfolding piece carry
  ahead d q h =
      let long-zeros : length (zeros d) ≡ d = length-replicate {A = ℕ} d 0 in
      let m : min 8 (d - q) ≡ 8 = omega arith in
      let rest-long : length (zeros (d - q)) ≡ d - q = length-replicate {A = ℕ} (d - q) 0 in
      ap (λ (l : List ℕ). guard (take 8 l)) (drop-append-le q (zeros d) (take 224 b ++ zeros (64 - d)) (omega (arith, long-zeros)) ∙ ap (λ (l : List ℕ). l ++ (take 224 b ++ zeros (64 - d))) (zeros-drop d q))
      ∙ ap guard (take-append-le 8 (zeros (d - q)) (take 224 b ++ zeros (64 - d)) (omega (arith, rest-long)) ∙ zeros-take (d - q) 8)
      ∙ guard-zeros (min 8 (d - q))

  first_part : (n : ℕ) (z : List ℕ) → n ≤ 224 → take n (take 224 b ++ z) ≡ take n b
  first_part n z h = take-append-le n (take 224 b) z (omega (arith, long)) ∙ take-take n 224 b h

  -- the first six and the first two
  pub first-six : piece (carry 2 b) 0 ≡ guard (take 6 b)
  unfolding piece carry
  first-six = guard-zero (0 ∷ take 6 (take 224 b ++ zeros 62)) ∙ guard-zero (take 6 (take 224 b ++ zeros 62)) ∙ ap guard (first_part 6 (zeros 62) (omega arith))

  pub first_two : piece (carry 6 b) 0 ≡ guard (take 2 b)
  unfolding piece carry
  first_two = zeros-first 6 (take 2 (take 224 b ++ zeros 58)) ∙ ap guard (first_part 2 (zeros 58) (omega arith))
