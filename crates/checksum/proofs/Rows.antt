-- A run of rows of 32 numbers weighs what the rows added up weigh: sixteen doublings are none. Assumes nothing.
use mathlib.Core.Path.{◌≡◌, refl, sym, ap, ap₂, ◌∙◌}
use mathlib.Core.List.{List, [], ◌∷◌, ◌++◌}
use Prim.Native.Nat.{ℕ, zero, suc, ◌+◌, ◌*◌, ◌/◌, ◌%◌, ◌^◌, ◌≤◌, ◌<◌}
use native.Mathlib.Nat.{add_assoc, zero-add, zero-mul, mul_assoc, mul-le-mul_right, pow-succ', le_trans}
use native.Mathlib.Omega.{arith}
use lib.ListN.{length, get_or, take, drop, length-drop}
use lib.Seq.{take-add, length-take-le}
use Rattle.checksum.specs.Checksum.{words, sums}
use Rattle.checksum.specs.Changes.{Bytes}
use Rattle.checksum.specs.Weights.{weighted, made, reduced}
use Rattle.checksum.specs.Lanes.{pair, pairs}
use Rattle.checksum.proofs.Reduced.{reduced-add, reduced_sixteen}
use Rattle.checksum.proofs.Words.{words_small, words-pairs}
use Rattle.checksum.proofs.Weighed.{made-weighted, made-append, sums-made}

-- each element of b added to the element of a at its place; what of b has no partner is left out
unfoldable pub plus : List ℕ → List ℕ → List ℕ
plus [] b = []
plus (x ∷ a) [] = x ∷ a
plus (x ∷ a) (y ∷ b) = (x + y) ∷ plus a b

pub length-plus : (a b : List ℕ) → length (plus a b) ≡ length a
unfolding plus
length-plus [] b = refl
length-plus (x ∷ a) [] = refl
length-plus (x ∷ a) (y ∷ b) = ap suc (length-plus a b)

pairs-length : (l : List ℕ) → length (pairs l) ≡ length l / 2
unfolding pairs
pairs-length [] = refl
pairs-length (a ∷ []) = refl
pairs-length (a ∷ b ∷ l) = let e : suc (length l / 2) ≡ suc (suc (length l)) / 2 = omega arith in ap suc (pairs-length l) ∙ e

pairs-append : (a b : List ℕ) → length a % 2 ≡ 0 → pairs (a ++ b) ≡ pairs a ++ pairs b
unfolding pairs
pairs-append [] b h = refl
pairs-append (x ∷ []) b h = absurd (omega arith)
pairs-append (x ∷ y ∷ a) b h = ap (λ (l : List ℕ). pair x y ∷ l) (pairs-append a b (omega arith))

-- what a row added weighs
plus-made : (x y : ℕ) (a b : List ℕ) → length a ≤ length b → made (x + y) (pairs (plus a b)) ≡ made x (pairs a) + made y (pairs (take (length a) b))
unfolding plus pairs made
plus-made x y [] b h = refl
plus-made x y (a ∷ []) [] h = absurd (omega arith)
plus-made x y (a ∷ []) (b ∷ l) h = refl
plus-made x y (a ∷ a' ∷ more) [] h = absurd (omega arith)
plus-made x y (a ∷ a' ∷ more) (b ∷ []) h = absurd (omega arith)
plus-made x y (a ∷ a' ∷ more) (b ∷ b' ∷ l) h =
    let e : (x + y) * 2 + pair (a + b) (a' + b') ≡ (x * 2 + pair a a') + (y * 2 + pair b b') = omega arith in
    ap (λ (z : ℕ). made z (pairs (plus more l))) e ∙ plus-made (x * 2 + pair a a') (y * 2 + pair b b') more l (omega arith)

-- a row after some number
row_made : (x : ℕ) (row : List ℕ) → length row ≡ 32 → made x (pairs row) ≡ x * 65536 + made 0 (pairs row)
row_made x row h =
    let ws = pairs row in
    let n : length ws ≡ 16 = pairs-length row ∙ ap (λ (k : ℕ). k / 2) h in
    let alone : made 0 ws ≡ weighted ws = made-weighted 0 ws ∙ ap (λ (z : ℕ). z + weighted ws) (zero-mul (2 ^ length ws)) ∙ zero-add (weighted ws) in
    made-weighted x ws ∙ ap₂ (λ (k w : ℕ). x * 2 ^ k + w) n (sym alone)

-- numbers that weigh what a run weighs, and a row more
pub row_more : (s : ℕ) (acc l : List ℕ) (i : ℕ) → length acc ≡ 32 → i + 32 ≤ length l → i % 2 ≡ 0
    → reduced (s + made 0 (pairs acc)) ≡ reduced (made s (pairs (take i l)))
    → reduced (s + made 0 (pairs (plus acc (drop i l)))) ≡ reduced (made s (pairs (take (i + 32) l)))
row_more s acc l i h long even e =
    ap (λ (x : ℕ). reduced (s + x)) both
    ∙ ap reduced (sym (add_assoc s A R)) ∙ sym (reduced-add (s + A) R) ∙ ap (λ (x : ℕ). reduced (x + R)) e ∙ reduced-add M R
    ∙ sym (reduced_sixteen M R)
    ∙ ap reduced (sym (ap (made s) (ap pairs (take-add i 32 l) ∙ pairs-append run row (rw (length-take-le i l (omega arith)) even)) ∙ made-append s (pairs run) (pairs row) ∙ row_made M row wide))
  where
    run : List ℕ
    run = take i l

    row : List ℕ
    row = take 32 (drop i l)

    A : ℕ
    A = made 0 (pairs acc)

    R : ℕ
    R = made 0 (pairs row)

    M : ℕ
    M = made s (pairs run)

    enough : 32 ≤ length (drop i l)
    enough = rw (length-drop i l) (omega arith)

    wide : length row ≡ 32
    wide = length-take-le 32 (drop i l) enough

    both : made 0 (pairs (plus acc (drop i l))) ≡ A + R
    both = plus-made 0 0 acc (drop i l) (omega (arith, enough)) ∙ ap (λ (n : ℕ). A + made 0 (pairs (take n (drop i l)))) h

-- ---- the loop over the lanes

-- two numbers more, which come as the first chunk of what is left
pub made-front : (t a b : ℕ) (l chunk : List ℕ) → 1 < length l → chunk ≡ take 2 l → a ≡ get_or chunk 0 0 → b ≡ get_or chunk 1 0
    → made (t * 2 + pair a b) (pairs (drop 2 l)) ≡ made t (pairs l)
unfolding made pairs
made-front t a b [] chunk h e f g = absurd (omega arith)
made-front t a b (x ∷ []) chunk h e f g = absurd (omega arith)
made-front t a b (x ∷ y ∷ l) chunk h e f g =
    let first : a ≡ x = f ∙ ap (λ (c : List ℕ). get_or c 0 0) e in
    let second : b ≡ y = g ∙ ap (λ (c : List ℕ). get_or c 1 0) e in
    ap₂ (λ (p q : ℕ). made (t * 2 + pair p q) (pairs l)) first second

pub made-short : (t : ℕ) (l : List ℕ) → length l < 2 → made t (pairs l) ≡ t
unfolding made pairs
made-short t [] h = refl
made-short t (a ∷ []) h = refl
made-short t (a ∷ b ∷ l) h = absurd (omega arith)

-- how much they can make, and so each turn
made-le : (s m : ℕ) (ws : List ℕ) → ((k : ℕ) → get_or ws k 0 ≤ m) → made s ws ≤ (s + m) * 2 ^ length ws
unfolding made
made-le s m [] h = omega arith
made-le s m (w ∷ ws) h =
    let most : s * 2 + w + m ≤ (s + m) * 2 = omega (arith, h 0) in
    rw (pow-succ' 2 (length ws), ← mul_assoc (s + m) 2 (2 ^ length ws))
    (le_trans (made-le (s * 2 + w) m ws (λ k. h (suc k))) (mul-le-mul_right (2 ^ length ws) most))

made-ge : (s : ℕ) (ws : List ℕ) → s ≤ made s ws
unfolding made
made-ge s [] = omega arith
made-ge s (w ∷ ws) = omega (arith, made-ge (s * 2 + w) ws)

pairs-le : (l : List ℕ) (m : ℕ) → ((k : ℕ) → get_or l k 0 ≤ m) → (k : ℕ) → get_or (pairs l) k 0 ≤ pair m m
unfolding pairs
pairs-le [] m h k = omega arith
pairs-le (a ∷ []) m h k = omega arith
pairs-le (a ∷ b ∷ l) m h zero = omega (arith, h 0, h 1)
pairs-le (a ∷ b ∷ l) m h (suc k) = pairs-le l m (λ k. h (suc (suc k))) k

pub weight_le : (l : List ℕ) (m : ℕ) → length l ≡ 32 → ((k : ℕ) → get_or l k 0 ≤ m) → made 0 (pairs l) ≤ pair m m * 65536
weight_le l m e h =
    let n : length (pairs l) ≡ 16 = pairs-length l ∙ ap (λ (k : ℕ). k / 2) e in
    let most : made 0 (pairs l) ≤ (0 + pair m m) * 2 ^ 16 = rw n at (made-le 0 (pair m m) (pairs l) (pairs-le l m h)) in
    omega arith

-- what one turn makes, at most
pub front-most : (t a b : ℕ) (l chunk : List ℕ) (most : ℕ) → 1 < length l → chunk ≡ take 2 l → a ≡ get_or chunk 0 0 → b ≡ get_or chunk 1 0
    → made t (pairs l) ≤ most → t * 2 + pair a b ≤ most
front-most t a b l chunk most h e f g few = omega (arith, made-ge (t * 2 + pair a b) (pairs (drop 2 l)), made-front t a b l chunk h e f g)

-- ---- a row by itself

pub row_sums : (s : ℕ) (l : List ℕ) → s < 65536 → length l ≡ 32 → Bytes l → reduced (s + made 0 (pairs l)) ≡ sums s (words l)
row_sums s l small h bytes = sym (
    sums-made s (words l) small (words_small l)
    ∙ ap (λ (ws : List ℕ). reduced (made s ws)) (words-pairs l bytes)
    ∙ ap reduced (row_made s l h) ∙ reduced_sixteen s (made 0 (pairs l)))
