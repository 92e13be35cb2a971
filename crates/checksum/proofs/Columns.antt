-- The lanes of a block, each added up by itself: they weigh what the block weighs. Assumes nothing.
use mathlib.Core.Path.{◌≡◌, refl, sym, ap, ap₂, ◌∙◌}
use mathlib.Core.List.{List, [], ◌∷◌}
use Prim.Native.Nat.{ℕ, zero, suc, ◌+◌, ◌*◌, ◌≤◌, ◌<◌}
use native.Mathlib.Nat.{add_assoc, add-zero, zero-add, le_of_suc-le-suc, not-suc-le-zero}
use native.Mathlib.Omega.{arith}
use lib.ListN.{length, get_or, take, drop, replicate, length-drop, get_or-replicate}
use lib.Seq.{ext_get_or, get_or-drop, take_all}
use Rattle.checksum.specs.Checksum.{words, sums}
use Rattle.checksum.specs.Changes.{Bytes}
use Rattle.checksum.specs.Weights.{made, reduced}
use Rattle.checksum.specs.Lanes.{pairs, stack, lanes_of}
use Rattle.checksum.proofs.Words.{words_small, words-pairs}
use Rattle.checksum.proofs.Weighed.{sums-made}
use Rattle.checksum.proofs.Rows.{plus, length-plus, row_more}

get_or-plus : (a b : List ℕ) (k : ℕ) → k < length a → k < length b → get_or (plus a b) k 0 ≡ get_or a k 0 + get_or b k 0
unfolding plus
get_or-plus [] b k h g = absurd (not-suc-le-zero h)
get_or-plus (x ∷ a) [] k h g = absurd (not-suc-le-zero g)
get_or-plus (x ∷ a) (y ∷ b) zero h g = refl
get_or-plus (x ∷ a) (y ∷ b) (suc k) h g = get_or-plus a b k (le_of_suc-le-suc h) (le_of_suc-le-suc g)

-- a stack in two parts, and with one number more
stack-add : (n m : ℕ) (l : List ℕ) (k : ℕ) → stack (n + m) l k ≡ stack n l k + stack m l (k + n * 32)
unfolding stack
stack-add zero m l k =
    let e : k ≡ k + 0 * 32 = omega arith in
    ap (λ (i : ℕ). stack i l k) (zero-add m) ∙ ap (stack m l) e ∙ sym (zero-add (stack m l (k + 0 * 32)))
stack-add (suc n) m l k =
    let e : suc n + m ≡ suc (n + m) = omega arith in
    let f : k + 32 + n * 32 ≡ k + suc n * 32 = omega arith in
    ap (λ (i : ℕ). stack i l k) e
    ∙ ap (λ (x : ℕ). get_or l k 0 + x) (stack-add n m l (k + 32) ∙ ap (λ (i : ℕ). stack n l (k + 32) + stack m l i) f)
    ∙ sym (add_assoc (get_or l k 0) (stack n l (k + 32)) (stack m l (k + suc n * 32)))

stack-more : (n : ℕ) (l : List ℕ) (k : ℕ) → stack (suc n) l k ≡ stack n l k + get_or l (n * 32 + k) 0
unfolding stack
stack-more n l k =
    let e : suc n ≡ n + 1 = omega arith in
    let f : k + n * 32 ≡ n * 32 + k = omega arith in
    ap (λ (i : ℕ). stack i l k) e ∙ stack-add n 1 l k ∙ ap (λ (x : ℕ). stack n l k + x) (add-zero (get_or l (k + n * 32) 0) ∙ ap (λ (i : ℕ). get_or l i 0) f)

-- n rows, one on the other
piles : ℕ → List ℕ → List ℕ
piles zero l = replicate 32 0
piles (suc n) l = plus (piles n l) (drop (n * 32) l)

length_piles : (n : ℕ) (l : List ℕ) → length (piles n l) ≡ 32
unfolding piles
length_piles zero l = refl
length_piles (suc n) l = length-plus (piles n l) (drop (n * 32) l) ∙ length_piles n l

piles_weigh : (s n : ℕ) (l : List ℕ) → n * 32 ≤ length l → reduced (s + made 0 (pairs (piles n l))) ≡ reduced (made s (pairs (take (n * 32) l)))
unfolding piles made pairs
piles_weigh s zero l h = ap reduced (add-zero s)
piles_weigh s (suc n) l h =
    let e : n * 32 + 32 ≡ suc n * 32 = omega arith in
    row_more s (piles n l) l (n * 32) (length_piles n l) (omega arith) (omega arith) (piles_weigh s n l (omega arith))
    ∙ ap (λ (k : ℕ). reduced (made s (pairs (take k l)))) e

piles_at : (n : ℕ) (l : List ℕ) (k : ℕ) → n * 32 ≤ length l → k < 32 → get_or (piles n l) k 0 ≡ stack n l k
unfolding piles stack
piles_at zero l k h g = get_or-replicate 32 k 0 0 g
piles_at (suc n) l k h g =
    let a : k < length (piles n l) = rw (length_piles n l) g in
    let b : k < length (drop (n * 32) l) = rw (length-drop (n * 32) l) (omega arith) in
    get_or-plus (piles n l) (drop (n * 32) l) k a b ∙ ap₂ (λ (x y : ℕ). x + y) (piles_at n l k (omega arith) g) (get_or-drop (n * 32) l k 0) ∙ sym (stack-more n l k)

-- the lanes are those rows
length_lanes : (n : ℕ) (l : List ℕ) (k : ℕ) → length (lanes_of n l k) ≡ n
unfolding lanes_of
length_lanes zero l k = refl
length_lanes (suc n) l k = ap suc (length_lanes n l (suc k))

lanes_at : (n : ℕ) (l : List ℕ) (k j : ℕ) → j < n → get_or (lanes_of n l k) j 0 ≡ stack 16 l (k + j)
unfolding lanes_of
lanes_at zero l k j h = absurd (not-suc-le-zero h)
lanes_at (suc n) l k zero h = ap (stack 16 l) (sym (add-zero k))
lanes_at (suc n) l k (suc j) h =
    let e : suc k + j ≡ k + suc j = omega arith in
    lanes_at n l (suc k) j (le_of_suc-le-suc h) ∙ ap (stack 16 l) e

lanes_piles : (l : List ℕ) → length l ≡ 512 → lanes_of 32 l 0 ≡ piles 16 l
lanes_piles l h = ext_get_or 0 (lanes_of 32 l 0) (piles 16 l) (length_lanes 32 l 0 ∙ sym (length_piles 16 l)) (λ j g. go j (rw (length_lanes 32 l 0) at g))
  where
    go : (j : ℕ) → j < 32 → get_or (lanes_of 32 l 0) j 0 ≡ get_or (piles 16 l) j 0
    go j g = lanes_at 32 l 0 j g ∙ ap (stack 16 l) (zero-add j) ∙ sym (piles_at 16 l j (omega arith) g)

-- a block by its lanes
pub lanes_sums : (s : ℕ) (l : List ℕ) → s < 65536 → length l ≡ 512 → Bytes l → reduced (s + made 0 (pairs (lanes_of 32 l 0))) ≡ sums s (words l)
lanes_sums s l small h bytes =
    ap (λ (m : List ℕ). reduced (s + made 0 (pairs m))) (lanes_piles l h) ∙ piles_weigh s 16 l (omega arith)
    ∙ ap (λ (m : List ℕ). reduced (made s m)) (ap pairs (take_all 512 l (omega arith)) ∙ sym (words-pairs l bytes))
    ∙ sym (sums-made s (words l) small (words_small l))

-- ---- the lanes, each by its number

pub length-lanes_of : (n : ℕ) (l : List ℕ) (k : ℕ) → length (lanes_of n l k) ≡ n
unfolding lanes_of
length-lanes_of zero l k = refl
length-lanes_of (suc n) l k = ap suc (length-lanes_of n l (suc k))

lanes_of-from : (n : ℕ) (l : List ℕ) (k i : ℕ) → i < n → get_or (lanes_of n l k) i 0 ≡ stack 16 l (k + i)
unfolding lanes_of
lanes_of-from zero l k i h = absurd (omega arith)
lanes_of-from (suc n) l k zero h = ap (stack 16 l) (sym (add-zero k))
lanes_of-from (suc n) l k (suc i) h =
    let e : suc k + i ≡ k + suc i = omega arith in
    lanes_of-from n l (suc k) i (omega arith) ∙ ap (stack 16 l) e

pub lanes_of-at : (n : ℕ) (l : List ℕ) (k : ℕ) → k < n → get_or (lanes_of n l 0) k 0 ≡ stack 16 l k
lanes_of-at n l k h = lanes_of-from n l 0 k h ∙ ap (stack 16 l) (zero-add k)

-- ---- a lane, four numbers at a time

pub four-stack : (l : List ℕ) (k : ℕ) → get_or l k 0 + get_or l (k + 32) 0 + get_or l (k + 64) 0 + get_or l (k + 96) 0 ≡ stack 4 l k
unfolding stack
four-stack l k =
    let e : k + 64 ≡ k + 32 + 32 = omega arith in
    let f : k + 96 ≡ k + 32 + 32 + 32 = omega arith in
    rw (e, f) (omega arith)

pub lane_stack : (l : List ℕ) (k : ℕ) → stack 4 l k + stack 4 l (k + 128) + stack 4 l (k + 256) + stack 4 l (k + 384) ≡ stack 16 l k
lane_stack l k =
    let e : k + 128 + 128 ≡ k + 256 = omega arith in
    let f : k + 256 + 128 ≡ k + 384 = omega arith in
    let a : stack 16 l k ≡ stack 4 l k + stack 12 l (k + 128) = stack-add 4 12 l k in
    let b : stack 12 l (k + 128) ≡ stack 4 l (k + 128) + stack 8 l (k + 256) = stack-add 4 8 l (k + 128) ∙ ap (λ (i : ℕ). stack 4 l (k + 128) + stack 8 l i) e in
    let d : stack 8 l (k + 256) ≡ stack 4 l (k + 256) + stack 4 l (k + 384) = stack-add 4 4 l (k + 256) ∙ ap (λ (i : ℕ). stack 4 l (k + 256) + stack 4 l i) f in
    omega arith
