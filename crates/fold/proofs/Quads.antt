-- Rows of four words: what their four columns come to is the guard of the rows.
-- Assumes nothing.
use mathlib.Core.Path.{◌≡◌, refl, sym, ap, ap₂, ◌∙◌}
use mathlib.Core.List.{List, [], ◌∷◌, ◌++◌}
use Prim.Native.Nat.{ℕ, zero, suc, ◌+◌, ◌*◌, ◌≤◌}
use native.Mathlib.Nat.{zero-add, suc-add, add_comm}
use native.Mathlib.Omega.{arith}
use lib.ListN.{length, take, drop, length-drop}
use lib.Seq.{length-take-le, drop-drop}
use lib.Bits.{bit_xor, xor_comm, xor_self}
use Rattle.xor.proofs.Bits.{xor_assoc, xor-four}
use Rattle.crc.specs.Guard.{guard}
use Rattle.crc.proofs.Joined.{run-nil}
use Rattle.words.specs.Words.{on, after}
use Rattle.words.specs.Steps.{quad}
use Rattle.fold.specs.Reading.{piece}
use Rattle.fold.specs.Columns.{column}
use Rattle.words.proofs.Linear.{on_linear, on-on}
use Rattle.words.proofs.Parts.{guard_parts}

take_split : (m n : ℕ) (l : List ℕ) → take (m + n) l ≡ take m l ++ take n (drop m l)
take_split zero n l = ap (λ (k : ℕ). take k l) (zero-add n)
take_split (suc m) n [] = ap (λ (k : ℕ). take k []) (suc-add m n) ∙ nil n
  where
    nil : (n : ℕ) → ◌≡◌ {A = List ℕ} [] (take n (drop (suc m) []))
    nil zero = refl
    nil (suc n) = refl
take_split (suc m) n (x ∷ l) = ap (λ (k : ℕ). take k (x ∷ l)) (suc-add m n) ∙ ap (λ (q : List ℕ). x ∷ q) (take_split m n l)

-- ---- moves and sums

pub on_none : (s : ℕ) → on s 0 ≡ 0
on_none s = on_linear s 0 0 ∙ xor_self (on s 0)

after_linear : (s x y p q : ℕ) → after s (bit_xor x p) (bit_xor y q) ≡ bit_xor (after s x y) (after s p q)
after_linear s x y p q = ap (λ (z : ℕ). bit_xor z (bit_xor y q)) (on_linear s x p) ∙ xor-four (on s x) (on s p) y q

after_on : (s t x y : ℕ) → after s (on t x) (on t y) ≡ on t (after s x y)
after_on s t x y =
    ap (λ (z : ℕ). bit_xor z (on t y)) (on-on t s x ∙ ap (λ (k : ℕ). on k x) (add_comm t s) ∙ sym (on-on s t x)) ∙ sym (on_linear t (on s x) y)

pub quad_linear : (x y z w p q r s : ℕ) → quad (bit_xor x p) (bit_xor y q) (bit_xor z r) (bit_xor w s) ≡ bit_xor (quad x y z w) (quad p q r s)
quad_linear x y z w p q r s =
    ap₂ (λ (i j : ℕ). after 64 i j) (after_linear 128 x z p r) (after_linear 128 y w q s) ∙ after_linear 64 (after 128 x z) (after 128 y w) (after 128 p r) (after 128 q s)

pub quad-on : (t x y z w : ℕ) → quad (on t x) (on t y) (on t z) (on t w) ≡ on t (quad x y z w)
quad-on t x y z w =
    ap₂ (λ (i j : ℕ). after 64 i j) (after_on 128 t x z) (after_on 128 t y w) ∙ after_on 64 t (after 128 x z) (after 128 y w)

pub quad_of : {x y z w p q r s : ℕ} → x ≡ p → y ≡ q → z ≡ r → w ≡ s → quad x y z w ≡ quad p q r s
quad_of a b c d = ap₂ (λ (i j : ℕ). after 64 i j) (ap₂ (λ (i j : ℕ). after 128 i j) a c) (ap₂ (λ (i j : ℕ). after 128 i j) b d)

-- ---- a row of 32 bytes

length_part : (l : List ℕ) (p n : ℕ) → p + n ≤ length l → length (take n (drop p l)) ≡ n
length_part l p n h = length-take-le n (drop p l) (rw (length-drop p l) (omega arith))

-- a part in two
guard_two : (l : List ℕ) (p m n : ℕ) → p + m + n ≤ length l
    → guard (take (m + n) (drop p l)) ≡ bit_xor (on (8 * n) (guard (take m (drop p l)))) (guard (take n (drop (p + m) l)))
guard_two l p m n h =
    ap guard (take_split m n (drop p l) ∙ ap (λ (q : List ℕ). take m (drop p l) ++ take n q) (drop-drop m p l))
    ∙ guard_parts (take m (drop p l)) (take n (drop (p + m) l))
    ∙ ap (λ (k : ℕ). bit_xor (on (8 * k) (guard (take m (drop p l)))) (guard (take n (drop (p + m) l)))) (length_part l (p + m) n h)

row : (b : List ℕ) (p : ℕ) → p + 32 ≤ length b → quad (piece b p) (piece b (p + 8)) (piece b (p + 16)) (piece b (p + 24)) ≡ guard (take 32 (drop p b))
unfolding piece
row b p h = sym (guard_two b p 8 24 (omega arith) ∙ ap (bit_xor (on 192 x)) (guard_two b (p + 8) 8 16 (omega arith) ∙ ap (bit_xor (on 128 y)) last_two) ∙ regroup)
  where
    x : ℕ
    x = piece b p

    y : ℕ
    y = piece b (p + 8)

    z : ℕ
    z = piece b (p + 16)

    w : ℕ
    w = piece b (p + 24)

    last_two : guard (take 16 (drop (p + 8 + 8) b)) ≡ bit_xor (on 64 z) w
    last_two =
        let e : p + 8 + 8 ≡ p + 16 = omega arith in
        let f : p + 16 + 8 ≡ p + 24 = omega arith in
        ap (λ (k : ℕ). guard (take 16 (drop k b))) e ∙ guard_two b (p + 16) 8 8 (omega arith)
        ∙ ap (λ (k : ℕ). bit_xor (on 64 z) (guard (take 8 (drop k b)))) f

    regroup : bit_xor (on 192 x) (bit_xor (on 128 y) (bit_xor (on 64 z) w)) ≡ quad x y z w
    regroup =
        ap (bit_xor (on 192 x)) (sym (xor_assoc (on 128 y) (on 64 z) w) ∙ ap (λ (k : ℕ). bit_xor k w) (xor_comm (on 128 y) (on 64 z)) ∙ xor_assoc (on 64 z) (on 128 y) w)
        ∙ sym (xor_assoc (on 192 x) (on 64 z) (after 128 y w))
        ∙ ap (λ (k : ℕ). bit_xor k (after 128 y w)) (ap (λ (k : ℕ). bit_xor k (on 64 z)) (sym (on-on 128 64 x)) ∙ sym (on_linear 64 (on 128 x) z))

-- ---- rows after rows

-- the guards of n times eight bytes, 32 bytes apart, from the j-th after p on
unfoldable pub pieces : ℕ → ℕ → List ℕ → ℕ → List ℕ
pieces zero j b p = []
pieces (suc n) j b p = piece b (p + 32 * j) ∷ pieces n (suc j) b p

length-pieces : (n j : ℕ) (b : List ℕ) (p : ℕ) → length (pieces n j b p) ≡ n
unfolding pieces
length-pieces zero j b p = refl
length-pieces (suc n) j b p = ap suc (length-pieces n (suc j) b p)

-- one more register in front
pub column-cons : (x n j : ℕ) (b : List ℕ) (p : ℕ) → column (x ∷ pieces n j b p) ≡ bit_xor (on (256 * n) x) (column (pieces n j b p))
unfolding column
column-cons x n j b p = ap (λ (k : ℕ). bit_xor (on (256 * k) x) (column (pieces n j b p))) (length-pieces n j b p)

pub quad-none : quad 0 0 0 0 ≡ 0
quad-none = ap₂ (λ (x y : ℕ). bit_xor (on 64 x) y) (ap (λ (x : ℕ). bit_xor x 0) (on_none 128)) (ap (λ (x : ℕ). bit_xor x 0) (on_none 128)) ∙ ap (λ (x : ℕ). bit_xor x 0) (on_none 64)

pub rows : (n j : ℕ) (b : List ℕ) → 32 * j + 32 * n ≤ length b
    → quad (column (pieces n j b 0)) (column (pieces n j b 8)) (column (pieces n j b 16)) (column (pieces n j b 24)) ≡ guard (take (32 * n) (drop (32 * j) b))
unfolding pieces column guard
rows zero j b h = quad-none ∙ sym (run-nil 0)
rows (suc n) j b h =
    let t = 256 * n in
    let x = piece b (0 + 32 * j) in
    let y = piece b (8 + 32 * j) in
    let z = piece b (16 + 32 * j) in
    let w = piece b (24 + 32 * j) in
    let p = column (pieces n (suc j) b 0) in
    let q = column (pieces n (suc j) b 8) in
    let r = column (pieces n (suc j) b 16) in
    let s = column (pieces n (suc j) b 24) in
    let e : 32 + 32 * n ≡ 32 * suc n = omega arith in
    let f : 32 * j + 32 ≡ 32 * suc j = omega arith in
    let g : 8 * (32 * n) ≡ t = omega arith in
    quad_of (column-cons x n (suc j) b 0) (column-cons y n (suc j) b 8) (column-cons z n (suc j) b 16) (column-cons w n (suc j) b 24)
    ∙ quad_linear (on t x) (on t y) (on t z) (on t w) p q r s
    ∙ ap₂ bit_xor (quad-on t x y z w ∙ ap (on t) (places ∙ row b (32 * j) (omega arith))) (rows n (suc j) b (omega arith))
    ∙ sym (ap (λ (k : ℕ). guard (take k (drop (32 * j) b))) (sym e) ∙ guard_two b (32 * j) 32 (32 * n) (omega arith)
    ∙ ap₂ (λ (k i : ℕ). bit_xor (on k (guard (take 32 (drop (32 * j) b)))) (guard (take (32 * n) (drop i b)))) g f)
  where
    places : quad (piece b (0 + 32 * j)) (piece b (8 + 32 * j)) (piece b (16 + 32 * j)) (piece b (24 + 32 * j))
        ≡ quad (piece b (32 * j)) (piece b (32 * j + 8)) (piece b (32 * j + 16)) (piece b (32 * j + 24))
    places =
        quad_of (ap (piece b) (zero-add (32 * j))) (ap (piece b) (add_comm 8 (32 * j))) (ap (piece b) (add_comm 16 (32 * j))) (ap (piece b) (add_comm 24 (32 * j)))
