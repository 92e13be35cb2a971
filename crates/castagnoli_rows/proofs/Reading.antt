-- Words as they are read, and rows of four of them.
-- Assumes nothing.
use mathlib.Core.Path.{◌≡◌, refl, sym, ap, ap₂, ◌∙◌}
use mathlib.Core.List.{List, [], ◌∷◌, ◌++◌}
use Prim.Native.Nat.{ℕ, zero, suc, ◌+◌, ◌*◌, ◌/◌, ◌%◌, ◌^◌, ◌≤◌, ◌<◌}
use native.Mathlib.Numerals.{add-one}
use native.Mathlib.Omega.{arith}
use lib.ListN.{length, get_or, take, drop, length-drop}
use lib.Seq.{drop-cons, drop-drop, take_all, take-add, length-take-le}
use lib.Bits.{bit_xor}
use Rattle.std.specs.Int.{w64, from_le_bytes}
use Rattle.xor.proofs.Bits.{xor_assoc, xor_swap, xor-four}
use Rattle.crc.specs.Crc.{Bytes}
use Rattle.castagnoli.specs.Reflected.{bits_up, bits_up_of, feed_down}
use Rattle.castagnoli.specs.Castagnoli.{generator, advance}
use Rattle.castagnoli_words.specs.Words.{rest, on, after, quad}
use Rattle.castagnoli_words.proofs.Moves.{on_linear, on-on, on_swap, parts}
use Rattle.castagnoli_words.proofs.Sparse.{bits-cut}
use Rattle.castagnoli_words.proofs.Ends.{bits-low}
use Rattle.castagnoli_rows.specs.Reading.{little, piece, column}

-- ---- a word

-- its bits are those of its bytes
little-bits : (n : ℕ) (b : List ℕ) (p : ℕ) → Bytes b → p + n ≤ length b → bits_up (8 * n) (little n b p) ≡ bits_up_of (take n (drop p b))
unfolding little bits_up_of bits_up
little-bits zero b p small h = refl
little-bits (suc n) b p small h =
    let x = get_or b p 0 in
    let y = little n b (p + 1) in
    let more : 8 * suc n ≡ 8 + 8 * n = omega arith in
    let byte : x < 256 = small p in
    let first : (x + 256 * y) % 2 ^ 8 ≡ x % 2 ^ 8 = omega arith in
    let others : (x + 256 * y) / 2 ^ 8 ≡ y = omega arith in
    ap (λ (k : ℕ). bits_up k (x + 256 * y)) more ∙ bits-cut 8 (8 * n) (x + 256 * y)
    ∙ ap₂ (λ (q r : List ℕ). q ++ r) (sym (bits-low 8 (x + 256 * y)) ∙ ap (bits_up 8) first ∙ bits-low 8 x)
    (ap (bits_up (8 * n)) others ∙ little-bits n b (p + 1) small (omega arith) ∙ ap (λ (k : ℕ). bits_up_of (take n (drop k b))) (add-one p))
    ∙ ap (λ (l : List ℕ). bits_up_of (take (suc n) l)) (sym (drop-cons b p 0 (omega arith)))

pub little-piece : (b : List ℕ) (p : ℕ) → Bytes b → p + 8 ≤ length b → rest (little 8 b p) ≡ piece b p
unfolding rest piece advance
little-piece b p small h = ap (feed_down generator 0) (little-bits 8 b p small h)

-- eight bytes as a number
pub little_eight : (b : List ℕ) (p : ℕ)
    → from_le_bytes w64
    (get_or b p 0 ∷ get_or b (p + 1) 0 ∷ get_or b (p + 2) 0 ∷ get_or b (p + 3) 0 ∷ get_or b (p + 4) 0 ∷ get_or b (p + 5) 0 ∷ get_or b (p + 6) 0 ∷ get_or b (p + 7) 0 ∷ [])
    ≡ little 8 b p
unfolding little
little_eight b p =
    let e₂ : p + 1 + 1 ≡ p + 2 = omega arith in
    let e₃ : p + 2 + 1 ≡ p + 3 = omega arith in
    let e₄ : p + 3 + 1 ≡ p + 4 = omega arith in
    let e₅ : p + 4 + 1 ≡ p + 5 = omega arith in
    let e₆ : p + 5 + 1 ≡ p + 6 = omega arith in
    let e₇ : p + 6 + 1 ≡ p + 7 = omega arith in
    rw (e₂, e₃, e₄, e₅, e₆, e₇) (omega arith)

-- ---- rows

-- the first bytes of a list, and some more
prefix : (l : List ℕ) (i k : ℕ) → i + k ≤ length l → advance 0 (take (i + k) l) ≡ after (8 * k) (advance 0 (take i l)) (advance 0 (take k (drop i l)))
prefix l i k h =
    ap (advance 0) (take-add i k l) ∙ parts (take i l) (take k (drop i l))
    ∙ ap (λ (n : ℕ). after (8 * n) (advance 0 (take i l)) (advance 0 (take k (drop i l)))) (length-take-le k (drop i l) (rw (length-drop i l) (omega arith)))

-- what 32 bytes make of a register 0: four words come to it
row_quad : (b : List ℕ) (p : ℕ) → p + 32 ≤ length b → advance 0 (take 32 (drop p b)) ≡ quad (piece b p) (piece b (p + 8)) (piece b (p + 16)) (piece b (p + 24))
unfolding piece
row_quad b p h =
    let l = drop p b in
    let x = piece b p in
    let y = piece b (p + 8) in
    let z = piece b (p + 16) in
    let w = piece b (p + 24) in
    let long : 32 ≤ length l = rw (length-drop p b) (omega arith) in
    let at : (i : ℕ) → advance 0 (take 8 (drop i l)) ≡ piece b (p + i) = (λ i. ap (λ (m : List ℕ). advance 0 (take 8 m)) (drop-drop i p b)) in
    prefix l 24 8 long
    ∙ ap₂ (after 64)
    (prefix l 16 8 (omega arith) ∙ ap₂ (after 64) (prefix l 8 8 (omega arith) ∙ ap (after 64 x) (at 8)) (at 16)) (at 24)
    ∙ ap (λ (q : ℕ). after 64 q w)
    (ap (λ (q : ℕ). bit_xor q z) (on_linear 64 (on 64 x) y ∙ ap (λ (q : ℕ). bit_xor q (on 64 y)) (on-on 64 64 x)) ∙ xor_swap (on 128 x) (on 64 y) z)
    ∙ ap (λ (q : ℕ). bit_xor q w) (on_linear 64 (bit_xor (on 128 x) z) (on 64 y) ∙ ap (bit_xor (on 64 (bit_xor (on 128 x) z))) (on-on 64 64 y))
    ∙ xor_assoc (on 64 (bit_xor (on 128 x) z)) (on 128 y) w

-- lanes side by side go on together
quad-after : (s x y z w x' y' z' w' : ℕ) → quad (after s x x') (after s y y') (after s z z') (after s w w') ≡ after s (quad x y z w) (quad x' y' z' w')
quad-after s x y z w x' y' z' w' =
    ap₂ (after 64) (pair x z x' z') (pair y w y' w')
    ∙ ap (λ (q : ℕ). bit_xor q (after s (after 128 y w) (after 128 y' w')))
    (on_linear 64 (on s (after 128 x z)) (after 128 x' z') ∙ ap (λ (q : ℕ). bit_xor q (on 64 (after 128 x' z'))) (on_swap s 64 (after 128 x z)))
    ∙ xor-four (on s (on 64 (after 128 x z))) (on 64 (after 128 x' z')) (on s (after 128 y w)) (after 128 y' w')
    ∙ ap (λ (q : ℕ). bit_xor q (quad x' y' z' w')) (sym (on_linear s (on 64 (after 128 x z)) (after 128 y w)))
  where
    pair : (x z x' z' : ℕ) → after 128 (after s x x') (after s z z') ≡ after s (after 128 x z) (after 128 x' z')
    pair x z x' z' =
        ap (λ (q : ℕ). bit_xor q (after s z z')) (on_linear 128 (on s x) x' ∙ ap (λ (q : ℕ). bit_xor q (on 128 x')) (on_swap s 128 x))
        ∙ xor-four (on s (on 128 x)) (on 128 x') (on s z) z' ∙ ap (λ (q : ℕ). bit_xor q (after 128 x' z')) (sym (on_linear s (on 128 x) z))

-- four rows: their lanes come to what the bytes make of a register 0
pub columns_quad : (b : List ℕ) → length b ≡ 128 → quad (column b 0) (column b 8) (column b 16) (column b 24) ≡ advance 0 b
unfolding column
columns_quad b e =
    quad-after 256 (second 0) (second 8) (second 16) (second 24) (piece b 96) (piece b 104) (piece b 112) (piece b 120)
    ∙ ap (λ (q : ℕ). after 256 q (quads 96))
    (quad-after 256 (first 0) (first 8) (first 16) (first 24) (piece b 64) (piece b 72) (piece b 80) (piece b 88)
    ∙ ap (λ (q : ℕ). after 256 q (quads 64)) (quad-after 256 (piece b 0) (piece b 8) (piece b 16) (piece b 24) (piece b 32) (piece b 40) (piece b 48) (piece b 56)))
    ∙ sym (ap (advance 0) (sym (take_all 128 b (omega arith)))
    ∙ prefix b 96 32 (omega arith)
    ∙ ap₂ (after 256)
    (prefix b 64 32 (omega arith) ∙ ap₂ (after 256) (prefix b 32 32 (omega arith) ∙ ap₂ (after 256) (row_quad b 0 (omega arith)) (row_quad b 32 (omega arith))) (row_quad b 64 (omega arith)))
    (row_quad b 96 (omega arith)))
  where
    quads : ℕ → ℕ
    quads p = quad (piece b p) (piece b (p + 8)) (piece b (p + 16)) (piece b (p + 24))

    first : ℕ → ℕ
    first p = after 256 (piece b p) (piece b (p + 32))

    second : ℕ → ℕ
    second p = after 256 (first p) (piece b (p + 64))
