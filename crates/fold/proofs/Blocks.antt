-- The four lanes of a block, nine words each, come to the register after it; and what is read for them is what they ask for.
-- Assumes nothing.
use mathlib.Core.Path.{◌≡◌, refl, sym, ap, ap₂, ◌∙◌}
use mathlib.Core.List.{List, [], ◌∷◌}
use Prim.Native.Nat.{ℕ, zero, suc, ◌+◌, ◌*◌, ◌%◌, ◌^◌, ◌≤◌, ◌<◌}
use native.Mathlib.Nat.{add_comm, add-zero}
use native.Mathlib.Omega.{arith}
use lib.ListN.{length, get_or}
use lib.Seq.{take_all}
use lib.Bits.{bit_xor, xor_comm, xor_zero_r}
use Rattle.xor.proofs.Bits.{xor_assoc, xor_swap, xor-four}
use Rattle.crc.specs.Crc.{feed, bits, bit_step, Bytes}
use Rattle.crc.specs.Guard.{run, guard}
use Rattle.words.specs.Words.{rest, on, Map, same, up, plus, act}
use Rattle.words.specs.Steps.{turning, quad}
use Rattle.fold.specs.Reading.{little, seen, piece, leading}
use Rattle.fold.specs.Columns.{column, carry, firstly, brought, four, nine, Laned}
use Rattle.words.proofs.Linear.{on_linear, on-on, act_linear, rest-act, agree}
use Rattle.fold.proofs.Turning.{read_up, read-piece, cut, up-little}
use Rattle.words.proofs.Parts.{run_parts}
use Rattle.fold.proofs.Quads.{pieces, on_none, quad_linear, quad-on, quad_of, column-cons, rows}
use Rattle.fold.proofs.Shortened.{short, three_moves, length-short, guard-short, piece-short, inside, parting, past, ahead, first-six, first_two}

cons : {x y : ℕ} {l m : List ℕ} → x ≡ y → l ≡ m → x ∷ l ≡ y ∷ m
cons e f = ap₂ (λ (x : ℕ) (l : List ℕ). x ∷ l) e f

module _ (b : List ℕ) (e : length b ≡ 512) where
  -- words that meet, at the place s of 288
  middle : (s i q : ℕ) → i ≡ 224 + s → s ≡ 24 + q → q + 30 ≤ 224 → four b i q ≡ piece (short b) s
  middle s i q f g h =
      ap (λ (k : ℕ). four b k q) f
      ∙ sym (piece-short b e s
      ∙ ap₂ bit_xor (ap₂ bit_xor (ap (bit_xor (piece b (224 + s))) (inside b e 24 q s g (omega arith))) (inside b e 6 (q + 18) s (omega arith) (omega arith))) (inside b e 2 (q + 22) s (omega arith) (omega arith)))

  edge : (s i : ℕ) → i ≡ 224 + s → bit_xor (piece b i) (brought b s) ≡ piece (short b) s
  edge s i f =
      let x = piece b (224 + s) in
      let u = piece (carry 24 b) s in
      let v = piece (carry 6 b) s in
      let w = piece (carry 2 b) s in
      ap (λ (k : ℕ). bit_xor (piece b k) (brought b s)) f
      ∙ sym (piece-short b e s ∙ ap (λ (y : ℕ). bit_xor y w) (xor_assoc x u v) ∙ xor_assoc x (bit_xor u v) w)

  end : (s i p : ℕ) → i ≡ 224 + s → s ≡ 256 + p → piece b i ≡ piece (short b) s
  end s i p f g =
      sym (xor_zero_r (piece b i))
      ∙ ap (bit_xor (piece b i)) (sym (ap₂ bit_xor (ap₂ bit_xor (past b e 24 (8 + p) s (omega arith)) (past b e 6 (26 + p) s (omega arith))) (past b e 2 (30 + p) s (omega arith))))
      ∙ edge s i f

  nine-pieces : (p z : ℕ) → p ≤ 24 → column (nine (bit_xor (brought b p) z) (brought b (224 + p)) b p) ≡ column (bit_xor (piece (short b) p) z ∷ pieces 8 1 (short b) p)
  unfolding nine pieces
  nine-pieces p z h =
      ap column
      (cons (sym (xor_assoc (piece b (p + 224)) (brought b p) z) ∙ ap (λ (x : ℕ). bit_xor x z) (edge p (p + 224) (add_comm p 224)))
      (cons (middle (p + 32) (p + 256) (p + 8) (omega arith) (omega arith) (omega arith))
      (cons (middle (p + 64) (p + 288) (p + 40) (omega arith) (omega arith) (omega arith))
      (cons (middle (p + 96) (p + 320) (p + 72) (omega arith) (omega arith) (omega arith))
      (cons (middle (p + 128) (p + 352) (p + 104) (omega arith) (omega arith) (omega arith))
      (cons (middle (p + 160) (p + 384) (p + 136) (omega arith) (omega arith) (omega arith))
      (cons (middle (p + 192) (p + 416) (p + 168) (omega arith) (omega arith) (omega arith))
      (cons (ap (λ (k : ℕ). bit_xor (piece b (p + 448)) (brought b k)) (add_comm 224 p) ∙ edge (p + 224) (p + 448) (omega arith))
      (cons (end (p + 256) (p + 480) p (omega arith) (omega arith)) refl)))))))))

  with_first : (t : List ℕ) (p z : ℕ) → column (bit_xor (piece t p) z ∷ pieces 8 1 t p) ≡ bit_xor (column (pieces 9 0 t p)) (on 2048 z)
  unfolding pieces
  with_first t p z =
      let u = piece t p in
      let m = column (pieces 8 1 t p) in
      column-cons (bit_xor u z) 8 1 t p ∙ ap (λ (x : ℕ). bit_xor x m) (on_linear 2048 u z) ∙ xor_swap (on 2048 u) (on 2048 z) m
      ∙ ap (λ (x : ℕ). bit_xor x (on 2048 z)) (sym (ap (λ (i : ℕ). column (piece t i ∷ pieces 8 1 t p)) (add-zero p) ∙ column-cons u 8 1 t p))

  register-quad : (r : ℕ) → r < 2 ^ 16 → quad (on 2048 (bit_xor (on 16 r) (on 48 r))) (on 2048 0) (on 2048 0) (on 2048 (on 64 r)) ≡ on 4096 r
  register-quad r h =
      let z = bit_xor (on 16 r) (on 48 r) in
      quad-on 2048 z 0 0 (on 64 r)
      ∙ ap (on 2048)
      (ap₂ bit_xor (ap (on 64) (xor_zero_r (on 128 z)) ∙ on-on 128 64 z ∙ on_linear 192 (on 16 r) (on 48 r) ∙ ap₂ bit_xor (on-on 16 192 r) (on-on 48 192 r)) (ap (λ (x : ℕ). bit_xor x (on 64 r)) (on_none 128))
      ∙ xor_comm (bit_xor (on 208 r) (on 240 r)) (on 64 r) ∙ sym (xor_assoc (on 64 r) (on 208 r) (on 240 r)) ∙ sym (three_moves r h))
      ∙ on-on 2048 2048 r

  pub block : (r : ℕ) (out : List ℕ) → r < 2 ^ 16 → Laned r b out 4
      → quad (rest (get_or out 0 0)) (rest (get_or out 1 0)) (rest (get_or out 2 0)) (rest (get_or out 3 0)) ≡ run r b
  block r out small h =
      let t = short b in
      let long : length t ≡ 288 = length-short b e in
      let z = bit_xor (on 16 r) (on 48 r) in
      quad_of
      (h 0 (omega arith) ∙ nine-pieces 0 z (omega arith) ∙ with_first t 0 z)
      (h 1 (omega arith) ∙ nine-pieces 8 0 (omega arith) ∙ with_first t 8 0)
      (h 2 (omega arith) ∙ nine-pieces 16 0 (omega arith) ∙ with_first t 16 0)
      (h 3 (omega arith) ∙ nine-pieces 24 (on 64 r) (omega arith) ∙ with_first t 24 (on 64 r))
      ∙ quad_linear (column (pieces 9 0 t 0)) (column (pieces 9 0 t 8)) (column (pieces 9 0 t 16)) (column (pieces 9 0 t 24)) (on 2048 z) (on 2048 0) (on 2048 0) (on 2048 (on 64 r))
      ∙ ap₂ bit_xor (rows 9 0 t (omega arith) ∙ ap guard (take_all 288 t (omega arith)) ∙ guard-short b e) (register-quad r small)
      ∙ xor_comm (guard b) (on 4096 r)
      ∙ sym (run_parts r b ∙ ap (λ (n : ℕ). bit_xor (on (8 * n) r) (guard b)) e)

-- ---- the register, as it is read

pub leads : (r : ℕ) → r < 2 ^ 16 → seen (act leading r) ≡ on 64 r
unfolding rest on feed bits bit_step
leads = agree (λ r. seen (act leading r)) (on 64) (λ x y. ap seen (act_linear leading x y) ∙ rest-act turning (act leading x) (act leading y)) (on_linear 64) 16 refl

-- the first two bytes and the first six of a word, at its end
abbrev twice : Map
twice = plus (up 48 same) (up 16 same)

leads_twice : (r : ℕ) → r < 2 ^ 16 → seen (act twice (act leading r)) ≡ bit_xor (on 16 r) (on 48 r)
unfolding rest on feed bits bit_step
leads_twice =
    agree (λ r. seen (act twice (act leading r))) (λ r. bit_xor (on 16 r) (on 48 r))
    (λ x y.
    ap (λ (v : ℕ). seen (act twice v)) (act_linear leading x y) ∙ ap seen (act_linear twice (act leading x) (act leading y))
    ∙ rest-act turning (act twice (act leading x)) (act twice (act leading y)))
    (λ x y. ap₂ bit_xor (on_linear 16 x y) (on_linear 48 x y) ∙ xor-four (on 16 x) (on 16 y) (on 48 x) (on 48 y)) 16 refl

pub seen_none : seen 0 ≡ 0
unfolding rest feed bits bit_step
seen_none = refl

-- ---- what is carried to the edges, as it is read

module _ (b : List ℕ) (e : length b ≡ 512) (small : Bytes b) where
  brought-first : bit_xor (seen (little 1 b 0 * 2 ^ 48 % 2 ^ 64)) (seen (little 5 b 0 * 2 ^ 16 % 2 ^ 64)) ≡ brought b 0
  unfolding on feed
  brought-first =
      ap₂ bit_xor (read_up b 0 6 1 small (omega arith) (omega arith) ∙ sym (first_two b e)) (read_up b 0 2 5 small (omega arith) (omega arith) ∙ sym (first-six b e))
      ∙ ap (λ (x : ℕ). bit_xor (bit_xor x (piece (carry 6 b) 0)) (piece (carry 2 b) 0)) (sym (ahead b e 24 0 (omega arith)))

  brought_two : (q i j : ℕ) → q + 8 ≤ 24 → q ≡ 6 + i → q ≡ 2 + j → bit_xor (piece b i) (piece b j) ≡ brought b q
  brought_two q i j h f g =
      ap₂ bit_xor (sym (inside b e 6 i q f (omega arith))) (sym (inside b e 2 j q g (omega arith)))
      ∙ ap (λ (x : ℕ). bit_xor (bit_xor x (piece (carry 6 b) q)) (piece (carry 2 b) q)) (sym (ahead b e 24 q h))

  brought-fourth : bit_xor (piece b 0) (bit_xor (piece b 18) (piece b 22)) ≡ brought b 24
  brought-fourth =
      sym (xor_assoc (piece b 0) (piece b 18) (piece b 22))
      ∙ ap₂ bit_xor (ap₂ bit_xor (sym (inside b e 24 0 24 refl (omega arith))) (sym (inside b e 6 18 24 refl (omega arith)))) (sym (inside b e 2 22 24 refl (omega arith)))

  brought-last : bit_xor (bit_xor (piece b 200) (seen (little 5 b 218))) (seen (little 1 b 222)) ≡ brought b 224
  brought-last =
      ap₂ bit_xor
      (ap₂ bit_xor (sym (inside b e 24 200 224 refl (omega arith)))
      (read_up b 218 0 5 small (omega arith) (omega arith) ∙ sym (parting b e 6 218 6 224 refl refl (omega arith) (omega arith))))
      (read_up b 222 0 1 small (omega arith) (omega arith) ∙ sym (parting b e 2 222 2 224 refl refl (omega arith) (omega arith)))

  brought-one : (q i j k : ℕ) → q ≡ 24 + i → i + 8 ≤ 224 → q ≡ 6 + (224 + j) → q ≡ 2 + (224 + k) → piece b i ≡ brought b q
  brought-one q i j k f h g l =
      sym (inside b e 24 i q f h) ∙ sym (xor_zero_r (piece (carry 24 b) q)) ∙ sym (xor_zero_r (bit_xor (piece (carry 24 b) q) 0))
      ∙ ap₂ (λ (x y : ℕ). bit_xor (bit_xor (piece (carry 24 b) q) x) y) (sym (past b e 6 j q g)) (sym (past b e 2 k q l))

  brought-none : 0 ≡ brought b 248
  brought-none = sym (ap₂ bit_xor (ap₂ bit_xor (past b e 24 0 248 refl) (past b e 6 18 248 refl)) (past b e 2 22 248 refl))

  start_first : (r x g : ℕ) → r < 2 ^ 16 → x ≡ little 7 b 0 → g ≡ act leading r → seen (act twice (bit_xor x g)) ≡ bit_xor (brought b 0) (firstly r 0)
  start_first r x g h f k =
      ap (λ (v : ℕ). seen (act twice v)) (ap₂ bit_xor f k) ∙ ap seen (act_linear twice (little 7 b 0) (act leading r))
      ∙ rest-act turning (act twice (little 7 b 0)) (act twice (act leading r))
      ∙ ap₂ bit_xor
      (ap seen (ap₂ bit_xor (up-little b 0 1 6 48 small (omega arith) refl) (up-little b 0 5 2 16 small (omega arith) refl))
      ∙ rest-act turning (little 1 b 0 * 2 ^ 48 % 2 ^ 64) (little 5 b 0 * 2 ^ 16 % 2 ^ 64) ∙ brought-first)
      (leads_twice r h)

  start-fourth : (r x g y : ℕ) → r < 2 ^ 16 → x ≡ little 7 b 0 → g ≡ act leading r → seen y ≡ bit_xor (piece b 18) (piece b 22)
      → seen (bit_xor (bit_xor x g) y) ≡ bit_xor (brought b 24) (firstly r 3)
  start-fourth r x g y h f k s =
      let two = bit_xor (piece b 18) (piece b 22) in
      rest-act turning (bit_xor x g) y
      ∙ ap₂ bit_xor (rest-act turning x g ∙ ap₂ bit_xor (ap seen f ∙ read-piece b 0 small (omega arith)) (ap seen k ∙ leads r h)) s
      ∙ xor_swap (piece b 0) (on 64 r) two ∙ ap (λ (v : ℕ). bit_xor v (on 64 r)) brought-fourth

  pub firsts_of : (r x g second third fourth : ℕ) → r < 2 ^ 16 → x ≡ little 7 b 0 → g ≡ act leading r → seen second ≡ bit_xor (piece b 2) (piece b 6)
      → seen third ≡ bit_xor (piece b 10) (piece b 14) → seen fourth ≡ bit_xor (piece b 18) (piece b 22)
      → (l : ℕ) → l < 4 → seen (get_or (act twice (bit_xor x g) ∷ second ∷ third ∷ bit_xor (bit_xor x g) fourth ∷ []) l 0) ≡ bit_xor (brought b (8 * l)) (firstly r l)
  firsts_of r x g second third fourth h f k p q s zero l = start_first r x g h f k
  firsts_of r x g second third fourth h f k p q s (suc zero) l = p ∙ brought_two 8 2 6 (omega arith) refl refl ∙ sym (xor_zero_r (brought b 8))
  firsts_of r x g second third fourth h f k p q s (suc (suc zero)) l = q ∙ brought_two 16 10 14 (omega arith) refl refl ∙ sym (xor_zero_r (brought b 16))
  firsts_of r x g second third fourth h f k p q s (suc (suc (suc zero))) l = start-fourth r x g fourth h f k s
  firsts_of r x g second third fourth h f k p q s (suc (suc (suc (suc n)))) l = absurd (omega arith)

  last-first : (x y z : ℕ) → x ≡ little 7 b 200 → y ≡ little 7 b 218 → z ≡ little 7 b 222 → seen (bit_xor (bit_xor x (y % 2 ^ 48)) (z % 2 ^ 16)) ≡ brought b 224
  last-first x y z f g k =
      rest-act turning (bit_xor x (y % 2 ^ 48)) (z % 2 ^ 16)
      ∙ ap₂ bit_xor
      (rest-act turning x (y % 2 ^ 48)
      ∙ ap₂ bit_xor (ap seen f ∙ read-piece b 200 small (omega arith)) (ap (λ (v : ℕ). seen (v % 2 ^ 48)) g ∙ ap seen (cut b 218 5 2 small (omega arith))))
      (ap (λ (v : ℕ). seen (v % 2 ^ 16)) k ∙ ap seen (cut b 222 1 6 small (omega arith)))
      ∙ brought-last

  pub lasts_of : (x y z second third : ℕ) → x ≡ little 7 b 200 → y ≡ little 7 b 218 → z ≡ little 7 b 222 → second ≡ little 7 b 208 → third ≡ little 7 b 216
      → (l : ℕ) → l < 4 → seen (get_or (bit_xor (bit_xor x (y % 2 ^ 48)) (z % 2 ^ 16) ∷ second ∷ third ∷ 0 ∷ []) l 0) ≡ brought b (224 + 8 * l)
  lasts_of x y z second third f g k p q zero h = last-first x y z f g k
  lasts_of x y z second third f g k p q (suc zero) h = ap seen p ∙ read-piece b 208 small (omega arith) ∙ brought-one 232 208 2 6 refl (omega arith) refl refl
  lasts_of x y z second third f g k p q (suc (suc zero)) h = ap seen q ∙ read-piece b 216 small (omega arith) ∙ brought-one 240 216 10 14 refl (omega arith) refl refl
  lasts_of x y z second third f g k p q (suc (suc (suc zero))) h = seen_none ∙ brought-none
  lasts_of x y z second third f g k p q (suc (suc (suc (suc n)))) h = absurd (omega arith)

-- words that are read, and added before they are turned
pub read_two : (b : List ℕ) (p q x y : ℕ) → Bytes b → p + 8 ≤ length b → q + 8 ≤ length b → x ≡ little 7 b p → y ≡ little 7 b q
    → seen (bit_xor x y) ≡ bit_xor (piece b p) (piece b q)
read_two b p q x y small h g f k =
    rest-act turning x y ∙ ap₂ bit_xor (ap seen f ∙ read-piece b p small h) (ap seen k ∙ read-piece b q small g)

pub read-four : (b : List ℕ) (p q x y z w : ℕ) → Bytes b → p + 8 ≤ length b → q + 30 ≤ length b
    → x ≡ little 7 b p → y ≡ little 7 b q → z ≡ little 7 b (q + 18) → w ≡ little 7 b (q + 22)
    → seen (bit_xor (bit_xor (bit_xor x y) z) w) ≡ four b p q
read-four b p q x y z w small h g i j k l =
    rest-act turning (bit_xor (bit_xor x y) z) w
    ∙ ap₂ bit_xor
    (rest-act turning (bit_xor x y) z ∙ ap₂ bit_xor (read_two b p q x y small h (omega arith) i j) (ap seen k ∙ read-piece b (q + 18) small (omega arith)))
    (ap seen l ∙ read-piece b (q + 22) small (omega arith))
