-- A run word by word, and what is left of it by twos: the register moved on, and a word or two bytes added. What is left, from the register
-- now, gives what all give from the first.
-- Assumes nothing.
use mathlib.Core.Path.{◌≡◌, refl, sym, ap, ap₂, ◌∙◌}
use mathlib.Core.List.{List, [], ◌∷◌}
use Prim.Native.Nat.{ℕ, zero, suc, ◌+◌, ◌*◌, ◌/◌, ◌%◌, ◌^◌, ◌≤◌, ◌<◌}
use native.Mathlib.Omega.{arith}
use lib.ListN.{length, get_or, take, drop, length-drop, take-append-drop}
use lib.Seq.{take_all, drop-drop, length-take-le}
use lib.Pow.{shl_exact}
use lib.Bits.{bit_xor, xor_comm, xor_lt, xor_zero_r, xor_shifted}
use Rattle.std.specs.Simd.{first_chunks}
use Rattle.crc.specs.Crc.{feed, bits, bits_of, bit_step}
use Rattle.crc.specs.Guard.{run, guard}
use Rattle.crc.proofs.Joined.{run-joined, run-nil}
use Rattle.crc.proofs.Shifted.{by_byte}
use Rattle.words.specs.Words.{rest, on, after, same, up, act}
use Rattle.words.proofs.Linear.{on_linear, agree, rest_linear, rest-act}
use Rattle.words.proofs.Parts.{run_parts, guard_parts}
use Rattle.fold.specs.Reading.{piece, seen, leading}
use Rattle.fold.proofs.Turning.{byte_linear}
use Rattle.fold.proofs.Blocks.{leads, seen_none}

-- ---- words

-- eight bytes of a run: the register moved on by 64 bits, and their guard
eight : (x : ℕ) (b : List ℕ) (p : ℕ) → p + 8 ≤ length b → run (after 64 x (piece b p)) (drop (p + 8) b) ≡ run x (drop p b)
unfolding piece
eight x b p h =
    let rest = drop p b in
    let long : length (take 8 rest) ≡ 8 = length-take-le 8 rest (rw (length-drop p b) (omega arith)) in
    ap₂ run (sym (run_parts x (take 8 rest) ∙ ap (λ (n : ℕ). bit_xor (on (8 * n) x) (guard (take 8 rest))) long)) (sym (drop-drop 8 p b))
    ∙ sym (run-joined x (take 8 rest) (drop 8 rest)) ∙ ap (run x) (take-append-drop 8 rest)

-- the first word, with the register among its bytes
pub word_first : (r v g : ℕ) (b : List ℕ) → r < 2 ^ 16 → 8 ≤ length b → rest v ≡ bit_xor (piece b 0) (seen g) → g ≡ act leading r → run (rest v) (drop 8 b) ≡ run r b
word_first r v g b small h e k =
    ap (λ (x : ℕ). run x (drop 8 b)) (e ∙ ap (bit_xor (piece b 0)) (ap seen k ∙ leads r small) ∙ xor_comm (piece b 0) (on 64 r)) ∙ eight r b 0 h

-- one word more
pub word-turn : (w v q p : ℕ) (b : List ℕ) → p + 8 ≤ length b → rest w ≡ after 64 (rest v) (rest q) → rest q ≡ bit_xor (piece b p) (seen 0)
    → run (rest w) (drop (p + 8) b) ≡ run (rest v) (drop p b)
word-turn w v q p b h e k =
    ap (λ (x : ℕ). run x (drop (p + 8) b)) (e ∙ ap (bit_xor (on 64 (rest v))) (k ∙ ap (bit_xor (piece b p)) seen_none ∙ xor_zero_r (piece b p))) ∙ eight (rest v) b p h

-- ---- two bytes, and one

-- a register as a word
alone : (r : ℕ) → r < 2 ^ 16 → rest r ≡ on 16 r
unfolding rest on feed bits bit_step
alone = agree rest (on 16) rest_linear (on_linear 16) 16 refl

-- a byte as a word, and one above another
byte_rest : (x : ℕ) → x < 256 → rest x ≡ guard (x ∷ [])
unfolding rest guard run feed bits bits_of bit_step
byte_rest = agree rest (λ x. guard (x ∷ [])) rest_linear byte_linear 8 refl

above_rest : (x : ℕ) → x < 256 → rest (act (up 8 same) x) ≡ on 8 (guard (x ∷ []))
unfolding rest on guard run feed bits bits_of bit_step
above_rest =
    agree (λ x. rest (act (up 8 same) x)) (λ x. on 8 (guard (x ∷ []))) (rest-act (up 8 same))
    (λ x y. ap (on 8) (byte_linear x y) ∙ on_linear 8 (guard (x ∷ [])) (guard (y ∷ []))) 8 refl

two_rest : (x y : ℕ) → x < 256 → y < 256 → rest (x * 256 + y) ≡ guard (x ∷ y ∷ [])
two_rest x y h g =
    ap rest (sym (xor_shifted x 8 y g)) ∙ rest_linear (x * 2 ^ 8) y
    ∙ ap₂ bit_xor (ap rest (sym (shl_exact {a = x} 8 8 64 h (omega arith))) ∙ above_rest x h) (byte_rest y g)
    ∙ sym (guard_parts (x ∷ []) (y ∷ []))

pub two_more : (r x y : ℕ) → r < 2 ^ 16 → x < 256 → y < 256 → rest (bit_xor r (x * 256 + y)) ≡ run r (x ∷ y ∷ [])
two_more r x y h hx hy =
    rest_linear r (x * 256 + y) ∙ ap₂ bit_xor (alone r h) (two_rest x y hx hy) ∙ sym (run_parts r (x ∷ y ∷ []))

pub one_more : (r x : ℕ) → r < 2 ^ 16 → x < 256 → bit_xor (r % 256 * 256) (rest (bit_xor (r / 256) x)) ≡ run r (x ∷ [])
one_more r x h hx = ap (bit_xor (r % 256 * 256)) (byte_rest (bit_xor (r / 256) x) (xor_lt 8 (r / 256) x (omega arith) hx)) ∙ sym (by_byte r x h)

-- ---- a run chunk by chunk: a word more, two bytes more, a last one, and none

pub word-more : (w v q : ℕ) (l chunk : List ℕ) → 8 ≤ length l → chunk ≡ take 8 l → rest w ≡ after 64 (rest v) (rest q) → rest q ≡ bit_xor (piece chunk 0) (seen 0)
    → run (rest w) (drop 8 l) ≡ run (rest v) l
unfolding piece
word-more w v q l chunk h cut e k =
    let all : take 8 chunk ≡ take 8 l = ap (take 8) cut ∙ take_all 8 (take 8 l) (omega (arith, length-take-le 8 l h)) in
    word-turn w v q 0 l h e (k ∙ ap (λ (x : ℕ). bit_xor x (seen 0)) (ap guard all))

-- the chunk i of a run that is cut into chunks of n
pub chunk-at : (n k : ℕ) (l : List ℕ) (i : ℕ) (d : List ℕ) → i < k → get_or (first_chunks n k l) i d ≡ take n (drop (n * i) l)
chunk-at n zero l i d h = absurd (omega arith)
chunk-at n (suc k) l zero d h = let none : n * 0 ≡ 0 = omega arith in ap (λ (j : ℕ). take n (drop j l)) (sym none)
chunk-at n (suc k) l (suc i) d h =
    let more : n + n * i ≡ n * suc i = omega arith in
    chunk-at n k (drop n l) i d (omega arith) ∙ ap (take n) (drop-drop (n * i) n l ∙ ap (λ (j : ℕ). drop j l) more)

pub few-turn : (r q : ℕ) (l chunk : List ℕ) → 1 < length l → chunk ≡ take 2 l → q ≡ run r (get_or chunk 0 0 ∷ get_or chunk 1 0 ∷ []) → run q (drop 2 l) ≡ run r l
few-turn r q [] chunk h cut e = absurd (omega arith)
few-turn r q (x ∷ []) chunk h cut e = absurd (omega arith)
few-turn r q (x ∷ y ∷ l) chunk h cut e =
    ap (λ (z : ℕ). run z l) (e ∙ ap (λ (c : List ℕ). run r (get_or c 0 0 ∷ get_or c 1 0 ∷ [])) cut) ∙ sym (run-joined r (x ∷ y ∷ []) l)

pub few-last : (r x : ℕ) (l : List ℕ) → 0 < length l → length l < 2 → x ≡ get_or l 0 0 → run r (x ∷ []) ≡ run r l
few-last r x [] some h e = absurd (omega arith)
few-last r x (y ∷ []) some h e = ap (λ (z : ℕ). run r (z ∷ [])) e
few-last r x (y ∷ z ∷ l) some h e = absurd (omega arith)

pub few-none : (r : ℕ) (l : List ℕ) → length l ≡ 0 → r ≡ run r l
few-none r [] h = sym (run-nil r)
few-none r (x ∷ l) h = absurd (omega arith)
