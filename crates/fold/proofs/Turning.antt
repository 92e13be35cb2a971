-- Eight bytes read as a word and turned have the guard of the bytes: each byte at each of the eight places, eight single bits each.
-- Assumes nothing.
use mathlib.Core.Path.{◌≡◌, refl, sym, ap, ap₂, ◌∙◌}
use mathlib.Core.List.{List, [], ◌∷◌, ◌++◌}
use Prim.Native.Nat.{ℕ, zero, suc, ◌+◌, ◌-◌, ◌*◌, ◌%◌, ◌^◌, ◌≤◌, ◌<◌}
use native.Mathlib.Nat.{zero-add, add-zero, add_comm, mul_assoc, add-mul, mod-eq_of_lt, lt_of_lt_of_le}
use native.Mathlib.Omega.{arith}
use lib.ListN.{length, get_or, take, drop, length-drop}
use lib.Seq.{drop-cons, take-suc, get_or-drop}
use lib.Pow.{pow_pos, pow-add, pow_mono, shl_lt, shl_exact, shl-shr, mod-pow-add, mod-mod-pow, low}
use lib.Bits.{bit_or, bit_xor, xor_comm, xor_lt, xor_zero_r, xor_mod, or_shifted, xor_shifted}
use Rattle.std.specs.Int.{w64, from_le_bytes}
use Rattle.xor.proofs.Bits.{xor_assoc}
use Rattle.xor.specs.Xors.{xors}
use Rattle.crc.specs.Crc.{feed, bits, bits_of, bit_step, Bytes}
use Rattle.crc.specs.Guard.{run, guard}
use Rattle.crc.proofs.Linear.{guard_linear}
use Rattle.table.specs.Tables.{entries}
use Rattle.words.specs.Words.{rest, on, Map, same, up, act}
use Rattle.words.specs.Steps.{turning}
use Rattle.words.proofs.Linear.{zeros, on_linear, on-on, act_linear, apart, agree, rest-act}
use Rattle.words.proofs.Parts.{guard_parts}
use Rattle.fold.specs.Reading.{little, piece}

-- a byte at the place i of a word, counted from the lowest
abbrev pub placed : ℕ → Map
placed zero = same
placed (suc i) = up (8 * suc i) same

pub byte_linear : (x y : ℕ) → guard (bit_xor x y ∷ []) ≡ bit_xor (guard (x ∷ [])) (guard (y ∷ []))
unfolding xors
byte_linear x y = guard_linear (x ∷ []) (y ∷ []) refl

module _ (i : ℕ) where
  -- a byte at the place i, turned, and its guard, moved on
  abbrev put : ℕ → ℕ
  put x = rest (act turning (act (placed i) x))

  abbrev moved : ℕ → ℕ
  moved x = on (56 - 8 * i) (guard (x ∷ []))

  turned-at : entries (apart put moved) 0 8 ≡ zeros 8 → (x : ℕ) → x < 256 → put x ≡ moved x
  turned-at =
      agree put moved
      (λ x y. ap (λ (v : ℕ). rest (act turning v)) (act_linear (placed i) x y) ∙ rest-act turning (act (placed i) x) (act (placed i) y))
      (λ x y. ap (on (56 - 8 * i)) (byte_linear x y) ∙ on_linear (56 - 8 * i) (guard (x ∷ [])) (guard (y ∷ []))) 8

turns : (i : ℕ) → i < 8 → (x : ℕ) → x < 256 → put i x ≡ moved i x
unfolding rest on guard run feed bits bits_of bit_step
turns zero h = turned-at 0 refl
turns (suc zero) h = turned-at 1 refl
turns (suc (suc zero)) h = turned-at 2 refl
turns (suc (suc (suc zero))) h = turned-at 3 refl
turns (suc (suc (suc (suc zero)))) h = turned-at 4 refl
turns (suc (suc (suc (suc (suc zero))))) h = turned-at 5 refl
turns (suc (suc (suc (suc (suc (suc zero)))))) h = turned-at 6 refl
turns (suc (suc (suc (suc (suc (suc (suc zero))))))) h = turned-at 7 refl
turns (suc (suc (suc (suc (suc (suc (suc (suc i)))))))) h = absurd (omega arith)

-- a byte at its place
placed_byte : (x n : ℕ) → x < 256 → n < 7 → x * 2 ^ (8 * suc n) % 2 ^ 64 ≡ x * 2 ^ (8 * suc n)
placed_byte x n h l = shl_exact {a = x} 8 (8 * suc n) 64 h (omega arith)

-- moved up by s bytes more
placed-placed : (s n x : ℕ) → x < 256 → n + s < 7 → act (placed s) (x * 2 ^ (8 * suc n) % 2 ^ 64) ≡ x * 2 ^ (8 * suc (n + s)) % 2 ^ 64
placed-placed zero n x h l = ap (λ (k : ℕ). x * 2 ^ (8 * suc k) % 2 ^ 64) (sym (add-zero n))
placed-placed (suc s) n x h l =
    let e : 8 * suc n + 8 * suc s ≡ 8 * suc (n + suc s) = omega arith in
    ap (λ (y : ℕ). y * 2 ^ (8 * suc s) % 2 ^ 64) (placed_byte x n h (omega arith))
    ∙ ap (λ (y : ℕ). y % 2 ^ 64) (mul_assoc x (2 ^ (8 * suc n)) (2 ^ (8 * suc s)) ∙ ap (λ (y : ℕ). x * y) (sym (pow-add 2 (8 * suc n) (8 * suc s)) ∙ ap (λ (k : ℕ). 2 ^ k) e))

-- the bytes from p on to p + n, s places up
pub read_up : (b : List ℕ) (p s n : ℕ) → Bytes b → n + s < 8 → p + n < length b
    → rest (act turning (act (placed s) (little n b p))) ≡ on (56 - 8 * (n + s)) (guard (take (suc n) (drop p b)))
read_up b p s zero small h l =
    let here : p < length b = omega arith in
    turns s (omega arith) (get_or b p 0) (small p)
    ∙ ap₂ (λ (k : ℕ) (q : List ℕ). on (56 - 8 * k) (guard (take 1 q))) (sym (zero-add s)) (sym (drop-cons b p 0 here))
read_up b p s (suc n) small h l =
    let k : suc n + s ≡ suc (n + s) = omega arith in
    let t = 56 - 8 * suc (n + s) in
    let more : 8 + t ≡ 56 - 8 * (n + s) = omega arith in
    let x = get_or b (p + suc n) 0 in
    let a = take (suc n) (drop p b) in
    let u = x * 2 ^ (8 * suc n) % 2 ^ 64 in
    let v = act (placed s) (little n b p) in
    let long : suc n < length (drop p b) = rw (length-drop p b) (omega arith) in
    ap (λ (y : ℕ). rest (act turning y)) (act_linear (placed s) (little n b p) u) ∙ rest-act turning v (act (placed s) u)
    ∙ ap₂ bit_xor (read_up b p s n small (omega arith) (omega arith) ∙ ap (λ (s : ℕ). on s (guard a)) (sym more) ∙ sym (on-on 8 t (guard a)))
    (ap (λ (y : ℕ). rest (act turning y)) (placed-placed s n x (small (p + suc n)) (omega arith)) ∙ turns (suc (n + s)) (omega arith) x (small (p + suc n)))
    ∙ sym (on_linear t (on 8 (guard a)) (guard (x ∷ [])))
    ∙ ap (on t) (sym (guard_parts a (x ∷ [])))
    ∙ ap₂ (λ (m : ℕ) (q : List ℕ). on (56 - 8 * m) (guard q)) (sym k) (ap (λ (z : ℕ). a ++ (z ∷ [])) (sym (get_or-drop p b (suc n) 0)) ∙ sym (take-suc (drop p b) (suc n) 0 long))

-- eight bytes from p on
pub read-piece : (b : List ℕ) (p : ℕ) → Bytes b → p + 8 ≤ length b → rest (act turning (little 7 b p)) ≡ piece b p
unfolding on feed piece
read-piece b p small h = read_up b p 0 7 small (omega arith) (omega arith)

-- ---- a word cut

little-lt : (b : List ℕ) (p n : ℕ) → Bytes b → n < 8 → little n b p < 2 ^ (8 * suc n)
little-lt b p zero small h = small p
little-lt b p (suc n) small h =
    let x = get_or b (p + suc n) 0 in
    let more : 8 * suc n ≤ 8 * suc (suc n) = omega arith in
    let e : 8 + 8 * suc n ≡ 8 * suc (suc n) = omega arith in
    xor_lt (8 * suc (suc n)) (little n b p) (x * 2 ^ (8 * suc n) % 2 ^ 64) (lt_of_lt_of_le (little-lt b p n small (omega arith)) (pow_mono more))
    (rw (placed_byte x n (small (p + suc n)) (omega arith)) (rw e at (shl_lt {a = x} 8 (8 * suc n) (small (p + suc n)))))

none_below : (x k : ℕ) → x * 2 ^ k % 2 ^ k ≡ 0
none_below x k = let e : x * 2 ^ k ≡ x * 2 ^ k + 0 = omega arith in ap (λ (y : ℕ). y % 2 ^ k) e ∙ low x k (pow_pos k)

-- without its highest byte
top_off : (b : List ℕ) (p n : ℕ) → Bytes b → n < 7 → little (suc n) b p % 2 ^ (8 * suc n) ≡ little n b p
top_off b p n small h =
    let x = get_or b (p + suc n) 0 in
    let k = 8 * suc n in
    let e : x * 2 ^ k % 2 ^ 64 ≡ x * 2 ^ k = placed_byte x n (small (p + suc n)) h in
    xor_mod (little n b p) (x * 2 ^ k % 2 ^ 64) k
    ∙ ap₂ bit_xor (mod-eq_of_lt (little-lt b p n small (omega arith))) (ap (λ (y : ℕ). y % 2 ^ k) e ∙ none_below x k)
    ∙ xor_zero_r (little n b p)

-- without its d highest bytes
pub cut : (b : List ℕ) (p k d : ℕ) → Bytes b → k + d < 8 → little (k + d) b p % 2 ^ (8 * suc k) ≡ little k b p
cut b p k zero small h = ap (λ (n : ℕ). little n b p % 2 ^ (8 * suc k)) (add-zero k) ∙ mod-eq_of_lt (little-lt b p k small (omega arith))
cut b p k (suc d) small h =
    let e : k + suc d ≡ suc (k + d) = omega arith in
    let f : 8 * d + 8 * suc k ≡ 8 * suc (k + d) = omega arith in
    let v = little (suc (k + d)) b p in
    ap (λ (n : ℕ). little n b p % 2 ^ (8 * suc k)) e ∙ sym (mod-mod-pow v (8 * d) (8 * suc k))
    ∙ ap (λ (n : ℕ). v % 2 ^ n % 2 ^ (8 * suc k)) f ∙ ap (λ (y : ℕ). y % 2 ^ (8 * suc k)) (top_off b p (k + d) small (omega arith))
    ∙ cut b p k d small (omega arith)

-- what is moved up loses its high bits
up-cut : (v j k : ℕ) → v * 2 ^ k % 2 ^ (j + k) ≡ v % 2 ^ j * 2 ^ k
up-cut v j k =
    let e : v % 2 ^ j * 2 ^ k + 0 ≡ v % 2 ^ j * 2 ^ k = omega arith in
    mod-pow-add (v * 2 ^ k) j k ∙ ap₂ (λ (x y : ℕ). x % 2 ^ j * 2 ^ k + y) (shl-shr v k) (none_below v k) ∙ e

-- so that of a word moved up to the top the lowest bytes are left
pub up-little : (b : List ℕ) (p k d s : ℕ) → Bytes b → k + d < 8 → 8 * suc k + s ≡ 64 → little (k + d) b p * 2 ^ s % 2 ^ 64 ≡ little k b p * 2 ^ s % 2 ^ 64
up-little b p k d s small h e =
    ap (λ (n : ℕ). little (k + d) b p * 2 ^ s % 2 ^ n) (sym e) ∙ up-cut (little (k + d) b p) (8 * suc k) s
    ∙ ap (λ (v : ℕ). v * 2 ^ s) (cut b p k d small h ∙ sym (mod-eq_of_lt (little-lt b p k small (omega arith))))
    ∙ sym (up-cut (little k b p) (8 * suc k) s) ∙ ap (λ (n : ℕ). little k b p * 2 ^ s % 2 ^ n) e

-- ---- the bytes as they are read

-- the same bytes, added
abbrev sums : ℕ → List ℕ → ℕ → ℕ
sums zero b p = get_or b p 0
sums (suc n) b p = sums n b p + get_or b (p + suc n) 0 * 2 ^ (8 * suc n)

-- no two of them meet
little-sums : (n : ℕ) (b : List ℕ) (p : ℕ) → Bytes b → n < 8 → little n b p ≡ sums n b p
little-sums zero b p small h = refl
little-sums (suc n) b p small h =
    let x = get_or b (p + suc n) 0 in
    let k = 8 * suc n in
    let l = little n b p in
    ap (bit_xor l) (placed_byte x n (small (p + suc n)) (omega arith)) ∙ xor_comm l (x * 2 ^ k)
    ∙ xor_shifted x k l (little-lt b p n small (omega arith)) ∙ add_comm (x * 2 ^ k) l
    ∙ ap (λ (y : ℕ). y + x * 2 ^ k) (little-sums n b p small (omega arith))

pub read_sum : (b : List ℕ) (p : ℕ) → Bytes b
    → from_le_bytes w64
    (get_or b p 0 ∷ get_or b (p + 1) 0 ∷ get_or b (p + 2) 0 ∷ get_or b (p + 3) 0 ∷ get_or b (p + 4) 0 ∷ get_or b (p + 5) 0 ∷ get_or b (p + 6) 0 ∷ get_or b (p + 7) 0 ∷ [])
    ≡ little 7 b p
read_sum b p small = sym (little-sums 7 b p small (omega arith))
