-- What the guard's own ten tables make of a word made 40 bits is what the word leaves.
-- Assumes nothing.
use mathlib.Core.Path.{◌≡◌, refl, sym, ap, ap₂, ◌∙◌}
use Prim.Native.Nat.{ℕ, zero, suc, ◌+◌, ◌*◌, ◌/◌, ◌%◌, ◌^◌, ◌≤◌, ◌<◌}
use native.Mathlib.Nat.{mod-lt, mod-eq_of_lt}
use native.Mathlib.Omega.{arith}
use lib.Dec.{lit≤}
use lib.Pow.{pow_pos, mod-pow-add}
use lib.ListN.{get_or}
use lib.Bits.{bit_xor, xor_comm, xor_shifted, xor_self}
use Rattle.crc.specs.Crc.{feed, bit_step}
use Rattle.table.proofs.Entries.{entry}
use Rattle.words.specs.Words.{rest, on, act}
use Rattle.words.proofs.Linear.{rest_linear}
use Rattle.words.proofs.Sparse.{act-lt, moved}
use Rattle.nibbles.specs.Nibbles.{nearer, nibble, nibbles, looked}

-- four bits more
nibble-turn : (u i : ℕ) → i < 10 → bit_xor (rest (u % 2 ^ (4 * i))) (get_or nibbles (16 * i + u / 2 ^ (4 * i) % 16) 0) ≡ rest (u % 2 ^ (4 * suc i))
unfolding nibbles nibble
nibble-turn u i h =
    let n = u / 2 ^ (4 * i) % 16 in
    let m = u % 2 ^ (4 * i) in
    let k = 16 * i + n in
    let nib : k % 16 ≡ n = omega arith in
    let place : k / 16 ≡ i = omega arith in
    let few : k < 160 = omega arith in
    let more : 4 + 4 * i ≡ 4 * suc i = omega arith in
    ap (bit_xor (rest m)) (entry nibble 160 k few ∙ ap₂ (λ (x y : ℕ). rest (x * 2 ^ (4 * y))) nib place)
    ∙ xor_comm (rest m) (rest (n * 2 ^ (4 * i))) ∙ sym (rest_linear (n * 2 ^ (4 * i)) m)
    ∙ ap rest (xor_shifted n (4 * i) m (mod-lt u (pow_pos (4 * i))) ∙ sym (mod-pow-add u 4 (4 * i)) ∙ ap (λ (j : ℕ). u % 2 ^ j) more)

looked-rest : (n u : ℕ) → n ≤ 10 → looked n nibbles u ≡ rest (u % 2 ^ (4 * n))
unfolding looked
looked-rest zero u h = let e : 0 ≡ u % 1 = omega arith in sym (rest_linear 0 0 ∙ xor_self (rest 0)) ∙ ap rest e
looked-rest (suc n) u h =
    ap (λ (r : ℕ). bit_xor r (get_or nibbles (16 * n + u / 2 ^ (4 * n) % 16) 0)) (looked-rest n u (omega arith)) ∙ nibble-turn u n (omega arith)

-- a word made 40 bits leaves what the word leaves
nears : (v : ℕ) → v < 2 ^ 64 → rest (act nearer v % 2 ^ 40) ≡ rest v
unfolding on feed bit_step
nears v h = ap rest (mod-eq_of_lt (act-lt 40 (lit≤ tt) v h nearer refl)) ∙ moved 40 (lit≤ tt) v h nearer 0 refl refl refl

pub ends : (v : ℕ) → v < 2 ^ 64 → looked 10 nibbles (act nearer v) ≡ rest v
ends v h = looked-rest 10 (act nearer v) (lit≤ tt) ∙ nears v h
