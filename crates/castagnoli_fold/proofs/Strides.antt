-- Runs at equal distances: how their checks follow one another. Assumes nothing.
use mathlib.Core.Path.{◌≡◌, refl, sym, ap, ap₂, ◌∙◌}
use mathlib.Core.List.{List, [], ◌∷◌, ◌++◌, append-nil}
use Prim.Native.Nat.{ℕ, zero, suc, ◌+◌, ◌-◌, ◌≤◌, ◌<◌, min}
use native.Mathlib.Numerals.{add-one}
use native.Mathlib.Decide.{dec_le}
use native.Mathlib.Omega.{arith}
use lib.ListN.{length, take, drop, set, drop_of_length-le, length-drop, replicate, take-append-drop}
use lib.Seq.{take_all, take-suc-set, drop-drop, drop-nil, drop-set-lt, append_snoc}
use Rattle.castagnoli.specs.Castagnoli.{start, guard_of, crc32c}
use Rattle.castagnoli.proofs.Joined.{advance-nil}
use Rattle.castagnoli.specs.Blocks.{guards_of}

-- a stride on, and not past the end
pub stride_on : (l : List ℕ) (stride cut : ℕ) → cut ≡ min (length l) stride → take (length l - cut) (drop cut l) ≡ drop stride l
stride_on l stride cut e = take_all (length l - cut) (drop cut l) (rw (length-drop cut l) (omega arith)) ∙ go (dec_le stride (length l))
  where
    go : Dec (stride ≤ length l) → drop cut l ≡ drop stride l
    go (yes h) = let same : cut ≡ stride = omega arith in ap (λ (k : ℕ). drop k l) same
    go (no h) =
        let here : length l ≤ cut = omega arith in
        let there : length l ≤ stride = omega arith in
        drop_of_length-le l here ∙ sym (drop_of_length-le l there)

-- the loop over the runs: one more, and its end
pub guards_turn : (out l : List ℕ) (stride n m g : ℕ) → m < length out → m < n → g ≡ crc32c (take 4096 l)
    → take (m + 1) (set out m g) ++ guards_of (n - (m + 1)) stride (drop stride l) ≡ take m out ++ guards_of (n - m) stride l
unfolding guards_of
guards_turn out l stride n m g h less f =
    let one : n - m ≡ suc (n - (m + 1)) = omega arith in
    rw (one, ← f, add-one, take-suc-set) (append_snoc (take m out) g (guards_of (n - suc m) stride (drop stride l)))

pub guards_end : (out rest : List ℕ) (stride n m : ℕ) → length out ≡ n → n ≤ m → take m out ++ guards_of (n - m) stride rest ≡ out
unfolding guards_of
guards_end out rest stride n m e h =
    let none : n - m ≡ 0 = omega arith in
    rw (none, take_all m out (omega arith)) (append-nil out)

-- ---- runs past the end have no bytes

check_none : crc32c [] ≡ 0
unfolding crc32c
check_none = ap (λ (r : ℕ). guard_of r) (advance-nil start)

guards_none : (n stride : ℕ) → guards_of n stride [] ≡ replicate n 0
unfolding guards_of
guards_none zero stride = refl
guards_none (suc n) stride = ap₂ (λ (g : ℕ) (l : List ℕ). g ∷ l) check_none (ap (guards_of n stride) (drop-nil stride) ∙ guards_none n stride)

-- what is yet to be found, before the end and at it
pub rest-turn : (out : List ℕ) (n m g : ℕ) → m < n → drop m out ≡ replicate (n - m) 0 → drop (m + 1) (set out m g) ≡ replicate (n - (m + 1)) 0
rest-turn out n m g h e =
    let one : n - m ≡ suc (n - (m + 1)) = omega arith in
    let more : m < m + 1 = omega arith in
    drop-set-lt (m + 1) out m g more ∙ sym (drop-drop 1 m out) ∙ ap (drop 1) (e ∙ ap (λ (k : ℕ). replicate k 0) one)

pub rest_end : (out l : List ℕ) (stride n m : ℕ) → length l ≡ 0 → drop m out ≡ replicate (n - m) 0 → take m out ++ guards_of (n - m) stride l ≡ out
rest_end out [] stride n m h e = ap (λ (x : List ℕ). take m out ++ x) (guards_none (n - m) stride ∙ sym e) ∙ take-append-drop m out
rest_end out (b ∷ l) stride n m h e = absurd (omega arith)
