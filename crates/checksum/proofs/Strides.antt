-- Runs at equal distances: how their checksums follow one another. Assumes nothing.
use mathlib.Core.Path.{◌≡◌, refl, sym, ap, ◌∙◌}
use mathlib.Core.List.{List, [], ◌∷◌, ◌++◌, append-nil}
use Prim.Native.Nat.{ℕ, zero, suc, ◌+◌, ◌-◌, ◌≤◌, ◌<◌, min}
use native.Mathlib.Numerals.{add-one}
use native.Mathlib.Decide.{dec_le}
use native.Mathlib.Omega.{arith}
use lib.ListN.{length, take, drop, set, drop_of_length-le, length-drop, replicate, take-append-drop}
use lib.Seq.{take_all, take-suc-set, drop-drop, drop-nil, drop-set-lt, append_snoc}
use Rattle.checksum.specs.Checksum.{words, sums, first, checksum}
use Rattle.checksum.specs.Many.{checksums_of}

-- a stride on, and not past the end
pub stride_on : (l : List ℕ) (stride cut : ℕ) → cut ≡ min (length l) stride → take (length l - cut) (drop cut l) ≡ drop stride l
stride_on l stride cut e = take_all (length l - cut) (drop cut l) (rw (length-drop cut l) (omega arith)) ∙ go (dec_le stride (length l))
  where
    go : Dec (stride ≤ length l) → drop cut l ≡ drop stride l
    go (yes h) = let same : cut ≡ stride = omega arith in ap (λ (k : ℕ). drop k l) same
    go (no h) =
        let here : length l ≤ cut = omega arith in
        let there : length l ≤ stride = omega arith in
        drop_of_length-le l here ∙ sym (drop_of_length-le l there)

-- a run, as far as there are bytes
pub run_of : (l : List ℕ) (n cut : ℕ) → cut ≡ min (length l) n → take cut l ≡ take n l
run_of l n cut e = go (dec_le n (length l))
  where
    go : Dec (n ≤ length l) → take cut l ≡ take n l
    go (yes h) = let same : cut ≡ n = omega arith in ap (λ (k : ℕ). take k l) same
    go (no h) = take_all cut l (omega arith) ∙ sym (take_all n l (omega arith))

-- the loop over the runs: one more, and its end
pub checksums_turn : (out l : List ℕ) (stride n m g : ℕ) → m < length out → m < n → g ≡ checksum (take 512 l)
    → take (m + 1) (set out m g) ++ checksums_of (n - (m + 1)) stride (drop stride l) ≡ take m out ++ checksums_of (n - m) stride l
unfolding checksums_of
checksums_turn out l stride n m g h less f =
    let one : n - m ≡ suc (n - (m + 1)) = omega arith in
    rw (one, ← f, add-one, take-suc-set) (append_snoc (take m out) g (checksums_of (n - suc m) stride (drop stride l)))

pub checksums_end : (out rest : List ℕ) (stride n m : ℕ) → length out ≡ n → n ≤ m → take m out ++ checksums_of (n - m) stride rest ≡ out
unfolding checksums_of
checksums_end out rest stride n m e h =
    let none : n - m ≡ 0 = omega arith in
    rw (none, take_all m out (omega arith)) (append-nil out)

-- ---- runs past the end have no bytes

pub checksums_none : (n stride : ℕ) → checksums_of n stride [] ≡ replicate n first
unfolding checksums_of checksum words sums
checksums_none zero stride = refl
checksums_none (suc n) stride = ap (λ (l : List ℕ). first ∷ l) (ap (checksums_of n stride) (drop-nil stride) ∙ checksums_none n stride)

-- what is yet to be found, before the end and at it
pub rest-turn : (out : List ℕ) (n m g : ℕ) → m < n → drop m out ≡ replicate (n - m) first → drop (m + 1) (set out m g) ≡ replicate (n - (m + 1)) first
rest-turn out n m g h e =
    let one : n - m ≡ suc (n - (m + 1)) = omega arith in
    let more : m < m + 1 = omega arith in
    drop-set-lt (m + 1) out m g more ∙ sym (drop-drop 1 m out) ∙ ap (drop 1) (e ∙ ap (λ (k : ℕ). replicate k first) one)

pub rest_end : (out l : List ℕ) (stride n m : ℕ) → length l ≡ 0 → drop m out ≡ replicate (n - m) first → take m out ++ checksums_of (n - m) stride l ≡ out
rest_end out [] stride n m h e = ap (λ (x : List ℕ). take m out ++ x) (checksums_none (n - m) stride ∙ sym e) ∙ take-append-drop m out
rest_end out (b ∷ l) stride n m h e = absurd (omega arith)
