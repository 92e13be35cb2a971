-- Runs at equal distances: which are whole, and their guards as a list.
-- Assumes nothing.
use mathlib.Core.Path.{◌≡◌, refl, sym, ap, ◌∙◌}
use mathlib.Core.List.{List}
use Prim.Native.Nat.{ℕ, zero, suc, ◌+◌, ◌-◌, ◌*◌, ◌/◌, ◌≤◌, ◌<◌, min}
use native.Mathlib.Nat.{mul-le-mul_right, zero-mul, suc-mul, mul-zero, le-div_iff_mul-le, div-lt_iff_lt-mul, le_of_suc-le-suc, not-suc-le-zero}
use native.Mathlib.Decide.{dec_le, dec_lt}
use native.Mathlib.Omega.{arith}
use lib.ListN.{length, get_or, take, drop, drop_of_length-le, length-drop}
use lib.Seq.{ext_get_or, take_all, drop-drop}
use Rattle.crc.specs.Guard.{run, guard}
use Rattle.crc.proofs.Joined.{run-nil}
use Rattle.crc.specs.Blocks.{guards_of}
use Rattle.fold.specs.Many.{Whole, Known}

-- ---- how many are whole

pub all_whole : (stride end : ℕ) → stride ≡ 0 → 512 ≤ end → Whole stride end 16
all_whole stride end e h =
    let at : (k : ℕ) → k * stride ≡ 0 = (λ k. ap (λ (s : ℕ). k * s) e ∙ mul-zero k) in
    record {
      few = omega arith;
      within = λ k g. omega (arith, at k);
      past = λ k g l. absurd (omega arith);
    }

pub some-whole : (stride end : ℕ) → 0 < stride → 512 ≤ end → Whole stride end (min 16 ((end - 512) / stride + 1))
some-whole stride end s h =
    record {
      few = omega arith;
      within = λ k g. let few : k ≤ (end - 512) / stride = omega arith in omega (arith, (le-div_iff_mul-le s).0 few);
      past = λ k g l. let more : (end - 512) / stride < k = omega arith in omega (arith, (div-lt_iff_lt-mul s).0 more);
    }

-- ---- where they begin

-- a run that is not whole has all the bytes that are left
pub rest_of : (bytes : List ℕ) (m stride : ℕ) → length bytes < m * stride + 512 → drop (m * stride) bytes ≡ take 512 (drop (m * stride) bytes)
rest_of bytes m stride h = sym (take_all 512 (drop (m * stride) bytes) (rw (length-drop (m * stride) bytes) (omega arith)))

-- a stride on, and not past the end
pub stride_on : (l : List ℕ) (stride cut : ℕ) → cut ≡ min (length l) stride → take (length l - cut) (drop cut l) ≡ drop stride l
stride_on l stride cut e = take_all (length l - cut) (drop cut l) (rw (length-drop cut l) (omega arith)) ∙ go (dec_le stride (length l))
  where
    go : Dec (stride ≤ length l) → drop cut l ≡ drop stride l
    go (yes h) = let same : cut ≡ stride = omega arith in ap (λ (k : ℕ). drop k l) same
    go (no h) =
        let here : length l ≤ cut = omega arith in
        let there : length l ≤ stride = omega arith in
        drop_of_length-le l here ∙ sym (drop_of_length-le l there)

pub next-run : (bytes rest : List ℕ) (m stride : ℕ) → rest ≡ drop (m * stride) bytes → drop stride rest ≡ drop ((m + 1) * stride) bytes
next-run bytes rest m stride e =
    let more : m * stride + stride ≡ (m + 1) * stride = omega (arith, suc-mul m stride) in
    ap (drop stride) e ∙ drop-drop stride (m * stride) bytes ∙ ap (λ (k : ℕ). drop k bytes) more

-- where none are left, the next run begins past the end
pub past_all : (bytes rest : List ℕ) (n : ℕ) → rest ≡ drop n bytes → length rest ≡ 0 → length bytes ≤ n
past_all bytes rest n e none = let left : length bytes - n ≡ 0 = sym (length-drop n bytes) ∙ ap length (sym e) ∙ none in omega arith

-- a run that begins past the end has no bytes, and no guard
pub past_end : (bytes : List ℕ) (m l stride : ℕ) → length bytes ≤ m * stride → m ≤ l → guard (take 512 (drop (l * stride) bytes)) ≡ 0
unfolding guard
past_end bytes m l stride over h =
    let further : length bytes ≤ l * stride = omega (arith, mul-le-mul_right stride h) in
    ap (λ (r : List ℕ). run 0 (take 512 r)) (drop_of_length-le bytes further) ∙ run-nil 0

-- ---- their guards

length-guards_of : (n stride : ℕ) (bytes : List ℕ) → length (guards_of n stride bytes) ≡ n
unfolding guards_of
length-guards_of zero stride bytes = refl
length-guards_of (suc n) stride bytes = ap suc (length-guards_of n stride (drop stride bytes))

guards_of-at : (n stride : ℕ) (bytes : List ℕ) (l : ℕ) → l < n → get_or (guards_of n stride bytes) l 0 ≡ guard (take 512 (drop (l * stride) bytes))
unfolding guards_of
guards_of-at zero stride bytes l h = absurd (not-suc-le-zero h)
guards_of-at (suc n) stride bytes zero h = ap (λ (k : ℕ). guard (take 512 (drop k bytes))) (sym (zero-mul stride))
guards_of-at (suc n) stride bytes (suc l) h =
    let next : stride + l * stride ≡ suc l * stride = omega (arith, suc-mul l stride) in
    guards_of-at n stride (drop stride bytes) l (le_of_suc-le-suc h)
    ∙ ap (λ (x : List ℕ). guard (take 512 x)) (drop-drop (l * stride) stride bytes ∙ ap (λ (k : ℕ). drop k bytes) next)

-- n numbers that are the guards of n runs, each by itself
pub guards_of_each : (r : List ℕ) (n stride : ℕ) (bytes : List ℕ) → length r ≡ n → Known stride bytes r n → r ≡ guards_of n stride bytes
guards_of_each r n stride bytes e h =
    ext_get_or 0 r (guards_of n stride bytes) (e ∙ sym (length-guards_of n stride bytes)) (λ l g. h l (omega arith) ∙ sym (guards_of-at n stride bytes l (omega arith)))

-- where the next run begins past the end, the zeros that stand behind the guards known are guards too
pub known-all : (bytes : List ℕ) (stride : ℕ) (out : List ℕ) (m : ℕ) → Known stride bytes out m → ((k : ℕ) → m ≤ k → k < 16 → get_or out k 0 ≡ 0)
    → length bytes ≤ m * stride → Known stride bytes out 16
known-all bytes stride out m known zeros over l h = by_place (dec_lt l m)
  where
    by_place : Dec (l < m) → get_or out l 0 ≡ guard (take 512 (drop (l * stride) bytes))
    by_place (yes g) = known l g
    by_place (no g) = zeros l (omega arith) h ∙ sym (past_end bytes m l stride over (omega arith))
