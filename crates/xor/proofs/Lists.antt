-- Laws of `xors`, the exclusive-or of two runs: its length, its elements, what cancels, and how it goes with joining and cutting.
-- Assumes nothing.
use mathlib.Core.Path.{◌≡◌, refl, sym, ap, ap₂, ◌∙◌}
use mathlib.Core.List.{List, [], ◌∷◌, ◌++◌, append-nil}
use Prim.Native.Nat.{ℕ, zero, suc, ◌+◌, ◌≤◌, ◌<◌, min}
use native.Mathlib.Nat.{not-suc-le-zero, le_of_suc-le-suc}
use native.Mathlib.Decide.{dec_le}
use native.Mathlib.Numerals.{add-one}
use native.Mathlib.Omega.{arith}
use lib.ListN.{length, get_or, take, drop, set, replicate, take-append-drop, drop_of_length-le}
use lib.Seq.{take_all, drop-cons, take-suc-set, drop-set-lt, append_snoc}
use lib.Bits.{bit_xor, xor_comm, xor_self, xor_zero_r, xor_lt}
use Rattle.xor.specs.Xors.{xors}
use Rattle.xor.proofs.Bits.{xor_swap, xor_assoc}

pub length-xors : (a b : List ℕ) → length (xors a b) ≡ length a
unfolding xors
length-xors [] b = refl
length-xors (x ∷ a) [] = refl
length-xors (x ∷ a) (y ∷ b) = ap suc (length-xors a b)

-- at a place of a: past its end b counts as zero
pub get_or-xors : (a b : List ℕ) (k : ℕ) → k < length a → get_or (xors a b) k 0 ≡ bit_xor (get_or a k 0) (get_or b k 0)
unfolding xors
get_or-xors [] b k h = absurd (not-suc-le-zero h)
get_or-xors (x ∷ a) [] k h = sym (xor_zero_r (get_or (x ∷ a) k 0))
get_or-xors (x ∷ a) (y ∷ b) zero h = refl
get_or-xors (x ∷ a) (y ∷ b) (suc k) h = get_or-xors a b k (le_of_suc-le-suc h)

pub xors-nil : (a : List ℕ) → xors a [] ≡ a
unfolding xors
xors-nil [] = refl
xors-nil (x ∷ a) = refl

-- the order in which two runs are added does not matter
pub xors_swap : (a b c : List ℕ) → xors (xors a b) c ≡ xors (xors a c) b
unfolding xors
xors_swap [] b c = refl
xors_swap (x ∷ a) [] c = sym (xors-nil (xors (x ∷ a) c))
xors_swap (x ∷ a) (y ∷ b) [] = refl
xors_swap (x ∷ a) (y ∷ b) (z ∷ c) = ap₂ (λ (p : ℕ) (l : List ℕ). p ∷ l) (xor_swap x y z) (xors_swap a b c)

pub xors_comm : (a b : List ℕ) → length a ≡ length b → xors a b ≡ xors b a
unfolding xors
xors_comm [] [] h = refl
xors_comm [] (y ∷ b) h = absurd (omega arith)
xors_comm (x ∷ a) [] h = absurd (omega arith)
xors_comm (x ∷ a) (y ∷ b) h = ap₂ (λ (p : ℕ) (l : List ℕ). p ∷ l) (xor_comm x y) (xors_comm a b (omega arith))

pub xors_assoc : (a b c : List ℕ) → length a ≤ length b → xors (xors a b) c ≡ xors a (xors b c)
unfolding xors
xors_assoc [] b c h = refl
xors_assoc (x ∷ a) [] c h = absurd (omega arith)
xors_assoc (x ∷ a) (y ∷ b) [] h = refl
xors_assoc (x ∷ a) (y ∷ b) (z ∷ c) h = ap₂ (λ (p : ℕ) (l : List ℕ). p ∷ l) (xor_assoc x y z) (xors_assoc a b c (omega arith))

-- a run added to itself is zero throughout
pub xors_self : (a : List ℕ) → xors a a ≡ replicate (length a) 0
unfolding xors
xors_self [] = refl
xors_self (x ∷ a) = ap₂ (λ (p : ℕ) (l : List ℕ). p ∷ l) (xor_self x) (xors_self a)

-- zeros change nothing, on either side
pub xors-zeros : (a : List ℕ) (n : ℕ) → xors a (replicate n 0) ≡ a
unfolding xors
xors-zeros [] n = refl
xors-zeros (x ∷ a) zero = refl
xors-zeros (x ∷ a) (suc n) = ap₂ (λ (p : ℕ) (l : List ℕ). p ∷ l) (xor_zero_r x) (xors-zeros a n)

pub zeros-xors : (a : List ℕ) → xors (replicate (length a) 0) a ≡ a
unfolding xors
zeros-xors [] = refl
zeros-xors (x ∷ a) = ap (λ (l : List ℕ). x ∷ l) (zeros-xors a)

-- what was added twice is gone
pub xors-twice : (a b : List ℕ) → xors (xors a b) b ≡ a
unfolding xors
xors-twice [] b = refl
xors-twice (x ∷ a) [] = refl
xors-twice (x ∷ a) (y ∷ b) = ap₂ (λ (p : ℕ) (l : List ℕ). p ∷ l) (xor_assoc x y y ∙ ap (bit_xor x) (xor_self y) ∙ xor_zero_r x) (xors-twice a b)

-- two equally long runs whose exclusive-or is zero throughout are one
pub xors_eq : (a b : List ℕ) → length a ≡ length b → xors a b ≡ replicate (length a) 0 → a ≡ b
xors_eq a b h e = sym (zeros-xors a) ∙ ap (λ (l : List ℕ). xors l a) (sym e) ∙ xors_swap a b a ∙ ap (λ (l : List ℕ). xors l b) (xors_self a) ∙ ap (λ (n : ℕ). xors (replicate n 0) b) h ∙ zeros-xors b

-- joined runs whose first parts are equally long, and the parts of a run
pub xors-append : (a b c d : List ℕ) → length a ≡ length c → xors (a ++ b) (c ++ d) ≡ xors a c ++ xors b d
unfolding xors
xors-append [] b [] d h = refl
xors-append [] b (y ∷ c) d h = absurd (omega arith)
xors-append (x ∷ a) b [] d h = absurd (omega arith)
xors-append (x ∷ a) b (y ∷ c) d h = ap (λ (l : List ℕ). bit_xor x y ∷ l) (xors-append a b c d (omega arith))

pub take-xors : (n : ℕ) (a b : List ℕ) → take n (xors a b) ≡ xors (take n a) (take n b)
unfolding xors
take-xors zero a b = refl
take-xors (suc n) [] b = refl
take-xors (suc n) (x ∷ a) [] = refl
take-xors (suc n) (x ∷ a) (y ∷ b) = ap (λ (l : List ℕ). bit_xor x y ∷ l) (take-xors n a b)

pub drop-xors : (n : ℕ) (a b : List ℕ) → drop n (xors a b) ≡ xors (drop n a) (drop n b)
unfolding xors
drop-xors zero a b = refl
drop-xors (suc n) [] b = refl
drop-xors (suc n) (x ∷ a) [] = sym (xors-nil (drop n a))
drop-xors (suc n) (x ∷ a) (y ∷ b) = drop-xors n a b

-- the exclusive-or of bytes is a byte
pub bytes-xors : (a b : List ℕ) → ((k : ℕ) → get_or a k 0 < 256) → ((k : ℕ) → get_or b k 0 < 256) → (k : ℕ) → get_or (xors a b) k 0 < 256
unfolding xors
bytes-xors [] b ha hb k = ha k
bytes-xors (x ∷ a) [] ha hb k = ha k
bytes-xors (x ∷ a) (y ∷ b) ha hb zero = xor_lt 8 x y (ha 0) (hb 0)
bytes-xors (x ∷ a) (y ∷ b) ha hb (suc k) = bytes-xors a b (λ k. ha (suc k)) (λ k. hb (suc k)) k

-- the loop that adds b to a, from place i on: one turn, and its end
pub xors-turn : (a b : List ℕ) (i : ℕ) → i < length a → i < length b
    → take (i + 1) (set a i (bit_xor (get_or a i 0) (get_or b i 0))) ++ xors (drop (i + 1) (set a i (bit_xor (get_or a i 0) (get_or b i 0)))) (drop (i + 1) b)
    ≡ take i a ++ xors (drop i a) (drop i b)
unfolding xors
xors-turn a b i ha hb =
    let x = bit_xor (get_or a i 0) (get_or b i 0) in
    let lt : i < suc i = omega arith in
    rw (add-one, drop-cons a i 0, drop-cons b i 0, take-suc-set, drop-set-lt) (append_snoc (take i a) x (xors (drop (suc i) a) (drop (suc i) b)))

pub xors_end : (a b : List ℕ) (i : ℕ) → min (length a) (length b) ≤ i → take i a ++ xors (drop i a) (drop i b) ≡ a
unfolding xors
xors_end a b i h = go (dec_le (length a) i)
  where
    go : Dec (length a ≤ i) → take i a ++ xors (drop i a) (drop i b) ≡ a
    go (yes l) = rw (drop_of_length-le a l, take_all i a l) (append-nil a)
    go (no l) = let short : length b ≤ i = omega arith in rw (drop_of_length-le b short, xors-nil, take-append-drop)
