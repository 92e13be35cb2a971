-- A change of one aligned word is noticed, unless it turns 0000h into FFFFh or back; and those two are not. Assumes nothing.
use mathlib.Core.Path.{◌≡◌, refl, sym, ap, ap₂, ◌∙◌}
use mathlib.Core.Logic.{◌≢◌, ◌⊎◌, inl, inr}
use mathlib.Core.List.{List, [], ◌∷◌}
use Prim.Native.Nat.{ℕ, zero, suc, ◌+◌, ◌*◌, ◌/◌, ◌%◌, ◌≤◌, ◌<◌}
use native.Mathlib.Nat.{add-mul-mod_self_left}
use native.Mathlib.Decide.{dec_le, ℕ_discrete}
use native.Mathlib.Omega.{arith}
use lib.ListN.{length, get_or, get_or-eq_default}
use lib.Seq.{ext_get_or}
use Rattle.checksum.specs.Checksum.{taken, word, words, sums, first, checksum}
use Rattle.checksum.specs.Changes.{Bytes, word_at, OneWord, Turned}
use Rattle.checksum.proofs.Reduced.{Sum, own, reduced-lt, reduced-pos, reduced-mod, taken-reduced}
use Rattle.checksum.proofs.Words.{Words, word_lt, words_small, words-length, words-at}

-- ---- one word: the sum and the word decide the next sum by their remainders, and are decided by it

taken_sum : (s w : ℕ) → Sum s → w < 65536 → Sum (taken s w)
taken_sum s w h hw = rw (taken-reduced s w h.1 hw) (reduced-pos (s * 2 + w) (omega arith), reduced-lt (s * 2 + w))

taken-mod : (s w : ℕ) → Sum s → w < 65536 → taken s w % 65535 ≡ (s * 2 + w) % 65535
taken-mod s w h hw = ap (λ (x : ℕ). x % 65535) (taken-reduced s w h.1 hw) ∙ reduced-mod (s * 2 + w)

-- undone: times 32,768 is half
halved : (x y w : ℕ) → (x * 2 + w) % 65535 ≡ (y * 2 + w) % 65535 → x % 65535 ≡ y % 65535
halved x y w e =
    let p = (x * 2 + w) / 65535 in
    let q = (y * 2 + w) / 65535 in
    let same : x + 65535 * (x + 32768 * q) ≡ y + 65535 * (y + 32768 * p) = omega arith in
    sym (add-mul-mod_self_left x 65535 (x + 32768 * q)) ∙ ap (λ (z : ℕ). z % 65535) same ∙ add-mul-mod_self_left y 65535 (y + 32768 * p)

taken-sums : (s t w : ℕ) → Sum s → Sum t → w < 65536 → taken s w ≡ taken t w → s ≡ t
taken-sums s t w hs ht hw e =
    own s t hs ht (halved s t w (sym (taken-mod s w hs hw) ∙ ap (λ (x : ℕ). x % 65535) e ∙ taken-mod t w ht hw))

taken-words : (s u v : ℕ) → Sum s → u < 65536 → v < 65536 → taken s u ≡ taken s v → u % 65535 ≡ v % 65535
taken-words s u v h hu hv e =
    let m : (s * 2 + u) % 65535 ≡ (s * 2 + v) % 65535 = sym (taken-mod s u h hu) ∙ ap (λ (x : ℕ). x % 65535) e ∙ taken-mod s v h hv in
    omega arith

words-taken : (s u v : ℕ) → Sum s → u < 65536 → v < 65536 → u % 65535 ≡ v % 65535 → taken s u ≡ taken s v
words-taken s u v h hu hv e =
    let m : (s * 2 + u) % 65535 ≡ (s * 2 + v) % 65535 = omega arith in
    own (taken s u) (taken s v) (taken_sum s u h hu) (taken_sum s v h hv) (taken-mod s u h hu ∙ m ∙ sym (taken-mod s v h hv))

-- ---- a run of words that differs in one

abbrev Apart : ℕ → List ℕ → List ℕ → Type 0
Apart k a b = (j : ℕ) → j ≢ k → get_or a j 0 ≡ get_or b j 0

tails : (x y : ℕ) (a b : List ℕ) → length a ≡ length b → Apart zero (x ∷ a) (y ∷ b) → a ≡ b
tails x y a b l apart = ext_get_or 0 a b l (λ i lt. apart (suc i) (λ z. omega arith))

sums_same : (s t : ℕ) (ws : List ℕ) → Sum s → Sum t → Words ws → sums s ws ≡ sums t ws → s ≡ t
unfolding sums
sums_same s t [] hs ht small e = e
sums_same s t (w ∷ ws) hs ht small e =
    taken-sums s t w hs ht (small 0)
    (sums_same (taken s w) (taken t w) ws (taken_sum s w hs (small 0)) (taken_sum t w ht (small 0)) (λ k. small (suc k)) e)

sums_noticed : (s k : ℕ) (a b : List ℕ) → Sum s → Words a → Words b → length a ≡ length b → Apart k a b
    → sums s a ≡ sums s b → get_or a k 0 % 65535 ≡ get_or b k 0 % 65535
unfolding sums
sums_noticed s k [] [] h ha hb l apart e = refl
sums_noticed s k [] (y ∷ b) h ha hb l apart e = absurd (omega arith)
sums_noticed s k (x ∷ a) [] h ha hb l apart e = absurd (omega arith)
sums_noticed s zero (x ∷ a) (y ∷ b) h ha hb l apart e =
    taken-words s x y h (ha 0) (hb 0)
    (sums_same (taken s x) (taken s y) a (taken_sum s x h (ha 0)) (taken_sum s y h (hb 0)) (λ k. ha (suc k))
    (e ∙ ap (sums (taken s y)) (sym (tails x y a b (omega arith) apart))))
sums_noticed s (suc k) (x ∷ a) (y ∷ b) h ha hb l apart e =
    let heads : x ≡ y = apart 0 (λ z. omega arith) in
    sums_noticed (taken s x) k a b (taken_sum s x h (ha 0)) (λ k. ha (suc k)) (λ k. hb (suc k)) (omega arith) (λ j ne. apart (suc j) (λ z. ne (omega arith)))
    (e ∙ ap (λ (z : ℕ). sums (taken s z) b) (sym heads))

sums_unnoticed : (s k : ℕ) (a b : List ℕ) → Sum s → Words a → Words b → length a ≡ length b → Apart k a b
    → get_or a k 0 % 65535 ≡ get_or b k 0 % 65535 → sums s a ≡ sums s b
unfolding sums
sums_unnoticed s k [] [] h ha hb l apart e = refl
sums_unnoticed s k [] (y ∷ b) h ha hb l apart e = absurd (omega arith)
sums_unnoticed s k (x ∷ a) [] h ha hb l apart e = absurd (omega arith)
sums_unnoticed s zero (x ∷ a) (y ∷ b) h ha hb l apart e = ap₂ sums (words-taken s x y h (ha 0) (hb 0) e) (tails x y a b (omega arith) apart)
sums_unnoticed s (suc k) (x ∷ a) (y ∷ b) h ha hb l apart e =
    let heads : x ≡ y = apart 0 (λ z. omega arith) in
    sums_unnoticed (taken s x) k a b (taken_sum s x h (ha 0)) (λ k. ha (suc k)) (λ k. hb (suc k)) (omega arith) (λ j ne. apart (suc j) (λ z. ne (omega arith))) e
    ∙ ap (λ (z : ℕ). sums (taken s z) b) heads

-- ---- a run of bytes

module _ (k : ℕ) (a b : List ℕ) (one : OneWord k a b) where
  lengths : length (words a) ≡ length (words b)
  lengths = words-length a ∙ ap (λ (n : ℕ). n / 2) one.long ∙ sym (words-length b)

  words-apart : Apart k (words a) (words b)
  words-apart j ne = go (dec_le (j * 2 + 2) (length a))
    where
      go : Dec (j * 2 + 2 ≤ length a) → get_or (words a) j 0 ≡ get_or (words b) j 0
      go (yes l) =
          words-at a j (omega arith)
          ∙ ap₂ word (one.elsewhere (j * 2) (λ z. ne (omega arith)) (λ z. omega arith)) (one.elsewhere (j * 2 + 1) (λ z. omega arith) (λ z. ne (omega arith)))
          ∙ sym (words-at b j (omega (arith, one.long)))
      go (no l) =
          let la : length (words a) ≤ j = rw (words-length a) (omega arith) in
          let lb : length (words b) ≤ j = rw (words-length b) (omega (arith, one.long)) in
          get_or-eq_default (words a) 0 {n = j} la ∙ sym (get_or-eq_default (words b) 0 {n = j} lb)

  here : get_or (words a) k 0 ≡ word_at a k
  here = words-at a k one.inside

  there : get_or (words b) k 0 ≡ word_at b k
  there = words-at b k (omega (arith, one.inside, one.long))

  -- of the sixteen-bit words only 0000h and FFFFh have the same remainder
  alike : (u v : ℕ) → u < 65536 → v < 65536 → u % 65535 ≡ v % 65535 → (u ≡ v) ⊎ Turned u v
  alike zero zero hu hv e = inl refl
  alike zero (suc v) hu hv e = inr (inl (refl, own (suc v) 65535 (omega arith, hv) (omega arith, omega arith) (sym e)))
  alike (suc u) zero hu hv e = inr (inr (own (suc u) 65535 (omega arith, hu) (omega arith, omega arith) e, refl))
  alike (suc u) (suc v) hu hv e = inl (own (suc u) (suc v) (omega arith, hu) (omega arith, hv) e)

  same_word : checksum a ≡ checksum b → (word_at a k ≡ word_at b k) ⊎ Turned (word_at a k) (word_at b k)
  unfolding checksum
  same_word e =
      alike (word_at a k) (word_at b k) (word_lt (get_or a (k * 2) 0) (get_or a (k * 2 + 1) 0)) (word_lt (get_or b (k * 2) 0) (get_or b (k * 2 + 1) 0))
      (ap (λ (x : ℕ). x % 65535) (sym here)
      ∙ sums_noticed first k (words a) (words b) (omega arith, omega arith) (words_small a) (words_small b) lengths words-apart e
      ∙ ap (λ (x : ℕ). x % 65535) there)

  same-run : Bytes a → Bytes b → word_at a k ≡ word_at b k → a ≡ b
  unfolding word
  same-run ha hb e = ext_get_or 0 a b one.long (λ j lt. go j (ℕ_discrete j (k * 2)) (ℕ_discrete j (k * 2 + 1)))
    where
      high : get_or a (k * 2) 0 ≡ get_or b (k * 2) 0
      high = omega (arith, ha (k * 2), hb (k * 2), ha (k * 2 + 1), hb (k * 2 + 1))

      low : get_or a (k * 2 + 1) 0 ≡ get_or b (k * 2 + 1) 0
      low = omega (arith, ha (k * 2), hb (k * 2), ha (k * 2 + 1), hb (k * 2 + 1))

      go : (j : ℕ) → Dec (j ≡ k * 2) → Dec (j ≡ k * 2 + 1) → get_or a j 0 ≡ get_or b j 0
      go j (yes p) d = rw p high
      go j (no p) (yes q) = rw q low
      go j (no p) (no q) = one.elsewhere j p q

  -- every change within one aligned word is noticed but these two
  pub noticed : Bytes a → Bytes b → ¬ Turned (word_at a k) (word_at b k) → a ≢ b → checksum a ≢ checksum b
  noticed ha hb turned ne e = go (same_word e)
    where
      go : (word_at a k ≡ word_at b k) ⊎ Turned (word_at a k) (word_at b k) → ⊥
      go (inl w) = ne (same-run ha hb w)
      go (inr t) = turned t

  -- and these two are not
  pub unnoticed : Turned (word_at a k) (word_at b k) → checksum a ≡ checksum b
  unfolding checksum
  unnoticed turned =
      sums_unnoticed first k (words a) (words b) (omega arith, omega arith) (words_small a) (words_small b) lengths words-apart
      (ap (λ (x : ℕ). x % 65535) here ∙ go turned ∙ ap (λ (x : ℕ). x % 65535) (sym there))
    where
      go : Turned (word_at a k) (word_at b k) → word_at a k % 65535 ≡ word_at b k % 65535
      go (inl t) = ap₂ (λ (u v : ℕ). u % 65535) t.0 t.1 ∙ sym (ap (λ (v : ℕ). v % 65535) t.1)
      go (inr t) = ap (λ (u : ℕ). u % 65535) t.0 ∙ sym (ap (λ (v : ℕ). v % 65535) t.1)
