-- The words of a run of bytes. Assumes nothing.
use mathlib.Core.Path.{◌≡◌, refl, ap, ap₂, ◌∙◌}
use mathlib.Core.List.{List, [], ◌∷◌, ◌++◌}
use Prim.Native.Nat.{ℕ, zero, suc, ◌+◌, ◌*◌, ◌/◌, ◌%◌, ◌<◌}
use native.Mathlib.Nat.{mod-eq_of_lt}
use native.Mathlib.Omega.{arith}
use lib.ListN.{length, get_or}
use Rattle.checksum.specs.Checksum.{word, words}
use Rattle.checksum.specs.Changes.{Bytes, word_at}
use Rattle.checksum.specs.Lanes.{pair, pairs}

-- each is a sixteen-bit word
abbrev pub Words : List ℕ → Type 0
Words l = (k : ℕ) → get_or l k 0 < 65536

pub word_lt : (a b : ℕ) → word a b < 65536
unfolding word
word_lt a b = omega arith

pub words_small : (bytes : List ℕ) → Words (words bytes)
unfolding words
words_small [] k = omega arith
words_small (a ∷ []) k = omega arith
words_small (a ∷ b ∷ bytes) zero = word_lt a b
words_small (a ∷ b ∷ bytes) (suc k) = words_small bytes k

pub words-length : (bytes : List ℕ) → length (words bytes) ≡ length bytes / 2
unfolding words
words-length [] = refl
words-length (a ∷ []) = refl
words-length (a ∷ b ∷ bytes) = let e : suc (length bytes / 2) ≡ suc (suc (length bytes)) / 2 = omega arith in ap suc (words-length bytes) ∙ e

pub words_append : (a b : List ℕ) → length a % 2 ≡ 0 → words (a ++ b) ≡ words a ++ words b
unfolding words
words_append [] b h = refl
words_append (x ∷ []) b h = absurd (omega arith)
words_append (x ∷ y ∷ a) b h = ap (λ (l : List ℕ). word x y ∷ l) (words_append a b (omega arith))

pub words-at : (bytes : List ℕ) (k : ℕ) → k * 2 + 1 < length bytes → get_or (words bytes) k 0 ≡ word_at bytes k
unfolding words
words-at [] k h = absurd (omega arith)
words-at (a ∷ []) k h = absurd (omega arith)
words-at (a ∷ b ∷ bytes) zero h = refl
words-at (a ∷ b ∷ bytes) (suc k) h =
    let even : suc (suc (k * 2)) ≡ suc k * 2 = omega arith in
    let odd : suc (suc (k * 2 + 1)) ≡ suc k * 2 + 1 = omega arith in
    words-at bytes k (omega arith) ∙ ap₂ (λ (p q : ℕ). word (get_or (a ∷ b ∷ bytes) p 0) (get_or (a ∷ b ∷ bytes) q 0)) even odd

-- of bytes, the pairs
pub word-pair : (a b : ℕ) → a < 256 → b < 256 → word a b ≡ pair a b
unfolding word
word-pair a b ha hb = ap₂ pair (mod-eq_of_lt ha) (mod-eq_of_lt hb)

pub words-pairs : (bytes : List ℕ) → Bytes bytes → words bytes ≡ pairs bytes
unfolding words pairs
words-pairs [] h = refl
words-pairs (a ∷ []) h = refl
words-pairs (a ∷ b ∷ bytes) h =
    ap₂ (λ (w : ℕ) (l : List ℕ). w ∷ l) (word-pair a b (h 0) (h 1)) (words-pairs bytes (λ k. h (suc (suc k))))
