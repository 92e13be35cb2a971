-- Changes of a run within one aligned word: what the checksum notices is said of these. Assumes nothing.
use Rattle.std.specs.Prelude.{◌≡◌, ◌≢◌, ◌⊎◌, List, ℕ, ◌+◌, ◌*◌, ◌<◌, length, get_or}
use Rattle.checksum.specs.Checksum.{word}

-- every element is a byte
abbrev pub Bytes : List ℕ → Type 0
Bytes l = (k : ℕ) → get_or l k 0 < 256

-- the word k of a run
abbrev pub word_at : List ℕ → ℕ → ℕ
word_at bytes k = word (get_or bytes (k * 2) 0) (get_or bytes (k * 2 + 1) 0)

-- two equally long runs differ only in the word k
pub record OneWord (k : ℕ) (a b : List ℕ) : Type 0 where
  pub long : length a ≡ length b
  pub inside : k * 2 + 1 < length a
  pub elsewhere : (j : ℕ) → j ≢ k * 2 → j ≢ k * 2 + 1 → get_or a j 0 ≡ get_or b j 0

-- 0000h turned into FFFFh, or back
abbrev pub Turned : ℕ → ℕ → Type 0
Turned u v = ((u ≡ 0) × (v ≡ 0xFFFF)) ⊎ ((u ≡ 0xFFFF) × (v ≡ 0))
