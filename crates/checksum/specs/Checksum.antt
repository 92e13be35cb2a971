-- The rotating checksum of sixteen-bit words. A byte counts by its low eight bits, so that all of this is said of any numbers.
-- Assumes nothing.
use Rattle.std.specs.Prelude.{List, [], ◌∷◌, ℕ, ◌+◌, ◌*◌, ◌/◌, ◌%◌}

-- sixteen bits rotated left by one: the highest becomes the lowest
unfoldable pub rotated : ℕ → ℕ
rotated s = s % 32768 * 2 + s / 32768

-- what goes past sixteen bits, the carry, is added to them again
unfoldable pub wrapped : ℕ → ℕ
wrapped x = x % 65536 + x / 65536

-- the sum with one word more
unfoldable pub taken : ℕ → ℕ → ℕ
unfolding rotated wrapped
taken sum word = wrapped (rotated sum + word)

-- two bytes as a word, the first the higher
unfoldable pub word : ℕ → ℕ → ℕ
word a b = a % 256 * 256 + b % 256

-- the words of a run of bytes; a last byte that has no pair is in none: in the machine it waits, and asked for by itself such a run is refused
-- (Asked.antt)
unfoldable pub words : List ℕ → List ℕ
words [] = []
words (a ∷ []) = []
words (a ∷ b ∷ bytes) = word a b ∷ words bytes

-- the sum after some words, the first first
unfoldable pub sums : ℕ → List ℕ → ℕ
sums sum [] = sum
sums sum (w ∷ ws) = sums (taken sum w) ws

-- where it starts
abbrev pub first : ℕ
first = 0xFFFF

-- the checksum of a run of bytes
unfoldable pub checksum : List ℕ → ℕ
checksum bytes = sums first (words bytes)
