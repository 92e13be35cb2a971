-- Words as they are read, the first byte the lowest, and what rows of four of them come to. Assumes nothing.
use Rattle.std.specs.Prelude.{List, ℕ, zero, suc, ◌+◌, ◌*◌, get_or, take, drop}
use Rattle.castagnoli.specs.Castagnoli.{advance}
use Rattle.castagnoli_words.specs.Words.{after}

-- n bytes of b from p on as a number
unfoldable pub little : ℕ → List ℕ → ℕ → ℕ
little zero b p = 0
little (suc n) b p = get_or b p 0 + 256 * little n b (p + 1)

-- what the eight bytes of b from p on make of a register 0
unfoldable pub piece : List ℕ → ℕ → ℕ
piece b p = advance 0 (take 8 (drop p b))

-- what four words come to that stand a row apart, the first at p
unfoldable pub column : List ℕ → ℕ → ℕ
column b p = after 256 (after 256 (after 256 (piece b p) (piece b (p + 32))) (piece b (p + 64))) (piece b (p + 96))
