-- Words as they are read, the first byte the lowest, and the register among them. Assumes nothing.
use Rattle.std.specs.Prelude.{List, ℕ, zero, suc, ◌+◌, ◌*◌, ◌%◌, ◌^◌, get_or, take, drop}
use Rattle.std.specs.Int.Bits.{bit_xor}
use Rattle.crc.specs.Guard.{guard}
use Rattle.words.specs.Words.{rest, Map, same, up, down, low, plus, act}
use Rattle.words.specs.Steps.{turning}

-- the bytes of b from p on to p + n as a number
abbrev pub little : ℕ → List ℕ → ℕ → ℕ
little zero b p = get_or b p 0
little (suc n) b p = bit_xor (little n b p) (get_or b (p + suc n) 0 * 2 ^ (8 * suc n) % 2 ^ 64)

-- what such a word leaves once its bytes are turned
abbrev pub seen : ℕ → ℕ
seen v = rest (act turning v)

-- the guard of the eight bytes of b from p on
unfoldable pub piece : List ℕ → ℕ → ℕ
piece b p = guard (take 8 (drop p b))

-- a register as the first two bytes of a word, its high byte first
abbrev pub leading : Map
leading = plus (down 8 same) (up 8 (low 8 same))
