-- The two tables of CRC-32C, as what they are computed from, and what is made of any two tables. Assumes nothing.
use Rattle.std.specs.Prelude.{List, [], ◌∷◌, ℕ, ◌/◌, ◌%◌, get_or}
use Rattle.std.specs.Int.Bits.{bit_xor}
use Rattle.table.specs.Tables.{entries}
use Rattle.castagnoli.specs.Castagnoli.{advance}

-- what each byte makes of a register 0
unfoldable pub lasts : List ℕ
lasts = entries (λ i. advance 0 (i ∷ [])) 0 256

-- what each byte with a zero byte after it makes of a register 0
unfoldable pub firsts : List ℕ
firsts = entries (λ i. advance 0 (i ∷ 0 ∷ [])) 0 256

-- a byte looked up in one table, by what it differs in from the register's low byte; the other bytes of the register move down
unfoldable pub look_one : List ℕ → ℕ → ℕ → ℕ
look_one last r a = bit_xor (r / 256) (get_or last (bit_xor (r % 256) a) 0)

-- two bytes looked up, each in its table
unfoldable pub look_two : List ℕ → List ℕ → ℕ → ℕ → ℕ → ℕ
look_two first last r a b = bit_xor (r / 65536) (bit_xor (get_or first (bit_xor (r % 256) a) 0) (get_or last (bit_xor (r / 256 % 256) b) 0))

-- a run of bytes, two at a time
unfoldable pub look_run : List ℕ → List ℕ → ℕ → List ℕ → ℕ
look_run first last r [] = r
look_run first last r (a ∷ []) = look_one last r a
look_run first last r (a ∷ b ∷ bytes) = look_run first last (look_two first last r a b) bytes
