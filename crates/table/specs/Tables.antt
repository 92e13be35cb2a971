-- The two tables of the guard, as what they are computed from, and what is made of any two tables. Assumes nothing.
use Rattle.std.specs.Prelude.{List, [], ◌∷◌, ℕ, zero, suc, ◌*◌, ◌/◌, ◌%◌, get_or}
use Rattle.std.specs.Int.Bits.{bit_xor}
use Rattle.crc.specs.Guard.{guard}

-- f at i, and at the n - 1 numbers after it
abbrev pub entries : (ℕ → ℕ) → ℕ → ℕ → List ℕ
entries f i zero = []
entries f i (suc n) = f i ∷ entries f (suc i) n

-- the guard of each byte
unfoldable pub lows : List ℕ
lows = entries (λ i. guard (i ∷ [])) 0 256

-- the guard of each byte with a zero byte after it
unfoldable pub highs : List ℕ
highs = entries (λ i. guard (i ∷ 0 ∷ [])) 0 256

-- a byte looked up in one table, by what it differs in from the register's high byte; the register's low byte moves up
unfoldable pub look_one : List ℕ → ℕ → ℕ → ℕ
look_one low r a = bit_xor (r % 256 * 256) (get_or low (bit_xor (r / 256) a) 0)

-- two bytes looked up, each in its table
unfoldable pub look_two : List ℕ → List ℕ → ℕ → ℕ → ℕ → ℕ
look_two high low r a b = bit_xor (get_or high (bit_xor (r / 256) a) 0) (get_or low (bit_xor (r % 256) b) 0)

-- a run of bytes, two at a time
unfoldable pub look_run : List ℕ → List ℕ → ℕ → List ℕ → ℕ
look_run high low r [] = r
look_run high low r (a ∷ []) = look_one low r a
look_run high low r (a ∷ b ∷ bytes) = look_run high low (look_two high low r a b) bytes
