-- The guard of the T10 protection field, CRC-16/T10-DIF. Assumes nothing.
use Rattle.std.specs.Prelude.{List, ℕ}
use Rattle.crc.specs.Crc.{bits_of, feed}

-- x^16 + x^15 + x^11 + x^9 + x^8 + x^7 + x^5 + x^4 + x^2 + x + 1, without its highest term
abbrev pub generator : ℕ
generator = 0x8BB7

-- the register r after some bytes
unfoldable pub run : ℕ → List ℕ → ℕ
run r bytes = feed 16 generator r (bits_of bytes)

-- the register starts at 0, and what it holds at the end is the guard
unfoldable pub guard : List ℕ → ℕ
unfolding run
guard bytes = run 0 bytes
