-- CRC-32C, as published with iSCSI. Assumes nothing.
use Rattle.std.specs.Prelude.{List, ℕ}
use Rattle.std.specs.Int.Bits.{bit_xor}
use Rattle.castagnoli.specs.Reflected.{bits_up_of, feed_down}

-- x^32 + x^28 + x^27 + x^26 + x^25 + x^23 + x^22 + x^20 + x^19 + x^18 + x^14 + x^13 + x^11 + x^10 + x^9 + x^8 + x^6 + 1, without its highest term
abbrev pub published : ℕ
published = 0x1EDC6F41

-- its 32 bits in the opposite order, as a register that moves down takes them in
abbrev pub generator : ℕ
generator = 0x82F63B78

abbrev pub ones : ℕ
ones = 0xFFFFFFFF

-- the register starts at all ones
abbrev pub start : ℕ
start = ones

-- the register r after some bytes, the lowest bit of each first
unfoldable pub advance : ℕ → List ℕ → ℕ
advance r bytes = feed_down generator r (bits_up_of bytes)

-- at the end each of its bits is turned
abbrev pub guard_of : ℕ → ℕ
guard_of r = bit_xor r ones

unfoldable pub crc32c : List ℕ → ℕ
crc32c bytes = guard_of (advance start bytes)
