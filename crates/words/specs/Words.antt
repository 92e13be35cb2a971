-- Words of 64 bits as polynomials, the highest bit first: what the division by the generator leaves of them, and the maps of words that are
-- made of shifts and exclusive-or. Assumes nothing.
use Rattle.std.specs.Prelude.{ℕ, ◌*◌, ◌/◌, ◌%◌, ◌^◌, replicate}
use Rattle.std.specs.Int.Bits.{bit_xor}
use Rattle.crc.specs.Crc.{bits, feed}
use Rattle.crc.specs.Guard.{generator}

-- what the bits of a word make of a register 0
unfoldable pub rest : ℕ → ℕ
rest v = feed 16 generator 0 (bits 64 v)

-- a register moved on by s bits 0
unfoldable pub on : ℕ → ℕ → ℕ
on s r = feed 16 generator r (replicate s 0)

-- the same, and another added
abbrev pub after : ℕ → ℕ → ℕ → ℕ
after s r q = bit_xor (on s r) q

-- how a map is made: the word itself; another map's word moved up, within 64 bits, or down; its low bits; two added
pub data Map : Type 0 where
  same : Map
  up : ℕ → Map → Map
  down : ℕ → Map → Map
  low : ℕ → Map → Map
  plus : Map → Map → Map

-- what a map makes of a word
abbrev pub act : Map → ℕ → ℕ
act same v = v
act (up k m) v = act m v * 2 ^ k % 2 ^ 64
act (down k m) v = act m v / 2 ^ k
act (low k m) v = act m v % 2 ^ k
act (plus m n) v = bit_xor (act m v) (act n v)
