-- Words of 64 bits as polynomials, the lowest bit first: what the division by the generator leaves of them, and registers moved on.
-- Assumes nothing.
use Rattle.std.specs.Prelude.{List, [], ◌∷◌, ℕ, ◌/◌, ◌^◌, replicate}
use Rattle.std.specs.Int.Bits.{bit_xor}
use Rattle.castagnoli.specs.Reflected.{bits_up, feed_down}
use Rattle.castagnoli.specs.Castagnoli.{generator}

-- what the bits of a word make of a register 0
unfoldable pub rest : ℕ → ℕ
rest v = feed_down generator 0 (bits_up 64 v)

-- what the low 32 bits of a number make of a register 0
unfoldable pub half : ℕ → ℕ
half x = feed_down generator 0 (bits_up 32 x)

-- a register moved on by s bits 0
unfoldable pub on : ℕ → ℕ → ℕ
on s r = feed_down generator r (replicate s 0)

-- the same, and another added
abbrev pub after : ℕ → ℕ → ℕ → ℕ
after s r q = bit_xor (on s r) q

-- a register moved on by each of some numbers of bits, and all added
unfoldable pub ons : List ℕ → ℕ → ℕ
ons [] r = 0
ons (s ∷ ss) r = bit_xor (on s r) (ons ss r)

-- a word moved down by each of some numbers of bits, and all added to another
abbrev pub downs : ℕ → List ℕ → ℕ → ℕ
downs v [] h = v
downs v (s ∷ ss) h = downs (bit_xor v (h / 2 ^ s)) ss h

-- what four words come to that stand 64 bits apart
abbrev pub quad : ℕ → ℕ → ℕ → ℕ → ℕ
quad x y z w = after 64 (after 128 x z) (after 128 y w)
