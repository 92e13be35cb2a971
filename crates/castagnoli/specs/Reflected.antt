-- A cyclic redundancy check over bits whose register moves down: what stands at a place of it stands at the mirrored place of the register
-- of Crc.antt in crates/crc, which it is proved to mirror. Its width is that of its generator. Assumes nothing.
use Rattle.std.specs.Prelude.{List, [], ◌∷◌, ◌++◌, ℕ, zero, suc, ◌+◌, ◌*◌, ◌/◌, ◌%◌, ◌^◌}
use Rattle.std.specs.Int.Bits.{bit_xor}

-- the n low bits of x, the lowest first
unfoldable pub bits_up : ℕ → ℕ → List ℕ
bits_up zero x = []
bits_up (suc n) x = x % 2 ∷ bits_up n (x / 2)

-- the bits of a run of bytes, the lowest bit of each byte first
unfoldable pub bits_up_of : List ℕ → List ℕ
bits_up_of [] = []
bits_up_of (b ∷ bytes) = bits_up 8 b ++ bits_up_of bytes

-- one bit: the register moves down by one place, and where the bit that leaves it at the bottom differs from b, the generator is added
unfoldable pub step_down : ℕ → ℕ → ℕ → ℕ
step_down g r b = bit_xor (r / 2) (g * (bit_xor r b % 2))

-- the register r after some bits, the first first
unfoldable pub feed_down : ℕ → ℕ → List ℕ → ℕ
feed_down g r [] = r
feed_down g r (b ∷ bs) = feed_down g (step_down g r b) bs

-- the n low bits of x in the opposite order
unfoldable pub mirror : ℕ → ℕ → ℕ
mirror zero x = 0
mirror (suc n) x = x % 2 * 2 ^ n + mirror n (x / 2)
