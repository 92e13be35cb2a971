-- A cyclic redundancy check over bits, at any width w and any generator g. The generator is written without its highest term: its
-- polynomial is x ^ w and the terms of g. A bit is 0 or 1, a register below 2 ^ w. Assumes nothing.
use Rattle.std.specs.Prelude.{◌≡◌, List, [], ◌∷◌, ◌++◌, ℕ, zero, suc, ◌+◌, ◌*◌, ◌/◌, ◌%◌, ◌^◌, ◌≤◌, ◌<◌, get_or}
use Rattle.std.specs.Int.Bits.{bit_xor}

-- the n low bits of x, the highest first
unfoldable pub bits : ℕ → ℕ → List ℕ
bits zero x = []
bits (suc n) x = x / 2 ^ n % 2 ∷ bits n x

-- the bits of a run of bytes, the highest bit of each byte first
unfoldable pub bits_of : List ℕ → List ℕ
bits_of [] = []
bits_of (b ∷ bytes) = bits 8 b ++ bits_of bytes

-- one bit: the register moves up by one place, and where the bit that leaves it at the top differs from b, the generator is added
unfoldable pub bit_step : ℕ → ℕ → ℕ → ℕ → ℕ
bit_step w g r b = bit_xor (r * 2 % 2 ^ w) (g * (bit_xor (r * 2 / 2 ^ w) b % 2))

-- the register r after some bits, the first first
unfoldable pub feed : ℕ → ℕ → ℕ → List ℕ → ℕ
feed w g r [] = r
feed w g r (b ∷ bs) = feed w g (bit_step w g r b) bs

-- every element is a byte
abbrev pub Bytes : List ℕ → Type 0
Bytes a = (k : ℕ) → get_or a k 0 < 256

-- two lists of bits differ only within n successive places: from the place `from` on, counted from 0
pub record Within (n : ℕ) (a b : List ℕ) : Type 0 where
  pub from : ℕ
  pub before : (k : ℕ) → k < from → get_or a k 0 ≡ get_or b k 0
  pub after : (k : ℕ) → from + n ≤ k → get_or a k 0 ≡ get_or b k 0
