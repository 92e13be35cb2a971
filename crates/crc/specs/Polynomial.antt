-- Bits as polynomials over the field of two elements, and division there: a second way to say what a check is, which the definition of
-- Crc.antt is proved to agree with. A number stands for the polynomial whose coefficient of x ^ k is its binary digit k; `bit_xor` is
-- the sum. Assumes nothing.
use Rattle.std.specs.Prelude.{◌≡◌, List, [], ◌∷◌, ℕ, ◌+◌, ◌*◌, ◌^◌, ◌<◌, length, get_or}
use Rattle.std.specs.Int.Bits.{bit_xor}

-- the polynomial whose coefficients are l, the highest first
unfoldable pub value : List ℕ → ℕ
value [] = 0
value (b ∷ l) = b * 2 ^ length l + value l

-- the product of the polynomial with the coefficients q, the highest first, and p
unfoldable pub times : List ℕ → ℕ → ℕ
times [] p = 0
times (b ∷ q) p = bit_xor (b * p * 2 ^ length q) (times q p)

-- r is what the division of m by x ^ w and the terms of g leaves
pub record Remainder (w g m r : ℕ) : Type 0 where
  pub quotient : List ℕ
  pub digits : (k : ℕ) → get_or quotient k 0 < 2
  pub below : r < 2 ^ w
  pub whole : m ≡ bit_xor (times quotient (2 ^ w + g)) r
