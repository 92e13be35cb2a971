-- Remainders of a division by the generator, multiplied: at any width w and any generator g, written as in Crc.antt. A remainder is a
-- register, and r moved on by a bit 0 is r times x. Assumes nothing.
use Rattle.std.specs.Prelude.{List, [], ◌∷◌, ℕ, zero, suc, ◌*◌, ◌/◌, ◌%◌, ◌^◌}
use Rattle.std.specs.Int.Bits.{bit_xor}
use Rattle.crc.specs.Crc.{bit_step}

-- r times x ^ n, plus a times the polynomial of the n low digits of b: digit by digit, the highest first
unfoldable pub horner : ℕ → ℕ → ℕ → ℕ → ℕ → ℕ → ℕ
horner w g a b zero r = r
horner w g a b (suc n) r = horner w g a b n (bit_xor (bit_step w g r 0) (a * (b / 2 ^ n % 2)))

-- the product of the remainders a and b
unfoldable pub product : ℕ → ℕ → ℕ → ℕ → ℕ
product w g a b = horner w g a b w 0

-- f, its square, the square of that: n of them
unfoldable pub squares : ℕ → ℕ → ℕ → ℕ → List ℕ
squares w g zero f = []
squares w g (suc n) f = f ∷ squares w g n (product w g f f)

-- r where the digit is 0, else r times f
unfoldable pub chosen : ℕ → ℕ → ℕ → ℕ → ℕ → ℕ
chosen w g r f zero = r
chosen w g r f (suc d) = product w g r f

-- r times each factor whose binary digit in n is one: the first factor goes by the lowest digit
unfoldable pub scaled : ℕ → ℕ → List ℕ → ℕ → ℕ → ℕ
scaled w g [] r n = r
scaled w g (f ∷ fs) r n = scaled w g fs (chosen w g r f (n % 2)) (n / 2)
