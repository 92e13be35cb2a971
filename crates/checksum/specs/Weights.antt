-- A second way to say what the sum is, which the definition of Checksum.antt is proved to agree with: the words, each with its weight, in one
-- number, reduced by 65,535. Assumes nothing.
use Rattle.std.specs.Prelude.{List, [], ◌∷◌, ℕ, zero, suc, ◌+◌, ◌*◌, ◌%◌, ◌^◌, length}

-- the last word counts once, and each before it twice as much as the one after
unfoldable pub weighted : List ℕ → ℕ
weighted [] = 0
weighted (w ∷ ws) = w * 2 ^ length ws + weighted ws

-- the same from a number s on, which counts twice as much as the first word
unfoldable pub made : ℕ → List ℕ → ℕ
made s [] = s
made s (w ∷ ws) = made (s * 2 + w) ws

-- 0 for 0; else the number from 1 to 65,535 that differs by a multiple of 65,535
unfoldable pub reduced : ℕ → ℕ
reduced zero = 0
reduced (suc n) = suc (n % 65535)
