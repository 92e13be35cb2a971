-- Numbers as text. Assumes nothing.
use Rattle.std.specs.Prelude.{ℕ, ◌+◌, ◌/◌, ◌%◌, cond, List, [], ◌∷◌, ◌++◌, ltb}

-- the ASCII code of the lowest hexadecimal digit of n, in upper case
abbrev pub digit : ℕ → ℕ
digit n = cond (ltb (n % 16) 10) (48 + n % 16) (55 + n % 16)

-- the four lowest digits; the two lowest, after a blank
abbrev pub four_digits : ℕ → List ℕ
four_digits n = digit (n / 4096) ∷ digit (n / 256) ∷ digit (n / 16) ∷ digit n ∷ []

abbrev pub two_digits : ℕ → List ℕ
two_digits n = 32 ∷ digit (n / 16) ∷ digit n ∷ []

-- one line: what is given, and its guard
abbrev pub guard_line : List ℕ → ℕ → List ℕ
guard_line given guard = given ++ four_digits guard ++ (10 ∷ [])
