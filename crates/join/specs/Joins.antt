-- Guards worked out from guards and lengths alone, without the bytes. Assumes nothing.
use Rattle.std.specs.Prelude.{List, [], ◌∷◌, ℕ}
use Rattle.std.specs.Int.Bits.{bit_xor}
use Rattle.crc.specs.Guard.{generator, run}
use Rattle.join.specs.Remainders.{squares, scaled}

-- one zero byte takes a register r to r times x ^ 8; and what takes that off again
abbrev pub byte_factor : ℕ
byte_factor = run 1 (0 ∷ [])

abbrev pub byte_inverse : ℕ
byte_inverse = 0xFA6C

-- the factors of 1, 2, 4 .. 2 ^ 31 zero bytes, and their inverses
unfoldable pub factors : List ℕ
factors = squares 16 generator 32 byte_factor

unfoldable pub inverses : List ℕ
inverses = squares 16 generator 32 byte_inverse

-- the guard of a run with n zero bytes after it, from the run's guard
unfoldable pub add_zeros : ℕ → ℕ → ℕ
add_zeros guard n = scaled 16 generator factors guard n

-- the guard of a run before n zero bytes were added to it, from the guard afterwards
unfoldable pub remove_zeros : ℕ → ℕ → ℕ
remove_zeros guard n = scaled 16 generator inverses guard n

-- the guard of two equally long runs combined, from their guards
abbrev pub combine : ℕ → ℕ → ℕ
combine a b = bit_xor a b

-- the guard of two runs joined, from their guards and the length of the second
unfoldable pub join : ℕ → ℕ → ℕ → ℕ
join a b lengthOfB = combine (add_zeros a lengthOfB) b

-- what is kept of a run
pub record Piece : Type 0 where
  pub guard : ℕ
  pub length : ℕ

-- the guard of many runs joined, the first first, onto one whose guard is a
unfoldable pub join_all : ℕ → List Piece → ℕ
join_all a [] = a
join_all a (p ∷ ps) = join_all (join a p.guard p.length) ps
