-- The rules of the two tables, each computed over the whole table: the first entry, each entry the square of the one before, each
-- factor times its inverse 1. Assumes nothing.
use mathlib.Core.Path.{◌≡◌, refl}
use mathlib.Core.List.{map}
use Prim.Native.Nat.{ℕ}
use lib.ListN.{length, get_or, take, drop, replicate}
use Rattle.crc.specs.Crc.{bit_step, bits, bits_of, feed}
use Rattle.crc.specs.Guard.{generator, run}
use Rattle.join.specs.Remainders.{horner, product, squares, chosen, scaled}
use Rattle.join.specs.Joins.{factors, inverses}
use Rattle.join.proofs.Scaling.{products}

-- the square of a remainder
abbrev square : ℕ → ℕ
square f = product 16 generator f f

pub length-factors : length factors ≡ 32
unfolding factors squares
length-factors = refl

pub length-inverses : length inverses ≡ 32
unfolding inverses squares
length-inverses = refl

-- x ^ 8
pub first_factor : get_or factors 0 0 ≡ 0x0100
unfolding factors squares run feed bits_of bits bit_step
first_factor = refl

pub factors_squared : drop 1 factors ≡ map square (take 31 factors)
unfolding factors squares product horner run feed bits_of bits bit_step
factors_squared = refl

pub inverses_squared : drop 1 inverses ≡ map square (take 31 inverses)
unfolding inverses squares product horner bit_step
inverses_squared = refl

pub factors_undone : products 16 generator factors inverses ≡ replicate 32 1
unfolding products factors inverses squares product horner run feed bits_of bits bit_step
factors_undone = refl

pub inverses_undone : products 16 generator inverses factors ≡ replicate 32 1
unfolding products factors inverses squares product horner run feed bits_of bits bit_step
inverses_undone = refl

-- the powers of x come round: x ^ (8 * 65535) is 1
pub one_round : scaled 16 generator factors 1 65535 ≡ 1
unfolding scaled chosen factors squares product horner run feed bits_of bits bit_step
one_round = refl
