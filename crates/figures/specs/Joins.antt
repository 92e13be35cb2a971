-- Worked rows of the joins, and below them the proof that the definitions give them.
-- Assumes nothing.
use Rattle.std.specs.Prelude.{◌≡◌, refl, [], ◌∷◌, ℕ}
use Rattle.crc.specs.Crc.{bits, bits_of, bit_step, feed}
use Rattle.crc.specs.Guard.{run}
use Rattle.join.specs.Remainders.{horner, product, squares, chosen, scaled}
use Rattle.join.specs.Joins.{factors, inverses, add_zeros, remove_zeros, join, Piece, join_all}

-- a block of 512 bytes with the guard g
abbrev block : ℕ → Piece
block g = record { guard = g; length = 512 }

pub record Joins : Type 0 where
  pub two_blocks : join_all 0 (block 0x8BB7 ∷ block 0x9CD9 ∷ []) ≡ 0xB73A
  pub three-blocks : join_all 0 (block 0x8BB7 ∷ block 0x9CD9 ∷ block 0x176E ∷ []) ≡ 0xF42E
  pub most_added : add_zeros 0xD0DB 4294967295 ≡ 0xD0DB
  pub most_removed : remove_zeros 0xD0DB 4294967295 ≡ 0xD0DB
  pub one_fewer_added : add_zeros 0xD0DB 4294967294 ≡ 0x7D23
  pub one_fewer_removed : remove_zeros 0x7D23 4294967294 ≡ 0xD0DB

pub joins : Joins
unfolding join_all join add_zeros remove_zeros factors inverses squares scaled chosen product horner run feed bits_of bits bit_step
joins =
    record {
      two_blocks = refl;
      three-blocks = refl;
      most_added = refl;
      most_removed = refl;
      one_fewer_added = refl;
      one_fewer_removed = refl;
    }
