-- The bench table: figures agreed beforehand, a line each, and below it the proof that the definitions give them.
-- Assumes nothing.
use Rattle.std.specs.Prelude.{◌≡◌, refl, List, [], ◌∷◌, ℕ}
use Rattle.xor.specs.Xors.{xors, add_all, combination}
use Rattle.crc.specs.Crc.{bits, bits_of, bit_step, feed}
use Rattle.crc.specs.Guard.{run, guard}
use Rattle.format.specs.Formats.{reference_of}
use Rattle.format.specs.Methods.{format_of}
use Rattle.layout.specs.Arrays.{array_of, most_stripes, array_refusal, block_refusal}
use Rattle.layout.specs.Places.{parity_member, lowest_block, block_at, stripe_of, index_of, member_at, index_at, block_named, place_numbers}
use Rattle.layout.specs.declared.Array.{Array}
use Rattle.tag.specs.Numbers.{bytes_of}
use Rattle.tag.specs.Tags.{reference_due}

-- a place that is answered: done, no refusal, the stripe, the member
abbrev done : ℕ → ℕ → List ℕ
done stripe member = 1 ∷ 0 ∷ stripe ∷ member ∷ []

-- five members, as many stripes as an array can have
abbrev pub five : Array
five = array_of 5 most_stripes 0 1 1

-- and of large blocks
abbrev pub large_five : Array
large_five = array_of 5 most_stripes 0 3 1

-- the same in eight stripes, in rows of four
abbrev pub fours : Array
fours = array_of 5 8 0 1 4

pub record Bench : Type 0 where
  pub guard_none : guard [] ≡ 0x0000
  pub guard_00 : guard (0x00 ∷ []) ≡ 0x0000
  pub guard_01 : guard (0x01 ∷ []) ≡ 0x8BB7
  pub guard_02 : guard (0x02 ∷ []) ≡ 0x9CD9
  pub guard_03 : guard (0x03 ∷ []) ≡ 0x176E
  pub guard_seventeen_bits : guard (0x01 ∷ 0x8B ∷ 0xB7 ∷ []) ≡ 0x0000
  pub guard_sixteen_bits : guard (0x01 ∷ 0x8B ∷ 0xB6 ∷ []) ≡ 0x8BB7
  pub place-first : place_numbers five 0 ≡ done 0 1
  pub place-last_of_stripe : place_numbers five 3 ≡ done 0 4
  pub place-next-stripe : place_numbers five 4 ≡ done 1 0
  pub place-past-parity : place_numbers five 5 ≡ done 1 2
  pub place-below_sixteen_bits : place_numbers five 65535 ≡ done 16383 4
  pub place_above_sixteen_bits : place_numbers five 65536 ≡ done 16384 0
  pub reference_above_sixteen_bits : bytes_of 4 (reference_due five 16384 0) ≡ 0x00 ∷ 0x01 ∷ 0x00 ∷ 0x00 ∷ []
  pub place-below_thirty_two_bits : place_numbers five 4294967295 ≡ done 1073741823 4
  pub place_above_thirty_two_bits : place_numbers five 4294967296 ≡ done 1073741824 0
  pub reference_below_thirty_two_bits : bytes_of 4 (reference_due five 1073741823 4) ≡ 0xFF ∷ 0xFF ∷ 0xFF ∷ 0xFF ∷ []
  pub reference_above_thirty_two_bits : bytes_of 4 (reference_due five 1073741824 0) ≡ 0x00 ∷ 0x00 ∷ 0x00 ∷ 0x00 ∷ []
  pub large_reference_above : bytes_of 8 (reference_due large_five 1073741824 0) ≡ 0x00 ∷ 0x00 ∷ 0x00 ∷ 0x01 ∷ 0x00 ∷ 0x00 ∷ 0x00 ∷ 0x00 ∷ []
  pub place_in_row : place_numbers fours 3 ≡ done 3 1
  pub place-next_member : place_numbers fours 4 ≡ done 0 2
  pub place-next_row : place_numbers fours 16 ≡ done 4 0
  pub place-last_of_rows : place_numbers fours 31 ≡ done 7 4
  pub combined : combination 1 ((0x9 ∷ []) ∷ (0x4 ∷ []) ∷ (0x8 ∷ []) ∷ (0xC ∷ []) ∷ []) ≡ 0x9 ∷ []

pub bench : Bench
unfolding guard run feed bits_of bits bit_step add_all xors place_numbers block_refusal array_refusal stripe_of index_of member_at parity_member reference_due format_of reference_of block_named lowest_block block_at index_at bytes_of
bench =
    record {
      guard_none = refl;
      guard_00 = refl;
      guard_01 = refl;
      guard_02 = refl;
      guard_03 = refl;
      guard_seventeen_bits = refl;
      guard_sixteen_bits = refl;
      place-first = refl;
      place-last_of_stripe = refl;
      place-next-stripe = refl;
      place-past-parity = refl;
      place-below_sixteen_bits = refl;
      place_above_sixteen_bits = refl;
      reference_above_sixteen_bits = refl;
      place-below_thirty_two_bits = refl;
      place_above_thirty_two_bits = refl;
      reference_below_thirty_two_bits = refl;
      reference_above_thirty_two_bits = refl;
      large_reference_above = refl;
      place_in_row = refl;
      place-next_member = refl;
      place-next_row = refl;
      place-last_of_rows = refl;
      combined = refl;
    }
