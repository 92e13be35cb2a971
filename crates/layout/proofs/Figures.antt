-- Places in rows of four and of one, computed; and which row lengths are refused. Assumes nothing.
use Rattle.std.proofs.Common.{◌≡◌, [], ◌∷◌, refl}
use Rattle.layout.specs.Arrays.{array_of, array_refusal, block_refusal, stripe_refusal}
use Rattle.layout.specs.Places.{parity_member, lowest_block, block_at, stripe_of, index_of, member_at, index_at, block_named, place_numbers, owner_refusal, owner_numbers}
use Rattle.layout.specs.declared.Array.{Array}

abbrev in_fours : Array
in_fours = array_of 5 8 0 2 4

-- blocks 0 to 3 on member 1 in stripes 0 to 3, 4 on member 2 in stripe 0; the parity moves to member 1 at stripe 4, whose lowest block is 16
pub fours : (place_numbers in_fours 0 ≡ 1 ∷ 0 ∷ 0 ∷ 1 ∷ [])
    × (place_numbers in_fours 3 ≡ 1 ∷ 0 ∷ 3 ∷ 1 ∷ [])
    × (place_numbers in_fours 4 ≡ 1 ∷ 0 ∷ 0 ∷ 2 ∷ [])
    × (place_numbers in_fours 16 ≡ 1 ∷ 0 ∷ 4 ∷ 0 ∷ [])
    × (place_numbers in_fours 31 ≡ 1 ∷ 0 ∷ 7 ∷ 4 ∷ [])
    × (place_numbers in_fours 32 ≡ 0 ∷ 3 ∷ 0 ∷ 0 ∷ [])
unfolding place_numbers block_refusal array_refusal stripe_of index_of member_at parity_member
fours = (refl, refl, refl, refl, refl, refl)

pub fours-back : (owner_numbers in_fours 3 0 ≡ 1 ∷ 0 ∷ 1 ∷ 3 ∷ []) × (owner_numbers in_fours 3 1 ≡ 1 ∷ 0 ∷ 0 ∷ 3 ∷ [])
    × (owner_numbers in_fours 4 1 ≡ 1 ∷ 0 ∷ 1 ∷ 16 ∷ []) × (owner_numbers in_fours 7 4 ≡ 1 ∷ 0 ∷ 0 ∷ 31 ∷ [])
unfolding owner_numbers owner_refusal stripe_refusal array_refusal block_named block_at lowest_block index_at parity_member
fours-back = (refl, refl, refl, refl)

-- the method first; a row of three, of sixteen in eight stripes, of none
pub rows_refused : (array_refusal (array_of 5 8 0 4 3) ≡ 12) × (array_refusal (array_of 5 8 0 2 3) ≡ 13) × (array_refusal (array_of 5 8 0 2 16) ≡ 13)
    × (array_refusal (array_of 5 8 0 2 0) ≡ 13) × (array_refusal (array_of 5 8 0 2 8) ≡ 0) × (array_refusal (array_of 5 128 0 2 128) ≡ 0)
unfolding array_refusal
rows_refused = (refl, refl, refl, refl, refl, refl)
