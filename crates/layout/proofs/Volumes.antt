-- A volume moves nothing: which places are the parity's, and by which block a place is named, do not depend on it. Assumes nothing.
use Rattle.std.proofs.Common.{◌≡◌, ℕ, refl}
use Rattle.layout.specs.Arrays.{array_of}
use Rattle.layout.specs.Places.{parity_member, lowest_block, block_at, index_at, is_parity, block_named}

module _ (members stripes v w method row stripe member : ℕ) where
  pub parity_any_volume : is_parity (array_of members stripes v method row) stripe member ≡ is_parity (array_of members stripes w method row) stripe member
  unfolding parity_member
  parity_any_volume = refl

  pub named_any_volume : block_named (array_of members stripes v method row) stripe member ≡ block_named (array_of members stripes w method row) stripe member
  unfolding block_named lowest_block block_at index_at parity_member
  named_any_volume = refl
