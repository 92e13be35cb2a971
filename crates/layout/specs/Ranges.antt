-- The numbers that are in range: what a caller must hand in so that nothing is refused. Assumes nothing.
use Rattle.std.specs.Prelude.{◌≡◌, ℕ, ◌%◌, ◌<◌, ◌≤◌}
use Rattle.layout.specs.Arrays.{most_stripes, block_count}
use Rattle.layout.specs.declared.Array.{Array}

-- the array's own numbers are in range
pub record Sound (a : Array) : Type 0 where
  pub few : 3 ≤ a.members
  pub many : a.members ≤ 16
  pub some : 1 ≤ a.stripes
  pub most : a.stripes ≤ most_stripes
  pub method_least : 1 ≤ a.method
  pub method_most : a.method ≤ 3
  pub row_some : 1 ≤ a.row
  pub row_most : a.row ≤ 128
  pub row_power : 128 % a.row ≡ 0
  pub row_whole : a.stripes % a.row ≡ 0

-- and a stripe, a block, a place of it are
pub record SoundStripe (a : Array) (stripe : ℕ) : Type 0 where
  pub array : Sound a
  pub here : stripe < a.stripes

pub record SoundBlock (a : Array) (block : ℕ) : Type 0 where
  pub array : Sound a
  pub here : block < block_count a

pub record SoundPlace (a : Array) (s m : ℕ) : Type 0 where
  pub stripe : SoundStripe a s
  pub here : m < a.members
