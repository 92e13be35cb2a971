-- What one kind of block is: its lengths, and its guard as a machine over bytes. Everything above speaks of any format. Assumes nothing.
use Rattle.std.specs.Prelude.{◌≡◌, Bool, false, cond, List, [], ◌∷◌, ◌++◌, ℕ, zero, suc, ◌+◌, ◌*◌, ◌/◌, ◌%◌, ◌^◌, ◌≤◌, ◌<◌, length, take, drop, replicate}
use Rattle.std.specs.Int.Bits.{bit_xor}
use Rattle.xor.specs.Xors.{xors}

-- the most bytes that a block's data have in any format, and the tags of sixteen blocks
abbrev pub most_data : ℕ
most_data = 4096

abbrev pub most_tags : ℕ
most_tags = 256

-- sixteen blocks of any format
abbrev pub most_stripe : ℕ
most_stripe = 65792

-- the bytes of a piece: the data of every format are whole pieces
abbrev pub piece_length : ℕ
piece_length = 512

-- the lengths of a block's data and tag; the guard: a register, where it starts, how it goes on over bytes from a position of the
-- block, and the guard that it gives at the end; and the laws that every format keeps
pub record Format : Type 0 where
  pub data_length : ℕ
  pub tag_length : ℕ
  pub block_length : ℕ
  -- a quarter of the tag: the bytes of its guard, of its application tag, half of those of its reference tag
  pub quarter : ℕ
  -- what an application tag of two bytes is counted in
  pub scale : ℕ
  -- registers are below this
  pub limit : ℕ
  pub start : ℕ
  pub advance : ℕ → ℕ → List ℕ → ℕ
  pub guard_of : ℕ → ℕ
  -- the bits of a run in the order in which the guard takes them, and how many successive ones may hold a change that it always notices
  pub bits : List ℕ → List ℕ
  pub reach : ℕ
  -- whether the parity's tag holds what the data members' guards combine to; else it holds the guard of its own data
  pub carries : Bool
  -- whether a byte may wait for its pair where so many bytes of a block were taken
  pub waits : ℕ → Bool
  pub advance-nil : (at r : ℕ) → advance at r [] ≡ r
  pub advance-joined : (at r : ℕ) (a b : List ℕ) → advance at r (a ++ b) ≡ advance (at + length a) (advance at r a) b
  pub start_small : start < limit
  pub advance_small : (at r : ℕ) (bytes : List ℕ) → r < limit → advance at r bytes < limit
  pub limit-most : limit ≤ 256 * 256 ^ quarter
  pub none-waits : (bytes : List ℕ) → waits (length bytes) ≡ false → advance 0 start (take data_length bytes) < 256 ^ quarter
  pub guard_small : (bytes : List ℕ) → guard_of (advance 0 start bytes) < 256 ^ quarter
  pub block_parts : block_length ≡ data_length + tag_length
  pub tag_quarters : tag_length ≡ 4 * quarter
  pub data_most : data_length ≤ most_data
  pub data_pieces : data_length % piece_length ≡ 0
  pub quarter_least : 2 ≤ quarter
  pub quarter-most : 64 * quarter ≤ most_tags
  pub scaled : 65536 * scale ≡ 256 ^ quarter

module _ (F : Format) where
  -- the guard of a block's data
  unfoldable pub guard : List ℕ → ℕ
  guard bytes = F.guard_of (F.advance 0 F.start bytes)

  -- that of a block of zeros
  abbrev pub blank : ℕ
  blank = guard (replicate F.data_length 0)

  -- that for an odd count, and nothing for an even one
  unfoldable pub spare : ℕ → ℕ
  spare count = blank * (count % 2)

  -- what the guards in the tags of so many members combine to where their data combine to zero: nothing, or, of an odd number of guards of
  -- data, that of a block of zeros
  unfoldable pub settled : ℕ → ℕ
  settled members = cond F.carries 0 (spare members)

  -- the reference tag of a block number: as many of its low bytes as the field has
  unfoldable pub reference_of : ℕ → ℕ
  reference_of block = block % 256 ^ (2 * F.quarter)

  -- a register as a state keeps it: as many bits as a guard has, and the byte that waits above them
  abbrev pub value_in : ℕ → ℕ
  value_in r = r % 256 ^ F.quarter

  abbrev pub waiting_in : ℕ → ℕ
  waiting_in r = r / 256 ^ F.quarter % 256

  abbrev pub register_from : ℕ → ℕ → ℕ
  register_from value waiting = value + 256 ^ F.quarter * waiting

  -- guards combine, up to that of a block of zeros
  abbrev pub Combines : Type 0
  Combines = (a b : List ℕ) → length a ≡ F.data_length → length b ≡ F.data_length → guard (xors a b) ≡ bit_xor (bit_xor (guard a) (guard b)) blank

  -- the guards of n runs of data, each `stride` bytes after the one before; what lies past the end has no bytes
  unfoldable pub guards_of : ℕ → ℕ → List ℕ → List ℕ
  guards_of zero stride bytes = []
  guards_of (suc n) stride bytes = guard (take F.data_length bytes) ∷ guards_of n stride (drop stride bytes)
