-- Where a block lies. The parity moves up by one member from row to row of c stripes, and the data stand on the other members
-- in order: the layout that Linux md calls right-asymmetric, with a chunk of c blocks. At c = 1 a row is a stripe.
-- Assumes nothing.
use Rattle.std.specs.Prelude.{◌≡◌, ℕ, ◌+◌, ◌-◌, ◌*◌, ◌/◌, ◌%◌, ◌^◌, ◌<◌, Bool, cond, List, [], ◌∷◌, ◌==◌, nat_lt, Result, Ok, Err}
use Rattle.layout.specs.Answers.{or_past, answer}
use Rattle.layout.specs.Arrays.{data_members, stripe_refusal, block_refusal}
use Rattle.layout.specs.declared.Array.{Array}
use Rattle.layout.specs.declared.Seat.{Seat}
use Rattle.layout.specs.declared.Placed.{Placed}
use Rattle.layout.specs.declared.Owned.{Owned}
use Rattle.layout.specs.declared.Owned.TheVariants.{Parity, Data}
use Rattle.refusal.specs.Refusals.{number}
use Rattle.refusal.specs.declared.Refusal.{Refusal}

-- with g = stripe / c and k = stripe % c: the parity stays on a member for the c stripes of one g
unfoldable pub parity_member : Array → ℕ → ℕ
parity_member a stripe = stripe / a.row % a.members

-- the lowest block number in a stripe, g x d x c + k, and the one at a data index: c successive blocks lie on one member
unfoldable pub lowest_block : Array → ℕ → ℕ
lowest_block a stripe = stripe / a.row * data_members a * a.row + stripe % a.row

unfoldable pub block_at : Array → ℕ → ℕ → ℕ
block_at a stripe index = lowest_block a stripe + index * a.row

-- the stripe of a block, and its data index there
unfoldable pub stripe_of : Array → ℕ → ℕ
stripe_of a block = block / a.row / data_members a * a.row + block % a.row

unfoldable pub index_of : Array → ℕ → ℕ
index_of a block = block / a.row % data_members a

-- the lowest block of a stripe, of any numbers: of the row forty bits count, and of the data members four, so that the product fits sixty-four.
-- In a stripe of the array nothing is cut (`lowest_uncut`)
unfoldable pub lowest_cut : Array → ℕ → ℕ
lowest_cut a stripe = stripe / a.row % 1099511627776 * (data_members a % 16) * a.row + stripe % a.row

-- what a stripe is found by: the member of its parity, and its lowest block
abbrev pub seat_of : Array → ℕ → Seat
seat_of a stripe = record { parity = parity_member a stripe; lowest = lowest_cut a stripe }

-- the member at a data index: the indices step over the parity member; and the index at a member that is not the parity's,
unfoldable pub member_at : Array → ℕ → ℕ → ℕ
member_at a stripe index = cond (nat_lt index (parity_member a stripe)) index (index + 1)

-- told by the member that holds the parity
abbrev pub index_beside : ℕ → ℕ → ℕ
index_beside parity member = cond (nat_lt member parity) member (member - 1)

unfoldable pub index_at : Array → ℕ → ℕ → ℕ
index_at a stripe member = index_beside (parity_member a stripe) member

-- the member of a block
abbrev pub member_of : Array → ℕ → ℕ
member_of a block = member_at a (stripe_of a block) (index_of a block)

-- ---- place, in numbers: the stripe and the member

abbrev pub placed_numbers : Result Placed Refusal → List ℕ
placed_numbers (Err refusal) = 0 ∷ number refusal ∷ 0 ∷ 0 ∷ []
placed_numbers (Ok placed) = 1 ∷ 0 ∷ placed.stripe ∷ placed.member ∷ []

unfoldable pub place_numbers : Array → ℕ → List ℕ
place_numbers a block = answer (block_refusal a block) (stripe_of a block ∷ member_of a block ∷ [])

-- ---- owner, in numbers: 1 where the place is the parity's, and the block number there (the lowest of the stripe, for the parity)

abbrev pub owned_numbers : Result Owned Refusal → List ℕ
owned_numbers (Err refusal) = 0 ∷ number refusal ∷ 0 ∷ 0 ∷ []
owned_numbers (Ok (Parity lowest)) = 1 ∷ 0 ∷ 1 ∷ lowest ∷ []
owned_numbers (Ok (Data block)) = 1 ∷ 0 ∷ 0 ∷ block ∷ []

-- the same by the row length and what a stripe is found by, whatever these are: of an index the lowest byte counts, and of a block number
-- sixty-four bits. With a stripe's own, on one of its members, it is the owner (`beside_owner`)
unfoldable pub beside_numbers : ℕ → Seat → ℕ → List ℕ
beside_numbers row seat member =
    cond (member == seat.parity) (1 ∷ 0 ∷ 1 ∷ seat.lowest ∷ [])
    (1 ∷ 0 ∷ 0 ∷ (seat.lowest + index_beside seat.parity member % 256 * row) % 2 ^ 64 ∷ [])

unfoldable pub owner_refusal : Array → ℕ → ℕ → ℕ
owner_refusal a stripe member = or_past (stripe_refusal a stripe) member a.members 5

abbrev pub is_parity : Array → ℕ → ℕ → Bool
is_parity a stripe member = member == parity_member a stripe

-- the block number that a place is named by: its own, and the lowest of its stripe for the parity
unfoldable pub block_named : Array → ℕ → ℕ → ℕ
block_named a stripe member = cond (is_parity a stripe member) (lowest_block a stripe) (block_at a stripe (index_at a stripe member))

unfoldable pub owner_numbers : Array → ℕ → ℕ → List ℕ
owner_numbers a stripe member =
    answer (owner_refusal a stripe member) (cond (is_parity a stripe member) 1 0 ∷ block_named a stripe member ∷ [])

-- ---- a place holds one block of the array, and no second

pub record OneBlock (a : Array) (stripe member : ℕ) : Type 0 where
  pub block : ℕ
  pub good : block_refusal a block ≡ 0
  pub in_stripe_lem : stripe_of a block ≡ stripe
  pub on_member : member_of a block ≡ member
  pub only : (other : ℕ) → stripe_of a other ≡ stripe → member_of a other ≡ member → other ≡ block

-- ---- a block number is some stripe's, at some data index

pub record Held (a : Array) (block : ℕ) : Type 0 where
  pub stripe : ℕ
  pub index : ℕ
  pub in_array : stripe < a.stripes
  pub of_data : index < data_members a
  pub this : block_at a stripe index ≡ block
