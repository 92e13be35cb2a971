-- A stripe in memory: the blocks of its members, one after the other. Assumes nothing.
use Rattle.std.specs.Prelude.{ℕ, ◌*◌, ◌<◌, ◌≡◌, Bool, not, cond, ◌&&◌, ◌||◌, List, [], eqb, length, get_or, replicate}
use Rattle.xor.specs.Xors.{combination}
use Rattle.crc.specs.Crc.{Bytes}
use Rattle.layout.specs.Places.{is_parity}
use Rattle.layout.specs.declared.Array.{Array}
use Rattle.format.specs.Formats.{Format, guard}
use Rattle.tag.specs.Blocks.{format_at, data_of, tag_of}
use Rattle.tag.specs.Tags.{found, good}
use Rattle.verdict.specs.Verdicts.{combined_guards}
use Rattle.stripe.specs.Tables.{table, others, all, part}

-- how many bytes a stripe has
abbrev pub stripe_length : Array → ℕ
stripe_length a = (format_at a).block_length * a.members

-- a member's block
abbrev pub block_of : Format → List ℕ → ℕ → List ℕ
block_of F bytes member = part F.block_length bytes member

-- the data of n members, in member order
abbrev pub member_data : Format → ℕ → List ℕ → List (List ℕ)
member_data F n bytes = table n (λ m. data_of F (block_of F bytes m))

-- which members are good
abbrev pub good_members : Array → ℕ → List ℕ → List Bool
good_members a stripe bytes = table a.members (λ m. good a stripe m (block_of (format_at a) bytes m))

-- every member but one is good, and what their data combine to
unfoldable pub others_good : Array → ℕ → ℕ → List ℕ → Bool
others_good a stripe member bytes = all (others member (good_members a stripe bytes))

unfoldable pub others_data : Format → ℕ → ℕ → List ℕ → List ℕ
others_data F n member bytes = combination F.data_length (others member (member_data F n bytes))

-- the number in a block's guard bytes as they stand; those of n members, in member order; and what all but one combine to
abbrev pub stored_guard : Format → List ℕ → ℕ
stored_guard F block = (found F (tag_of F block)).guard

abbrev pub stored_guards : Format → ℕ → List ℕ → List ℕ
stored_guards F n bytes = table n (λ m. stored_guard F (block_of F bytes m))

unfoldable pub others_guards : Format → ℕ → ℕ → List ℕ → ℕ
others_guards F n member bytes = combined_guards (others member (stored_guards F n bytes))

-- what is left of guards that are carried, all together; of others nothing is asked
abbrev pub left_of : Format → List ℕ → ℕ
left_of F guards = cond F.carries (combined_guards guards) 0

-- data of this guard may be taken for those that a member lost: where the parity carries the data members' guards, a data member's guard is the
-- one that the others' leave
unfoldable pub guards_fit : Array → ℕ → ℕ → List ℕ → ℕ → Bool
guards_fit a stripe member bytes own =
    not (format_at a).carries || is_parity a stripe member || eqb (others_guards (format_at a) a.members member bytes) own

-- a member's block can be made again from the others: they are good, and what their data combine to may be taken for what was lost
unfoldable pub recoverable : Array → ℕ → ℕ → List ℕ → Bool
recoverable a stripe member bytes =
    others_good a stripe member bytes && guards_fit a stripe member bytes (guard (format_at a) (others_data (format_at a) a.members member bytes))

-- parity is right: the data of all n members combine to zero
abbrev pub Parity : Format → ℕ → List ℕ → Type 0
Parity F n bytes = combination F.data_length (member_data F n bytes) ≡ replicate F.data_length 0

-- and so are the guards that it carries
abbrev pub Settled : Format → ℕ → List ℕ → Type 0
Settled F n bytes = left_of F (stored_guards F n bytes) ≡ 0

-- whole blocks of bytes, as many as the array has members
pub record Whole (a : Array) (blocks : List (List ℕ)) : Type 0 where
  pub all_there : length blocks ≡ a.members
  pub long : (i : ℕ) → i < length blocks → length (get_or blocks i []) ≡ (format_at a).block_length
  pub bytes : (i : ℕ) → Bytes (get_or blocks i [])
