-- Steps of the code, for the contracts of private functions: no promise of a public call and no theorem rests on these definitions.
-- Assumes nothing.
use Rattle.std.specs.Prelude.{ℕ, Bool, not, cond, List, eqb, length}
use Rattle.layout.specs.Answers.{refuse, after}
use Rattle.layout.specs.Places.{index_at, is_parity, owner_refusal}
use Rattle.layout.specs.declared.Array.{Array}
use Rattle.format.specs.Formats.{guard}
use Rattle.tag.specs.Blocks.{format_at}
use Rattle.tag.specs.Tags.{standing_at, tagged_by, tagged}
use Rattle.stripe.specs.Tables.{table, joined, part}
use Rattle.stripe.specs.Stripes.{stripe_length, block_of, others_good, others_data, guards_fit}
use Rattle.stripe.specs.Jobs.{with_block, guard_of_parts, replaced}

-- a data member's block, from its part of the data
abbrev pub data_block : Array → ℕ → List ℕ → ℕ → List ℕ
data_block a stripe bytes member = tagged a stripe member (guard_of_parts a bytes) (part (format_at a).data_length bytes (index_at a stripe member))

-- a stripe with the blocks of its data members written, and the parity's block as it was
unfoldable pub data_written : Array → ℕ → List ℕ → List ℕ → List ℕ
data_written a stripe bytes old =
    joined (table a.members (λ m. cond (is_parity a stripe m) (block_of (format_at a) old m) (data_block a stripe bytes m)))

-- how the members of a stripe in memory stand
unfoldable pub standings : Array → ℕ → List ℕ → List ℕ
standings a stripe bytes = table a.members (λ m. standing_at a stripe m (block_of (format_at a) bytes m))

-- the refusals of a rebuild before the data are made
unfoldable pub sources_refusal : Array → ℕ → ℕ → List ℕ → ℕ
sources_refusal a stripe member bytes =
    after (owner_refusal a stripe member)
    (refuse (not (eqb (length bytes) (stripe_length a))) 6 (refuse (not (others_good a stripe member bytes)) 9 0))

-- what the others' data combine to may be taken for what a member lost
abbrev pub fitting : Array → ℕ → ℕ → List ℕ → Bool
fitting a stripe member bytes = guards_fit a stripe member bytes (guard (format_at a) (others_data (format_at a) a.members member bytes))

-- the block at a place with new data, by itself; and the stripe after the first so many of the two stores of a replacement there
abbrev pub own_written : Array → ℕ → ℕ → List ℕ → List ℕ → List ℕ
own_written a stripe member new bytes = with_block (format_at a) bytes member (tagged_by a stripe member (guard (format_at a) new) new)

unfoldable pub replaced_in_part : Array → ℕ → ℕ → List ℕ → List ℕ → ℕ → List ℕ
replaced_in_part a stripe member new bytes stores = cond (eqb stores 0) bytes (cond (eqb stores 1) (own_written a stripe member new bytes) (replaced a stripe member new bytes))
