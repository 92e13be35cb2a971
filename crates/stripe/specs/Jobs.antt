-- The jobs on a whole stripe: for each its refusal number, its answer in numbers, and what every lent buffer holds afterwards.
-- At a refusal a buffer holds what it held. Assumes nothing.
use Rattle.std.specs.Prelude.{ℕ, ◌*◌, ◌≡◌, Bool, not, cond, ◌&&◌, List, [], ◌∷◌, eqb, length, Result, Ok, Err}
use Rattle.std.specs.Int.Bits.{bit_xor}
use Rattle.std.proofs.lemmas.List.Edits.{sets}
use Rattle.xor.specs.Xors.{xors, combination}
use Rattle.refusal.specs.Refusals.{number}
use Rattle.refusal.specs.declared.Refusal.{Refusal}
use Rattle.layout.specs.Answers.{refuse, after, answer}
use Rattle.layout.specs.Arrays.{data_members, stripe_refusal, block_refusal}
use Rattle.layout.specs.Places.{parity_member, stripe_of, member_of, index_at, is_parity, owner_refusal}
use Rattle.layout.specs.declared.Array.{Array}
use Rattle.format.specs.Formats.{Format, guard, settled}
use Rattle.tag.specs.Blocks.{format_at, data_of}
use Rattle.tag.specs.Tags.{standing_at, good, bad, kind_of, tagged}
use Rattle.stripe.specs.Tables.{table, joined, part}
use Rattle.verdict.specs.Verdicts.{combined_guards}
use Rattle.stripe.specs.Stripes.{stripe_length, block_of, others_data, stored_guard, stored_guards, others_guards, recoverable}
use Rattle.stripe.specs.declared.Reading.{Reading}
use Rattle.stripe.specs.declared.Reading.TheVariants.{Stored, Rebuilt, Unchecked}

-- a buffer after a call: changed where the call is done, as it was where it is refused
abbrev pub unless_refused : ℕ → List ℕ → List ℕ → List ℕ
unless_refused refusal new old = cond (eqb refusal 0) new old

-- a stripe with a member's block replaced
abbrev pub with_block : Format → List ℕ → ℕ → List ℕ → List ℕ
with_block F bytes member block = sets bytes (F.block_length * member) block

-- ---- seal: a whole stripe from its data

unfoldable pub seal_refusal : Array → ℕ → ℕ → ℕ → ℕ
seal_refusal a stripe dataBytes stripeBytes =
    after (stripe_refusal a stripe) (refuse (not (eqb dataBytes ((format_at a).data_length * data_members a) && eqb stripeBytes (stripe_length a))) 6 0)

-- the parity of the data, what the guards of its parts combine to, and the data that a member gets
abbrev pub parity_of : Array → List ℕ → List ℕ
parity_of a bytes = combination (format_at a).data_length (table (data_members a) (part (format_at a).data_length bytes))

abbrev pub guard_of_parts : Array → List ℕ → ℕ
guard_of_parts a bytes = combined_guards (table (data_members a) (λ i. guard (format_at a) (part (format_at a).data_length bytes i)))

abbrev pub sealed_data : Array → ℕ → List ℕ → ℕ → List ℕ
sealed_data a stripe bytes member = cond (is_parity a stripe member) (parity_of a bytes) (part (format_at a).data_length bytes (index_at a stripe member))

unfoldable pub sealed : Array → ℕ → List ℕ → List ℕ
sealed a stripe bytes = joined (table a.members (λ m. tagged a stripe m (guard_of_parts a bytes) (sealed_data a stripe bytes m)))

unfoldable pub seal_bytes : Array → ℕ → List ℕ → List ℕ → List ℕ
seal_bytes a stripe bytes old = unless_refused (seal_refusal a stripe (length bytes) (length old)) (sealed a stripe bytes) old

-- ---- read: a block's data, verified; stored, or rebuilt from the other members where the block is bad and they serve for it; the data of an
-- unchecked block as they stand

abbrev pub stored_good : Array → ℕ → ℕ → List ℕ → Bool
stored_good a stripe member bytes = good a stripe member (block_of (format_at a) bytes member)

abbrev pub stored_bad : Array → ℕ → ℕ → List ℕ → Bool
stored_bad a stripe member bytes = bad a stripe member (block_of (format_at a) bytes member)

-- of the block at a place: refusals 6 and 9, and the data that are served
unfoldable pub serve_refusal : Array → ℕ → ℕ → List ℕ → ℕ → ℕ
serve_refusal a stripe member bytes outBytes =
    refuse (not (eqb (length bytes) (stripe_length a) && eqb outBytes (format_at a).data_length)) 6
    (refuse (stored_bad a stripe member bytes && not (recoverable a stripe member bytes)) 9 0)

unfoldable pub served_data : Array → ℕ → ℕ → List ℕ → List ℕ
served_data a stripe member bytes = cond (stored_bad a stripe member bytes) (others_data (format_at a) a.members member bytes) (data_of (format_at a) (block_of (format_at a) bytes member))

unfoldable pub read_refusal : Array → ℕ → List ℕ → ℕ → ℕ
read_refusal a block bytes outBytes = after (block_refusal a block) (serve_refusal a (stripe_of a block) (member_of a block) bytes outBytes)

-- in numbers: 0 stored, 1 rebuilt, 2 unchecked, as the block stands good, bad or unchecked
unfoldable pub read_numbers : Array → ℕ → List ℕ → ℕ → List ℕ
read_numbers a block bytes outBytes =
    answer (read_refusal a block bytes outBytes) (kind_of (standing_at a (stripe_of a block) (member_of a block) (block_of (format_at a) bytes (member_of a block))) ∷ [])

abbrev pub reading_numbers : Result Reading Refusal → List ℕ
reading_numbers (Err refusal) = 0 ∷ number refusal ∷ 0 ∷ []
reading_numbers (Ok Stored) = 1 ∷ 0 ∷ 0 ∷ []
reading_numbers (Ok Rebuilt) = 1 ∷ 0 ∷ 1 ∷ []
reading_numbers (Ok Unchecked) = 1 ∷ 0 ∷ 2 ∷ []

unfoldable pub read_out : Array → ℕ → List ℕ → List ℕ → List ℕ
read_out a block bytes old =
    unless_refused (read_refusal a block bytes (length old)) (served_data a (stripe_of a block) (member_of a block) bytes) old

-- a read gives this answer, and leaves this in the buffer
abbrev pub Reads : Array → ℕ → List ℕ → List ℕ → List ℕ → List ℕ → Type 0
Reads a block bytes out numbers left = (numbers ≡ read_numbers a block bytes (length out)) × (left ≡ read_out a block bytes out)

-- ---- rebuild: a member's block from the others, whatever stands in its place

unfoldable pub rebuild_refusal : Array → ℕ → ℕ → List ℕ → ℕ
rebuild_refusal a stripe member bytes =
    after (owner_refusal a stripe member)
    (refuse (not (eqb (length bytes) (stripe_length a))) 6 (refuse (not (recoverable a stripe member bytes)) 9 0))

-- the stripe with a member's block made from the others
unfoldable pub rebuilt : Array → ℕ → ℕ → List ℕ → List ℕ
rebuilt a stripe member bytes =
    with_block (format_at a) bytes member
    (tagged a stripe member (others_guards (format_at a) a.members member bytes) (others_data (format_at a) a.members member bytes))

unfoldable pub rebuild_bytes : Array → ℕ → ℕ → List ℕ → List ℕ
rebuild_bytes a stripe member bytes = unless_refused (rebuild_refusal a stripe member bytes) (rebuilt a stripe member bytes) bytes

-- ---- update: a block's data replaced, and the parity and the guard that it may carry brought along; of the other members only the guards
-- in their tags are looked at

-- the guards of all members, as they stand, combine to what those of a right stripe do: the quick scrub of them fits
unfoldable pub guards_agree : Array → List ℕ → Bool
guards_agree a bytes = eqb (combined_guards (stored_guards (format_at a) a.members bytes)) (settled (format_at a) a.members)

-- of the block at a place: refusals 6 and 9, and the stripe with the new data
unfoldable pub replace_refusal : Array → ℕ → ℕ → ℕ → List ℕ → ℕ
replace_refusal a stripe member newBytes bytes =
    refuse (not (eqb (length bytes) (stripe_length a) && eqb newBytes (format_at a).data_length)) 6
    (refuse (not (stored_good a stripe member bytes && stored_good a stripe (parity_member a stripe) bytes)) 9
    (refuse (not (guards_agree a bytes)) 9 0))

unfoldable pub replaced : Array → ℕ → ℕ → List ℕ → List ℕ → List ℕ
replaced a stripe member new bytes =
    let F = format_at a in
    let parity = parity_member a stripe in
    let parityData = xors (xors (data_of F (block_of F bytes parity)) (data_of F (block_of F bytes member))) new in
    let guards = bit_xor (bit_xor (stored_guard F (block_of F bytes parity)) (stored_guard F (block_of F bytes member))) (guard F new) in
    with_block F (with_block F bytes member (tagged a stripe member guards new)) parity (tagged a stripe parity guards parityData)

unfoldable pub update_refusal : Array → ℕ → ℕ → List ℕ → ℕ
update_refusal a block newBytes bytes = after (block_refusal a block) (replace_refusal a (stripe_of a block) (member_of a block) newBytes bytes)

unfoldable pub update_bytes : Array → ℕ → List ℕ → List ℕ → List ℕ
update_bytes a block new bytes =
    unless_refused (update_refusal a block (length new) bytes) (replaced a (stripe_of a block) (member_of a block) new bytes) bytes
