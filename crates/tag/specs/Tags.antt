-- The tag of a block: guard, application tag and reference tag, in this order; which are due at a place, and the check of a block.
-- Assumes nothing.
use Rattle.std.specs.Prelude.{ℕ, ◌+◌, ◌*◌, ◌/◌, ◌^◌, ◌<◌, Bool, not, cond, ◌&&◌, List, [], ◌∷◌, ◌++◌, eqb, length, take, drop, replicate, Option, None, Some, Result, Ok, Err}
use Rattle.format.specs.Formats.{Format, guard, reference_of}
use Rattle.layout.specs.Answers.{refuse, after, answer}
use Rattle.layout.specs.Arrays.{within}
use Rattle.layout.specs.Places.{is_parity, block_named, owner_refusal}
use Rattle.layout.specs.declared.Array.{Array}
use Rattle.layout.specs.declared.Owned.{Owned}
use Rattle.layout.specs.declared.Owned.TheVariants.{Parity, Data}
use Rattle.refusal.specs.Refusals.{number}
use Rattle.refusal.specs.declared.Refusal.{Refusal}
use Rattle.tag.specs.Numbers.{bytes_of, number_of}
use Rattle.tag.specs.Blocks.{format_at, data_of, tag_of}
use Rattle.tag.specs.declared.Fields.{Fields}
use Rattle.tag.specs.declared.Checked.{Checked}
use Rattle.tag.specs.declared.Checked.TheVariants.{Unchecked, Told}

-- the bytes of three fields: a quarter of the tag is the guard's, one the application tag's, two the reference tag's
abbrev pub bytes_by : ℕ → Fields → List ℕ
bytes_by quarter f = bytes_of quarter f.guard ++ bytes_of quarter f.application ++ bytes_of (2 * quarter) f.reference

module _ (F : Format) where
  -- the fields fit their bytes
  pub record Fit (f : Fields) : Type 0 where
    pub guard-fits : f.guard < 256 ^ F.quarter
    pub application_fits : f.application < 256 ^ F.quarter
    pub reference_fits : f.reference < 256 ^ (2 * F.quarter)

  -- a tag's bytes, and the fields in them
  unfoldable pub tag_bytes : Fields → List ℕ
  tag_bytes f = bytes_by F.quarter f

  unfoldable pub found : List ℕ → Fields
  found tag =
      record {
        guard = number_of (take F.quarter tag);
        application = number_of (take F.quarter (drop F.quarter tag));
        reference = number_of (take (2 * F.quarter) (drop (2 * F.quarter) tag));
      }

-- the application tag: 80h marks a parity block, then the volume; what follows in its field is zero
unfoldable pub application_due : Array → ℕ → ℕ → ℕ
application_due a stripe member = (cond (is_parity a stripe member) 0x8000 0 + a.volume) * (format_at a).scale

-- the reference tag: that of the block number by which the place is named
unfoldable pub reference_due : Array → ℕ → ℕ → ℕ
reference_due a stripe member = reference_of (format_at a) (block_named a stripe member)

-- a parity's place whose tag holds what the data members' guards combine to, and is not held against its own data
abbrev pub carried : Array → ℕ → ℕ → Bool
carried a stripe member = (format_at a).carries && is_parity a stripe member

-- the guard due at a place: at such a parity's the combination, else that of the block's own data
unfoldable pub guard_due : Array → ℕ → ℕ → ℕ → ℕ → ℕ
guard_due a stripe member combined own = cond (carried a stripe member) combined own

-- the fields due at a place, with the guard that is due there
unfoldable pub due : Array → ℕ → ℕ → ℕ → Fields
due a stripe member guard = record { guard = guard; application = application_due a stripe member; reference = reference_due a stripe member }

-- the same on any numbers: zeros where there is no such place
unfoldable pub due_at : Array → ℕ → ℕ → ℕ → Fields
due_at a stripe member guard =
    cond (eqb (owner_refusal a stripe member) 0) (due a stripe member guard) (record { guard = 0; application = 0; reference = 0 })

-- the fields due by what lies at a place, to a parity with one guard and to every other block with another; zeros where there is no such place
abbrev pub due_to : Array → ℕ → ℕ → Option Owned → Fields
due_to a parity own None = record { guard = 0; application = 0; reference = 0 }
due_to a parity own (Some (Parity lowest)) = record { guard = parity; application = (0x8000 + a.volume) * (format_at a).scale; reference = reference_of (format_at a) lowest }
due_to a parity own (Some (Data block)) = record { guard = own; application = a.volume * (format_at a).scale; reference = reference_of (format_at a) block }

-- ---- how a block stands at a place: good, bad or unchecked

-- which fields are not those due, as one number: 4 for the guard, 2 for the application tag, 1 for the reference tag
unfoldable pub faults : Fields → Fields → ℕ
faults f e =
    cond (eqb f.guard e.guard) 0 4 + cond (eqb f.application e.application) 0 2 + cond (eqb f.reference e.reference) 0 1

module _ (F : Format) where
  -- the two bytes of the application tag stand as FFFFh: the block is not to be checked
  unfoldable pub exempt : Fields → Bool
  exempt f = eqb (f.application / F.scale) 0xFFFF

  -- 8 unchecked; else 0 good, where every field is the one due, and from 1 to 7 bad, by the fields that are not
  unfoldable pub standing : Fields → Fields → ℕ
  standing f e = cond (exempt f) 8 (faults f e)

-- the fields due at a place where these were found, to data of this guard: a carried guard is due as it was found
abbrev pub expected : Array → ℕ → ℕ → Fields → ℕ → Fields
expected a stripe member f own = due a stripe member (guard_due a stripe member f.guard own)

-- the fields found in a block's tag, and those due to it at a place
abbrev pub found_in : Array → List ℕ → Fields
found_in a block = found (format_at a) (tag_of (format_at a) block)

abbrev pub expected_at : Array → ℕ → ℕ → List ℕ → Fields
expected_at a stripe member block = expected a stripe member (found_in a block) (guard (format_at a) (data_of (format_at a) block))

unfoldable pub standing_at : Array → ℕ → ℕ → List ℕ → ℕ
standing_at a stripe member block = standing (format_at a) (found_in a block) (expected_at a stripe member block)

abbrev pub is_bad : ℕ → Bool
is_bad how = within 1 7 how

abbrev pub good : Array → ℕ → ℕ → List ℕ → Bool
good a stripe member block = eqb (standing_at a stripe member block) 0

abbrev pub bad : Array → ℕ → ℕ → List ℕ → Bool
bad a stripe member block = is_bad (standing_at a stripe member block)

abbrev pub unchecked : Array → ℕ → ℕ → List ℕ → Bool
unchecked a stripe member block = eqb (standing_at a stripe member block) 8

-- the same in three numbers: 0 good, 1 bad, 2 unchecked
abbrev pub kind_of : ℕ → ℕ
kind_of how = cond (eqb how 0) 0 (cond (eqb how 8) 2 1)

-- data with the tag due at a place, with this guard; and with the one due there, to them or, carried, of this combination
unfoldable pub tagged_by : Array → ℕ → ℕ → ℕ → List ℕ → List ℕ
tagged_by a stripe member guard bytes = bytes ++ tag_bytes (format_at a) (due a stripe member guard)

unfoldable pub tagged : Array → ℕ → ℕ → ℕ → List ℕ → List ℕ
tagged a stripe member combined bytes = tagged_by a stripe member (guard_due a stripe member combined (guard (format_at a) bytes)) bytes

-- ---- check, in numbers: 0 good, 1 bad, 2 unchecked; then of guard, application tag and reference tag each what was found, what was
-- due, and 1 where they are the same. Of a block that is not to be checked no values.

abbrev pub beside : ℕ → ℕ → List ℕ
beside found due = found ∷ due ∷ cond (eqb found due) 1 0 ∷ []

abbrev pub side_by_side : Fields → Fields → List ℕ
side_by_side f e = beside f.guard e.guard ++ beside f.application e.application ++ beside f.reference e.reference

unfoldable pub told : Format → Fields → Fields → List ℕ
told F f e = kind_of (standing F f e) ∷ cond (exempt F f) (replicate 9 0) (side_by_side f e)

unfoldable pub check_refusal : Array → ℕ → ℕ → ℕ → ℕ
check_refusal a stripe member blockBytes = after (owner_refusal a stripe member) (refuse (not (eqb blockBytes (format_at a).block_length)) 6 0)

unfoldable pub check_numbers : Array → ℕ → ℕ → List ℕ → List ℕ
check_numbers a stripe member block = answer (check_refusal a stripe member (length block)) (told (format_at a) (found_in a block) (expected_at a stripe member block))

abbrev pub checked_numbers : Result Checked Refusal → List ℕ
checked_numbers (Err refusal) = 0 ∷ number refusal ∷ replicate 10 0
checked_numbers (Ok Unchecked) = 1 ∷ 0 ∷ 2 ∷ replicate 9 0
checked_numbers (Ok (Told f e)) = 1 ∷ 0 ∷ kind_of (faults f e) ∷ side_by_side f e
