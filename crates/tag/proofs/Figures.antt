-- Tags byte by byte, computed from the definitions, and which bytes of a block each field is: the order of the fields, the order of their
-- bytes and the parity's mark are told here in figures, which no definition shares. Assumes nothing.
use mathlib.Core.Path.{◌≡◌, refl, sym, ◌∙◌}
use mathlib.Core.Bool.{true}
use mathlib.Core.Logic.{◌↔◌}
use mathlib.Core.List.{List, [], ◌∷◌}
use Prim.Native.Nat.{ℕ, ◌+◌, ◌*◌, ◌/◌, ◌<◌}
use native.Mathlib.Nat.{div-one}
use native.Mathlib.Omega.{arith}
use borrow.Author.Tests.{eqb-true, eq-eqb}
use lib.ListN.{length, get_or}
use lib.Seq.{drop-drop}
use Rattle.crc.specs.Crc.{Bytes}
use Rattle.format.specs.Formats.{reference_of}
use Rattle.format.specs.Methods.{format_of}
use Rattle.layout.specs.Arrays.{array_of}
use Rattle.layout.specs.Places.{parity_member, lowest_block, block_at, index_at, block_named}
use Rattle.layout.specs.declared.Array.{Array}
use Rattle.tag.specs.Numbers.{bytes_of, number_of}
use Rattle.tag.specs.Blocks.{tag_of}
use Rattle.tag.specs.Tags.{tag_bytes, found, application_due, reference_due, guard_due, due, faults, exempt, standing, expected, told, checked_numbers}
use Rattle.tag.specs.declared.Fields.{Fields}
use Rattle.std.specs.Prelude.{Ok}
use Rattle.tag.specs.declared.Checked.TheVariants.{Unchecked, Told}
use Rattle.tag.proofs.Numbers.{take_elements, number_of_two, number_of_four}

-- ---- the sealed stripe of the outline: three members, volume 7, stripe 0; its parity, then its two blocks

abbrev three : Array
three = array_of 3 1 7 1 1

pub sealed-tags : (tag_bytes (format_of 1) (due three 0 0 0x176E) ≡ 0x17 ∷ 0x6E ∷ 0x80 ∷ 0x07 ∷ 0x00 ∷ 0x00 ∷ 0x00 ∷ 0x00 ∷ [])
    × (tag_bytes (format_of 1) (due three 0 1 0x8BB7) ≡ 0x8B ∷ 0xB7 ∷ 0x00 ∷ 0x07 ∷ 0x00 ∷ 0x00 ∷ 0x00 ∷ 0x00 ∷ [])
    × (tag_bytes (format_of 1) (due three 0 2 0x9CD9) ≡ 0x9C ∷ 0xD9 ∷ 0x00 ∷ 0x07 ∷ 0x00 ∷ 0x00 ∷ 0x00 ∷ 0x01 ∷ [])
unfolding format_of tag_bytes due application_due reference_due reference_of block_named lowest_block block_at index_at parity_member bytes_of
sealed-tags = (refl, refl, refl)

-- ---- far out: five members, stripe 65,536, whose parity is on member 1

abbrev five : Array
five = array_of 5 268435456 0 1 1

pub far_parity : tag_bytes (format_of 1) (due five 65536 1 0) ≡ 0x00 ∷ 0x00 ∷ 0x80 ∷ 0x00 ∷ 0x00 ∷ 0x04 ∷ 0x00 ∷ 0x00 ∷ []
unfolding format_of tag_bytes due application_due reference_due reference_of block_named lowest_block block_at index_at parity_member bytes_of
far_parity = refl

-- ---- farther: on both sides of block 4,294,967,296 of the largest array. Block 4,294,967,295 lies on member 4 of stripe 1,073,741,823, the next
-- one on member 0 of stripe 1,073,741,824, whose reference tag is that of block 0 on member 1 of stripe 0; in a large block's tag it is not

abbrev largest : ℕ → Array
largest method = array_of 5 68719476736 0 method 1

pub both_sides : (tag_bytes (format_of 1) (due (largest 1) 1073741823 4 0) ≡ 0x00 ∷ 0x00 ∷ 0x00 ∷ 0x00 ∷ 0xFF ∷ 0xFF ∷ 0xFF ∷ 0xFF ∷ [])
    × (tag_bytes (format_of 1) (due (largest 1) 1073741824 0 0) ≡ 0x00 ∷ 0x00 ∷ 0x00 ∷ 0x00 ∷ 0x00 ∷ 0x00 ∷ 0x00 ∷ 0x00 ∷ [])
    × (due (largest 1) 1073741824 0 0 ≡ due (largest 1) 0 1 0)
    × (reference_due (largest 3) 1073741824 0 ≡ 4294967296)
    × (reference_due (largest 3) 0 1 ≡ 0)
unfolding format_of tag_bytes due application_due reference_due reference_of block_named lowest_block block_at index_at parity_member bytes_of
both_sides = (refl, refl, refl, refl, refl)

-- ---- a whole block: bytes 512 and 513 are its guard, 514 and 515 its application tag, 516 to 519 its reference tag, each with the highest first

module _ (block : List ℕ) (long : length block ≡ (format_of 1).block_length) where
  pub guard-stands : (found (format_of 1) (tag_of (format_of 1) block)).guard ≡ get_or block 512 0 * 256 + get_or block 513 0
  unfolding format_of found tag_of
  guard-stands = rw (take_elements block 512 0 2 (omega arith)) (number_of_two (get_or block 512 0) (get_or block 513 0))

  pub application_stands : (found (format_of 1) (tag_of (format_of 1) block)).application ≡ get_or block 514 0 * 256 + get_or block 515 0
  unfolding format_of found tag_of
  application_stands = rw (drop-drop 2 512 block, take_elements block 514 0 2 (omega arith)) (number_of_two (get_or block 514 0) (get_or block 515 0))

  pub reference_stands : (found (format_of 1) (tag_of (format_of 1) block)).reference ≡ (get_or block 516 0 * 256 + get_or block 517 0) * 65536 + (get_or block 518 0 * 256 + get_or block 519 0)
  unfolding format_of found tag_of
  reference_stands =
      rw (drop-drop 4 512 block, take_elements block 516 0 4 (omega arith))
      (number_of_four (get_or block 516 0) (get_or block 517 0) (get_or block 518 0) (get_or block 519 0))

  -- not to be checked: bytes 514 and 515 are both FFh, whatever else the block holds
  pub exempt-stands : Bytes block → (exempt (format_of 1) (found (format_of 1) (tag_of (format_of 1) block)) ≡ true) ↔ ((get_or block 514 0 ≡ 0xFF) × (get_or block 515 0 ≡ 0xFF))
  unfolding exempt format_of
  exempt-stands bytes = (
    λ h. let e = sym application_stands ∙ sym (div-one _) ∙ eqb-true _ 0xFFFF h in (omega (arith, e, small 514, small 515), omega (arith, e, small 514, small 515)),
    λ h. eq-eqb _ 0xFFFF (div-one _ ∙ application_stands ∙ omega (arith, h.0, h.1)),
  )
    where
      small : (i : ℕ) → get_or block i 0 < 256
      small i = bytes i

-- ---- large blocks, of method 3: bytes 4096 to 4099 are the guard, 4100 to 4103 the application tag, the last two of them spare, and 4104 to
-- 4111 the reference tag

module _ (block : List ℕ) (long : length block ≡ (format_of 3).block_length) where
  pub large-guard-stands : (found (format_of 3) (tag_of (format_of 3) block)).guard ≡ (get_or block 4096 0 * 256 + get_or block 4097 0) * 65536 + (get_or block 4098 0 * 256 + get_or block 4099 0)
  unfolding format_of found tag_of
  large-guard-stands =
      rw (take_elements block 4096 0 4 (omega arith))
      (number_of_four (get_or block 4096 0) (get_or block 4097 0) (get_or block 4098 0) (get_or block 4099 0))

  pub large_application_stands : (found (format_of 3) (tag_of (format_of 3) block)).application ≡ (get_or block 4100 0 * 256 + get_or block 4101 0) * 65536 + (get_or block 4102 0 * 256 + get_or block 4103 0)
  unfolding format_of found tag_of
  large_application_stands =
      rw (drop-drop 4 4096 block, take_elements block 4100 0 4 (omega arith))
      (number_of_four (get_or block 4100 0) (get_or block 4101 0) (get_or block 4102 0) (get_or block 4103 0))

  pub large_reference_stands : (found (format_of 3) (tag_of (format_of 3) block)).reference
      ≡ number_of (get_or block 4104 0 ∷ get_or block 4105 0 ∷ get_or block 4106 0 ∷ get_or block 4107 0 ∷ get_or block 4108 0 ∷ get_or block 4109 0 ∷ get_or block 4110 0 ∷ get_or block 4111 0 ∷ [])
  unfolding format_of found tag_of
  large_reference_stands = rw (drop-drop 8 4096 block, take_elements block 4104 0 8 (omega arith))

  -- not to be checked: bytes 4100 and 4101 are both FFh, whatever the spare ones are
  pub large-exempt-stands : Bytes block → (exempt (format_of 3) (found (format_of 3) (tag_of (format_of 3) block)) ≡ true) ↔ ((get_or block 4100 0 ≡ 0xFF) × (get_or block 4101 0 ≡ 0xFF))
  unfolding exempt format_of
  large-exempt-stands bytes = (
    λ h. let e = eqb-true (application / 65536) 0xFFFF h in (
      omega (arith, e, large_application_stands, small 4100, small 4101, small 4102, small 4103),
      omega (arith, e, large_application_stands, small 4100, small 4101, small 4102, small 4103),
    ),
    λ h. eq-eqb (application / 65536) 0xFFFF (omega (arith, large_application_stands, h.0, h.1, small 4102, small 4103)),
  )
    where
      application : ℕ
      application = (found (format_of 3) (tag_of (format_of 3) block)).application

      small : (i : ℕ) → get_or block i 0 < 256
      small i = bytes i

abbrev large_three : Array
large_three = array_of 3 1 7 3 1

pub large-tags : (tag_bytes (format_of 3) (due large_three 0 0 0x8BA9B27D)
    ≡ 0x8B ∷ 0xA9 ∷ 0xB2 ∷ 0x7D ∷ 0x80 ∷ 0x07 ∷ 0x00 ∷ 0x00 ∷ 0x00 ∷ 0x00 ∷ 0x00 ∷ 0x00 ∷ 0x00 ∷ 0x00 ∷ 0x00 ∷ 0x00 ∷ [])
    × (tag_bytes (format_of 3) (due large_three 0 2 0x79C2317E)
    ≡ 0x79 ∷ 0xC2 ∷ 0x31 ∷ 0x7E ∷ 0x00 ∷ 0x07 ∷ 0x00 ∷ 0x00 ∷ 0x00 ∷ 0x00 ∷ 0x00 ∷ 0x00 ∷ 0x00 ∷ 0x00 ∷ 0x00 ∷ 0x01 ∷ [])
unfolding format_of tag_bytes due application_due reference_due reference_of block_named lowest_block block_at index_at parity_member bytes_of
large-tags = (refl, refl)

-- ---- what a check tells: the kind, then of guard, application tag and reference tag what was found, what was due, and whether they are the same

abbrev fields : ℕ → ℕ → ℕ → Fields
fields guard application reference = record { guard = guard; application = application; reference = reference }

pub told-fields : (told (format_of 1) (fields 5 6 7) (fields 1 2 3) ≡ 1 ∷ 5 ∷ 1 ∷ 0 ∷ 6 ∷ 2 ∷ 0 ∷ 7 ∷ 3 ∷ 0 ∷ [])
    × (told (format_of 1) (fields 1 6 3) (fields 1 2 3) ≡ 1 ∷ 1 ∷ 1 ∷ 1 ∷ 6 ∷ 2 ∷ 0 ∷ 3 ∷ 3 ∷ 1 ∷ [])
    × (told (format_of 1) (fields 1 2 3) (fields 1 2 3) ≡ 0 ∷ 1 ∷ 1 ∷ 1 ∷ 2 ∷ 2 ∷ 1 ∷ 3 ∷ 3 ∷ 1 ∷ [])
    × (told (format_of 1) (fields 5 0xFFFF 7) (fields 1 2 3) ≡ 2 ∷ 0 ∷ 0 ∷ 0 ∷ 0 ∷ 0 ∷ 0 ∷ 0 ∷ 0 ∷ 0 ∷ [])
unfolding format_of exempt told standing faults
told-fields = (refl, refl, refl, refl)

-- guard 4, application tag 2, reference tag 1; a mark goes before every field, and FF00h is none
pub standing-fields : (standing (format_of 1) (fields 5 2 3) (fields 1 2 3) ≡ 4) × (standing (format_of 1) (fields 1 6 3) (fields 1 2 3) ≡ 2) × (standing (format_of 1) (fields 1 2 7) (fields 1 2 3) ≡ 1)
    × (standing (format_of 1) (fields 5 0xFF00 7) (fields 1 2 3) ≡ 7) × (standing (format_of 1) (fields 5 0xFFFF 7) (fields 1 2 3) ≡ 8) × (standing (format_of 1) (fields 1 2 3) (fields 1 2 3) ≡ 0)
unfolding format_of exempt standing faults
standing-fields = (refl, refl, refl, refl, refl, refl)

-- of large blocks a spare byte makes the application tag wrong, unless the mark stands before it; FFFFh in the spare bytes is no mark; a reference
-- is compared beyond its low thirty-two bits
pub large-standing-fields : (standing (format_of 3) (fields 1 0x00070001 3) (fields 1 0x00070000 3) ≡ 2) × (standing (format_of 3) (fields 5 0xFFFF0001 7) (fields 1 0x00070000 3) ≡ 8)
    × (standing (format_of 3) (fields 1 0x0000FFFF 3) (fields 1 0x00070000 3) ≡ 2) × (standing (format_of 3) (fields 1 0x00070000 0x100000003) (fields 1 0x00070000 3) ≡ 1)
    × (standing (format_of 3) (fields 1 0x00070000 3) (fields 1 0x00070000 3) ≡ 0)
unfolding format_of exempt standing faults
large-standing-fields = (refl, refl, refl, refl, refl)

pub check_names : (checked_numbers (Ok Unchecked) ≡ 1 ∷ 0 ∷ 2 ∷ 0 ∷ 0 ∷ 0 ∷ 0 ∷ 0 ∷ 0 ∷ 0 ∷ 0 ∷ 0 ∷ [])
    × (checked_numbers (Ok (Told (fields 5 2 3) (fields 1 2 3))) ≡ 1 ∷ 0 ∷ 1 ∷ 5 ∷ 1 ∷ 0 ∷ 2 ∷ 2 ∷ 1 ∷ 3 ∷ 3 ∷ 1 ∷ [])
unfolding faults
check_names = (refl, refl)

-- ---- the guard that is due: of method 2's parity the one that is carried, of every other block that of its own data

abbrev carrying : Array
carrying = array_of 3 1 7 2 1

pub guards-due : (guard_due carrying 0 0 5 9 ≡ 5) × (guard_due carrying 0 1 5 9 ≡ 9) × (guard_due three 0 0 5 9 ≡ 9) × (guard_due three 0 1 5 9 ≡ 9)
unfolding format_of guard_due parity_member
guards-due = (refl, refl, refl, refl)

-- so a check tells of method 2's parity that its guard fits, whatever it is, and its other fields as of any block
pub parity_unguarded : (g own : ℕ) → (told (format_of 2) (fields g 0x8007 0) (expected carrying 0 0 (fields g 0x8007 0) own) ≡ 0 ∷ g ∷ g ∷ 1 ∷ 0x8007 ∷ 0x8007 ∷ 1 ∷ 0 ∷ 0 ∷ 1 ∷ [])
    × (standing (format_of 2) (fields g 0x8007 0) (expected carrying 0 0 (fields g 0x8007 0) own) ≡ 0)
    × (standing (format_of 2) (fields g 0x0007 3) (expected carrying 0 0 (fields g 0x0007 3) own) ≡ 3)
unfolding format_of exempt told standing faults due guard_due application_due reference_due reference_of block_named lowest_block block_at index_at parity_member
parity_unguarded g own = let same = eq-eqb g g refl in (rw same, rw same, rw same)

-- a data member's guard is held against its data, and so is method 1's parity's
pub data_guarded : (told (format_of 2) (fields 5 7 0) (expected carrying 0 1 (fields 5 7 0) 9) ≡ 1 ∷ 5 ∷ 9 ∷ 0 ∷ 7 ∷ 7 ∷ 1 ∷ 0 ∷ 0 ∷ 1 ∷ [])
    × (standing (format_of 2) (fields 5 7 0) (expected carrying 0 1 (fields 5 7 0) 9) ≡ 4)
    × (standing (format_of 1) (fields 5 0x8007 0) (expected three 0 0 (fields 5 0x8007 0) 9) ≡ 4)
unfolding format_of exempt told standing faults due guard_due application_due reference_due reference_of block_named lowest_block block_at index_at parity_member
data_guarded = (refl, refl, refl)
