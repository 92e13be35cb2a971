-- The guard stored in a block: the number in its bytes 512 and 513, whatever the data. So the quick scrub is given what was written, not
-- what the data would give now. Assumes nothing.
use mathlib.Core.Path.{◌≡◌, refl, ap, ◌∙◌}
use mathlib.Core.List.{List, [], ◌∷◌, ◌++◌}
use Prim.Native.Nat.{ℕ, ◌+◌, ◌*◌}
use lib.ListN.{length, get_or, drop, replicate, length-replicate}
use Rattle.format.specs.Formats.{guard}
use Rattle.format.specs.Methods.{format_of}
use Rattle.format.proofs.Laws.{blank-first}
use Rattle.tag.specs.Numbers.{number_of}
use Rattle.tag.specs.Blocks.{data_of, tag_of}
use Rattle.tag.specs.Tags.{found}
use Rattle.tag.proofs.Tagged.{data_of_joined, tag_of_joined}
use Rattle.tag.proofs.Figures.{guard-stands}
use Rattle.stripe.specs.Stripes.{stored_guard}

-- in a whole block, the highest byte first
pub stored-guard-stands : (block : List ℕ) → length block ≡ (format_of 1).block_length → stored_guard (format_of 1) block ≡ get_or block 512 0 * 256 + get_or block 513 0
stored-guard-stands block long = guard-stands block long

-- blocks that agree from byte 512 on have the same one
pub stored-guard_by_tag : (block other : List ℕ) → drop 512 block ≡ drop 512 other → stored_guard (format_of 1) block ≡ stored_guard (format_of 1) other
unfolding format_of tag_of
stored-guard_by_tag block other same = ap (λ (tag : List ℕ). (found (format_of 1) tag).guard) same

-- zeros under a tag whose guard, 1234h, is not theirs
abbrev wrong_tag : List ℕ
wrong_tag = 0x12 ∷ 0x34 ∷ 0x00 ∷ 0x07 ∷ 0x00 ∷ 0x00 ∷ 0x00 ∷ 0x00 ∷ []

abbrev mistagged : ℕ → List ℕ
mistagged size = replicate size 0 ++ wrong_tag

guards_of_zeros : (size : ℕ) → size ≡ (format_of 1).data_length
    → (stored_guard (format_of 1) (mistagged size) ≡ 0x1234) × (guard (format_of 1) (data_of (format_of 1) (mistagged size)) ≡ 0)
unfolding format_of found number_of
guards_of_zeros size full =
    let long : length (replicate {A = ℕ} size 0) ≡ 512 = length-replicate {A = ℕ} size 0 ∙ full in (
      ap (λ (tag : List ℕ). (found (format_of 1) tag).guard) (tag_of_joined (format_of 1) (replicate size 0) wrong_tag long),
      ap (guard (format_of 1)) (data_of_joined (format_of 1) (replicate size 0) wrong_tag long)
          ∙ ap (λ (k : ℕ). guard (format_of 1) (replicate k 0)) full ∙ blank-first,
    )

pub stored-guard_of_zeros : (stored_guard (format_of 1) (mistagged 512) ≡ 0x1234) × (guard (format_of 1) (data_of (format_of 1) (mistagged 512)) ≡ 0)
unfolding format_of
stored-guard_of_zeros = guards_of_zeros 512 refl
