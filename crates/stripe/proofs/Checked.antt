-- How a block stands: by its tag and the guard of its data, as they are found within its stripe.
-- Assumes nothing.
use mathlib.Core.Path.{◌≡◌, sym, ap, ap₂, ◌∙◌}
use mathlib.Core.List.{List}
use Prim.Native.Nat.{ℕ, ◌+◌, ◌*◌}
use lib.ListN.{take, drop}
use lib.Seq.{drop-drop}
use Rattle.format.specs.Formats.{Format, guard}
use Rattle.layout.specs.Places.{owner_refusal}
use Rattle.layout.specs.declared.Array.{Array}
use Rattle.tag.specs.Blocks.{format_at, data_of, tag_of}
use Rattle.tag.specs.Numbers.{number_of}
use Rattle.tag.specs.Tags.{found, guard_due, due_at, expected, standing, standing_at}
use Rattle.tag.specs.declared.Fields.{Fields}
use Rattle.tag.proofs.Owed.{due_somewhere}
use Rattle.tag.proofs.Within.{found_by_calls}
use Rattle.stripe.specs.Tables.{span}
use Rattle.stripe.specs.Stripes.{block_of}
use Rattle.stripe.proofs.Blocks.{drop-take}

-- the tag of a member's block, within its stripe
pub tag_in_stripe : (F : Format) (member : ℕ) (bytes : List ℕ)
    → take F.tag_length (drop (F.block_length * member + F.data_length) bytes) ≡ tag_of F (block_of F bytes member)
unfolding tag_of span
tag_in_stripe F member bytes =
    let at = F.block_length * member in
    sym (ap (λ (k : ℕ). drop F.data_length (take k (drop at bytes))) F.block_parts
    ∙ drop-take F.data_length F.tag_length (drop at bytes) ∙ ap (take F.tag_length) (drop-drop F.data_length at bytes))

-- the fields there, as the code reads them
pub stored_there : (F : Format) (member at quarter : ℕ) (bytes : List ℕ)
    → at ≡ F.block_length * member + F.data_length → quarter ≡ F.quarter → (f : Fields) → f.guard ≡ number_of (take quarter (drop at bytes))
    → f.application ≡ number_of (take quarter (drop (at + quarter) bytes)) → f.reference ≡ number_of (take (2 * quarter) (drop (at + 2 * quarter) bytes))
    → f ≡ found F (tag_of F (block_of F bytes member))
stored_there F member at quarter bytes here q f eg ea er =
    found_by_calls F bytes at quarter q f.guard f.application f.reference eg ea er
    ∙ ap (found F) (ap (λ (k : ℕ). take F.tag_length (drop k bytes)) here ∙ tag_in_stripe F member bytes)

-- by the steps of the code: the tag that is found beside the one due where it is found
pub standing_by_steps : (a : Array) (stripe member known : ℕ) → owner_refusal a stripe member ≡ 0 → (f e : Fields) (how : ℕ)
    → e ≡ due_at a stripe member (guard_due a stripe member f.guard known) → how ≡ standing (format_at a) f e
    → how ≡ standing (format_at a) f (expected a stripe member f known)
standing_by_steps a stripe member known place f e how due-there r =
    r ∙ ap (standing (format_at a) f) (due-there ∙ due_somewhere a stripe member (guard_due a stripe member f.guard known) place)

-- with the fields and the guard of the data that are there, so the block stands
pub stands-there : (a : Array) (stripe member known how : ℕ) (bytes : List ℕ) (f : Fields) → f ≡ found (format_at a) (tag_of (format_at a) (block_of (format_at a) bytes member))
    → known ≡ guard (format_at a) (data_of (format_at a) (block_of (format_at a) bytes member))
    → how ≡ standing (format_at a) f (expected a stripe member f known) → how ≡ standing_at a stripe member (block_of (format_at a) bytes member)
unfolding standing_at
stands-there a stripe member known how bytes f there right r =
    r ∙ ap₂ (standing (format_at a)) there (ap₂ (λ (x : Fields) (y : ℕ). expected a stripe member x y) there right)
