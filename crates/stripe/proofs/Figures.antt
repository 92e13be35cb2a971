-- What the definitions of every job share, told in figures: a stripe in memory is its members' blocks in member order, data are their
-- parts in index order, a read says stored or rebuilt, and the refusals of each call come in their order. Assumes nothing.
use mathlib.Core.Path.{◌≡◌, refl}
use mathlib.Core.List.{List, [], ◌∷◌}
use Prim.Native.Nat.{ℕ}
use Rattle.std.proofs.Common.{Ok, Err}
use Rattle.refusal.specs.declared.Refusal.TheVariants.{Bad}
use Rattle.format.specs.Methods.{format_of}
use Rattle.layout.specs.Arrays.{array_of, array_refusal, stripe_refusal, block_refusal}
use Rattle.layout.specs.Places.{owner_refusal}
use Rattle.layout.specs.declared.Array.{Array}
use Rattle.stripe.specs.Tables.{table, joined, span, part}
use Rattle.stripe.specs.Jobs.{seal_refusal, serve_refusal, read_refusal, reading_numbers, rebuild_refusal, replace_refusal, update_refusal}
use Rattle.stripe.specs.Verdicts.{scrub_refusal}
use Rattle.stripe.specs.declared.Reading.TheVariants.{Stored, Rebuilt}

-- ---- parts and blocks

abbrev six : List ℕ
six = 10 ∷ 11 ∷ 12 ∷ 13 ∷ 14 ∷ 15 ∷ []

pub parts_in_order : table 3 (part 2 six) ≡ (10 ∷ 11 ∷ []) ∷ (12 ∷ 13 ∷ []) ∷ (14 ∷ 15 ∷ []) ∷ []
unfolding span
parts_in_order = refl

pub joined_in_order : joined ((10 ∷ 11 ∷ []) ∷ (12 ∷ 13 ∷ []) ∷ (14 ∷ 15 ∷ []) ∷ []) ≡ six
joined_in_order = refl

-- ---- which name of the code stands for which numbers of a read

pub read_names : (reading_numbers (Ok Stored) ≡ 1 ∷ 0 ∷ 0 ∷ []) × (reading_numbers (Ok Rebuilt) ≡ 1 ∷ 0 ∷ 1 ∷ []) × (reading_numbers (Err Bad) ≡ 0 ∷ 9 ∷ 0 ∷ [])
read_names = (refl, refl, refl)

-- ---- refusals: first every number that is handed in is wrong, then one after the other is mended

abbrev array : ℕ → ℕ → ℕ → Array
array members stripes method = array_of members stripes 7 method 1

pub seal_in_order : (seal_refusal (array 2 0 4) 1 0 0 ≡ 1) × (seal_refusal (array 3 0 4) 1 0 0 ≡ 2) × (seal_refusal (array 3 1 4) 1 0 0 ≡ 12)
    × (seal_refusal (array 3 1 1) 1 0 0 ≡ 3) × (seal_refusal (array 3 1 1) 0 0 0 ≡ 6) × (seal_refusal (array 3 1 1) 0 1024 0 ≡ 6)
    × (seal_refusal (array 3 1 1) 0 1024 1560 ≡ 0) × (seal_refusal (array 3 1 2) 0 1024 1560 ≡ 0)
    × (seal_refusal (array 3 1 3) 0 1024 1560 ≡ 6) × (seal_refusal (array 3 1 3) 0 8192 12336 ≡ 0)
unfolding format_of seal_refusal stripe_refusal array_refusal
seal_in_order = (refl, refl, refl, refl, refl, refl, refl, refl, refl, refl)

pub read_in_order : (read_refusal (array 2 0 4) 2 [] 0 ≡ 1) × (read_refusal (array 3 0 4) 2 [] 0 ≡ 2) × (read_refusal (array 3 1 4) 2 [] 0 ≡ 12)
    × (read_refusal (array 3 1 1) 2 [] 0 ≡ 3) × (read_refusal (array 3 1 1) 0 [] 0 ≡ 6) × (read_refusal (array 3 1 1) 0 [] 512 ≡ 6)
unfolding format_of read_refusal serve_refusal block_refusal array_refusal
read_in_order = (refl, refl, refl, refl, refl, refl)

pub rebuild_in_order : (rebuild_refusal (array 2 0 4) 1 3 [] ≡ 1) × (rebuild_refusal (array 3 0 4) 1 3 [] ≡ 2) × (rebuild_refusal (array 3 1 4) 1 3 [] ≡ 12)
    × (rebuild_refusal (array 3 1 1) 1 3 [] ≡ 3) × (rebuild_refusal (array 3 1 1) 0 3 [] ≡ 5) × (rebuild_refusal (array 3 1 1) 0 0 [] ≡ 6)
unfolding format_of rebuild_refusal owner_refusal stripe_refusal array_refusal
rebuild_in_order = (refl, refl, refl, refl, refl, refl)

pub update_in_order : (update_refusal (array 2 0 4) 2 0 [] ≡ 1) × (update_refusal (array 3 0 4) 2 0 [] ≡ 2) × (update_refusal (array 3 1 4) 2 0 [] ≡ 12)
    × (update_refusal (array 3 1 1) 2 0 [] ≡ 3) × (update_refusal (array 3 1 1) 0 0 [] ≡ 6) × (update_refusal (array 3 1 1) 0 512 [] ≡ 6)
unfolding format_of update_refusal replace_refusal block_refusal array_refusal
update_in_order = (refl, refl, refl, refl, refl, refl)

pub scrub_in_order : (scrub_refusal (array 2 0 4) 1 0 ≡ 1) × (scrub_refusal (array 3 0 4) 1 0 ≡ 2) × (scrub_refusal (array 3 1 4) 1 0 ≡ 12)
    × (scrub_refusal (array 3 1 1) 1 0 ≡ 3) × (scrub_refusal (array 3 1 1) 0 0 ≡ 6) × (scrub_refusal (array 3 1 1) 0 1560 ≡ 0) × (scrub_refusal (array 3 1 2) 0 1560 ≡ 0)
    × (scrub_refusal (array 3 1 3) 0 1560 ≡ 6) × (scrub_refusal (array 3 1 3) 0 12336 ≡ 0)
unfolding format_of scrub_refusal stripe_refusal array_refusal
scrub_in_order = (refl, refl, refl, refl, refl, refl, refl, refl, refl)
