-- What a recovery leaves of a stripe that was clean before an update of one of its blocks was entered, however many stores that update had: the
-- statement of the theorem. Assumes nothing.
use Rattle.std.specs.Prelude.{◌≢◌, ◌≡◌, ℕ, true, false, cond, List, [], ◌∷◌, ltb, length}
use Rattle.layout.specs.Arrays.{block_refusal}
use Rattle.layout.specs.Places.{stripe_of, member_of}
use Rattle.layout.specs.declared.Array.{Array}
use Rattle.tag.specs.Blocks.{format_at, data_of}
use Rattle.stripe.specs.Stripes.{block_of}
use Rattle.stripe.specs.Jobs.{Reads}
use Rattle.stripe.specs.Verdicts.{scrub_numbers, clean}
use Rattle.intent.specs.Records.{entries, named, entries_fit}

-- the block was to hold `new`, the stripe held `before`; the recovery found these bytes and this log, answered this, and left these
pub record AfterCut (a : Array) (block : ℕ) (new before : List ℕ) (stores : ℕ) (found log numbers left last : List ℕ) : Type 0 where
  -- recovered where the stripe is entered; else it is told that it is not, and nothing is changed
  pub answered : numbers ≡ 1 ∷ 0 ∷ cond (named (stripe_of a block) log) 1 0 ∷ 0 ∷ []
  pub not_entered : named (stripe_of a block) log ≡ false → (left ≡ found) × (last ≡ log)
  -- the stripe is clean, the block reads as before or as new, by whether the second store was made, and every other block reads as before
  pub clean_again : scrub_numbers a (stripe_of a block) left ≡ clean
  pub old-or-new : (out : List ℕ) → length out ≡ (format_at a).data_length
      → Reads a block left out (1 ∷ 0 ∷ 0 ∷ []) (cond (ltb stores 2) (data_of (format_at a) (block_of (format_at a) before (member_of a block))) new)
  pub others-kept : (other : ℕ) → block_refusal a other ≡ 0 → stripe_of a other ≡ stripe_of a block → other ≢ block
      → (out : List ℕ) → length out ≡ (format_at a).data_length
      → Reads a other left out (1 ∷ 0 ∷ 0 ∷ []) (data_of (format_at a) (block_of (format_at a) before (member_of a other)))
  -- the stripe is not entered any more; every other one as it was; and the log fits
  pub struck-out : named (stripe_of a block) last ≡ false
  pub other_stripes : (t : ℕ) → t ≢ stripe_of a block → named t last ≡ named t log
  pub still_fits_lem : entries_fit a.stripes (entries last) ≡ true
