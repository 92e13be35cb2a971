-- What a repair leaves of an image, and what a second one does with it: the statement of the theorem. Assumes nothing.
use Rattle.std.specs.Prelude.{◌≡◌, ◌≢◌, true, false, List, ◌++◌, ℕ, ◌<◌}
use Rattle.tag.specs.Blocks.{format_at}
use Rattle.stripe.specs.Stripes.{block_of}
use Rattle.stripe.specs.Verdicts.{scrub_numbers, clean}
use Rattle.lines.specs.Lines.{refused_line}
use Rattle.mend.specs.Mending.{verdict_on, bad_member, is_rebuilt}
use Rattle.repair.specs.Repairs.{Output, header_of, array_of, stripe_at, repair_of}

-- a list that ends with the line of a refusal
pub record Ends (list : List ℕ) (refusal : ℕ) : Type 0 where
  pub lines : List ℕ
  pub ends : list ≡ lines ++ refused_line refusal

-- of an image, and of what was written for it
pub record SecondPass (image : List ℕ) (written : Output) : Type 0 where
  -- the header is as it was, and so is every stripe that is not rebuilt
  pub header-kept : header_of written.image ≡ header_of image
  pub stripe-kept : (i : ℕ) → i < (array_of image).stripes → is_rebuilt (array_of image) i (stripe_at image i) ≡ false
      → stripe_at written.image i ≡ stripe_at image i
  -- one that is rebuilt differs in the bad member's block alone, and scrubs clean
  pub others-kept : (i : ℕ) → i < (array_of image).stripes → is_rebuilt (array_of image) i (stripe_at image i) ≡ true
      → (k : ℕ) → k ≢ bad_member (verdict_on (array_of image) i (stripe_at image i))
      → block_of (format_at (array_of image)) (stripe_at written.image i) k ≡ block_of (format_at (array_of image)) (stripe_at image i) k
  pub rebuilt-clean : (i : ℕ) → i < (array_of image).stripes → is_rebuilt (array_of image) i (stripe_at image i) ≡ true
      → scrub_numbers (array_of image) i (stripe_at written.image i) ≡ clean
  -- a second repair writes the same image and the same list, and rebuilds nothing
  pub same_again : repair_of written.image ≡ written
  pub none-rebuilt : (i : ℕ) → i < (array_of image).stripes → is_rebuilt (array_of image) i (stripe_at written.image i) ≡ false
