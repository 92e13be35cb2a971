-- What holds where a job is not refused: the lengths, and the members that it needs good. Assumes nothing.
use Rattle.std.specs.Prelude.{ℕ, ◌*◌, ◌≡◌, true, List, length}
use Rattle.layout.specs.Arrays.{data_members, stripe_refusal}
use Rattle.layout.specs.Places.{parity_member, owner_refusal}
use Rattle.layout.specs.declared.Array.{Array}
use Rattle.tag.specs.Blocks.{format_at}
use Rattle.format.specs.Formats.{guard}
use Rattle.stripe.specs.Stripes.{stripe_length, others_good, others_data, guards_fit}
use Rattle.stripe.specs.Jobs.{stored_good, guards_agree}

-- a seal
pub record Fitting (a : Array) (stripe contentBytes stripeBytes : ℕ) : Type 0 where
  pub stripe-good : stripe_refusal a stripe ≡ 0
  pub content_long : contentBytes ≡ (format_at a).data_length * data_members a
  pub stripe-long : stripeBytes ≡ stripe_length a

-- a rebuild
pub record Sources (a : Array) (stripe member : ℕ) (bytes : List ℕ) : Type 0 where
  pub place : owner_refusal a stripe member ≡ 0
  pub long : length bytes ≡ stripe_length a
  pub others : others_good a stripe member bytes ≡ true
  pub fits : guards_fit a stripe member bytes (guard (format_at a) (others_data (format_at a) a.members member bytes)) ≡ true

-- the replacement of the data of the block at a place
pub record Replaceable (a : Array) (stripe member newBytes : ℕ) (bytes : List ℕ) : Type 0 where
  pub long : length bytes ≡ stripe_length a
  pub size : newBytes ≡ (format_at a).data_length
  pub own-good : stored_good a stripe member bytes ≡ true
  pub parity-good : stored_good a stripe (parity_member a stripe) bytes ≡ true
  pub agree : guards_agree a bytes ≡ true
