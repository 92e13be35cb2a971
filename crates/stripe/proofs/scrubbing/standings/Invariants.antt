-- `stripe::scrubbing::standings` meets its contract. The invariant: the members passed are told as they stand.
-- Assumes nothing.
use mathlib.Core.Path.{◌≡◌}
use lib.ListN.{length, take}
use Rattle.tag.specs.Blocks.{format_at}
use Rattle.tag.specs.Tags.{standing_at}
use Rattle.stripe.specs.Tables.{table}
use Rattle.stripe.specs.Stripes.{block_of}
use Rattle.stripe.proofs.scrubbing.standings.Given as goal

abbrev pub invariant-loop-member : goal.invariant-loop-member
invariant-loop-member l = (length l.standing ≡ 16) × (take l.member l.standing ≡ table l.member (λ m. standing_at l.held.stripe.array l.held.stripe.number m (block_of (format_at l.held.stripe.array) l.held.bytes.now m)))
