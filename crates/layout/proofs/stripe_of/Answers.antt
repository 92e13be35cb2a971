-- `stripe_of` is `stripe_of`: in a sound array it fits. Assumes nothing.
use Rattle.std.proofs.Common.{arith}
use Rattle.layout.specs.Places.{stripe_of}
use Rattle.layout.proofs.Ranges.{block_sound}
use Rattle.layout.proofs.Blocks.{stripe-fits}
use Rattle.layout.proofs.stripe_of.Goals as goal

pub overflow_mul-result : goal.overflow_mul-result
overflow_mul-result c =
    rw (c.over-2.ensures, c.data_members.ensures, c.over.ensures)
    (omega (arith, stripe-fits _ _ (block_sound _ _ c.requires)))

pub overflow_add-result : goal.overflow_add-result
overflow_add-result c =
    rw (c.rest.ensures, c.over-2.ensures, c.data_members.ensures, c.over.ensures)
    (omega (arith, stripe-fits _ _ (block_sound _ _ c.requires)))

pub returns : goal.returns
unfolding stripe_of
returns c = rw (c.rest.ensures, c.over-2.ensures, c.data_members.ensures, c.over.ensures)
