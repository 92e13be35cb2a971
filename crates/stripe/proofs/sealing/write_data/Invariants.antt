-- `stripe::sealing::write_data` meets its contract. The invariant: the blocks below the member are written, the others are as they were.
-- Assumes nothing.
use Rattle.stripe.proofs.Seals.{Written}
use Rattle.stripe.proofs.sealing.write_data.Given as goal

abbrev pub invariant-loop-member : goal.invariant-loop-member
invariant-loop-member l = Written l.stripe.array l.stripe.number l.content l.initial.bytes l.member l.bytes
