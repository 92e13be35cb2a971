-- `repair::Repair::stripe_whole` meets its contract. Assumes nothing.
use Rattle.std.proofs.Common.{refl}
use Rattle.lines.proofs.Lines.{written-whole}
use Rattle.repair.proofs.Doing.{stripe-mended}
use Rattle.repair.proofs.Repair.stripe_whole.Goals as goal

pub returns : goal.returns
returns c =
    let a = c.args in
    let room = c.requires.room in
    stripe-mended a.used a.self a.held.now a.image.now a.list.now room.held_has c.mend-listed.ensures.bytes_after
    (written-whole room.list_has c.mend-listed.ensures.written) refl c.put.ensures c.next_stripe.ensures
