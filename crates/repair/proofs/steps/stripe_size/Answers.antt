-- `repair::steps::stripe_size` meets its contract. Assumes nothing.
use Rattle.std.proofs.Common.{sym, arith}
use Rattle.repair.proofs.Ranges.{stripe_bounded}
use Rattle.repair.proofs.steps.stripe_size.Goals as goal

pub overflow_mul-result : goal.overflow_mul-result
overflow_mul-result c =
    let a = c.args in
    record { fits = rw c.block_length.ensures (omega (arith, stripe_bounded a.array a.stripe (sym c.in-Ok.ensures))) }
