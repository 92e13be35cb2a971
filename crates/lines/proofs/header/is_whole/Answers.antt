use Rattle.std.proofs.Common.{arith, get_or}
use Rattle.lines.proofs.Headers.{size_least}
use Rattle.lines.proofs.header.is_whole.Goals as goal

pub overflow_sub-result : goal.overflow_sub-result
overflow_sub-result c = omega (arith, c.header_size-size.ensures, size_least (get_or c.args.header.now 2 0))
