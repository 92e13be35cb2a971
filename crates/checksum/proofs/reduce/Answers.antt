-- `checksum::reduce` meets its contract: three times are enough. Assumes nothing.
use native.Mathlib.Omega.{arith}
use Rattle.checksum.specs.Checksum.{wrapped}
use Rattle.checksum.proofs.Reduced.{thrice, thrice_second, thrice_lt}
use Rattle.checksum.proofs.reduce.Goals as goal

pub overflow_add-result : goal.overflow_add-result
unfolding wrapped
overflow_add-result c = omega (arith, thrice_second c.args.x c.requires)

pub overflow_cast-result : goal.overflow_cast-result
unfolding wrapped
overflow_cast-result c = omega (arith, thrice_lt c.args.x c.requires)

pub returns : goal.returns
unfolding wrapped
returns c = thrice c.args.x c.requires
