-- `join::times` meets its contract. The invariant: the digits still to come, from the register now, give the product.
-- Assumes nothing.
use mathlib.Core.Path.{◌≡◌}
use Rattle.crc.specs.Guard.{generator}
use Rattle.join.specs.Remainders.{horner, product}
use Rattle.join.proofs.times.Given as goal

abbrev pub invariant-loop-i : goal.invariant-loop-i
invariant-loop-i l = horner 16 generator l.a l.b l.i l.after ≡ product 16 generator l.a l.b
