-- `checksum::four` meets its contract. Assumes nothing.
use native.Mathlib.Omega.{arith}
use Prim.Native.Nat.{◌+◌}
use Rattle.checksum.proofs.Columns.{four-stack}
use Rattle.checksum.proofs.four.Goals as goal

pub overflow_add-result-2 : goal.overflow_add-result-2
overflow_add-result-2 c = let b = c.type_inv.bytes in let at = c.args.at in omega (arith, b at, b (at + 32))

pub returns : goal.returns
returns c = let a = c.args in let b = c.type_inv.bytes in let e = four-stack a.bytes.now a.at in (cc, omega (arith, b a.at, b (a.at + 32), b (a.at + 64), b (a.at + 96)))
