-- `xor::xor_into` meets its contract. The invariant: what is done, followed by what is left to add, is the whole sum.
-- Assumes nothing.
use mathlib.Core.Path.{sym, ◌∙◌}
use native.Mathlib.Omega.{arith}
use Rattle.xor.proofs.Lists.{xors-turn, xors_end}
use Rattle.xor.proofs.xor_into.Goals as goal

pub loop-i-preserved : goal.loop-i-preserved
loop-i-preserved c = let at = c.loop-i in xors-turn _ _ at.i (omega arith) (omega arith) ∙ at.invariant

pub returns : goal.returns
returns c = let at = c.loop-i in sym (xors_end _ _ at.i (omega arith)) ∙ at.invariant
