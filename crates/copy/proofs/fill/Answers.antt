-- `copy::fill` meets its contract. The invariant: what is left to write, over what is written, is the whole.
-- Assumes nothing.
use mathlib.Core.Path.{refl, sym, ◌∙◌}
use native.Mathlib.Nat.{add-zero}
use native.Mathlib.Omega.{arith}
use lib.ListN.{length-set}
use Rattle.copy.proofs.Puts.{sets-turn, sets_end}
use Rattle.copy.proofs.fill.Goals as goal

pub loop-i-init : goal.loop-i-init
loop-i-init c = (refl, rw add-zero)

pub loop-i-preserved : goal.loop-i-preserved
loop-i-preserved c =
    let at = c.loop-i in
    (simp length-set at.invariant.0, sets-turn _ _ at.i _ (omega arith) ∙ at.invariant.1)

pub returns : goal.returns
returns c = let at = c.loop-i in sym (sets_end _ _ at.i _ (omega arith)) ∙ at.invariant.1
