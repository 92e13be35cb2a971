-- `join::scaled` meets its contract. The invariant: the factors still to come, from the register and the digits now, give the
-- result. Assumes nothing.
use mathlib.Core.Path.{◌≡◌, sym, ◌∙◌}
use Prim.Native.Nat.{◌%◌}
use native.Mathlib.Omega.{arith}
use lib.ListN.{get_or}
use Rattle.crc.specs.Guard.{generator}
use Rattle.join.specs.Remainders.{chosen}
use Rattle.join.proofs.Scaling.{scaled-turn, scaled_end}
use Rattle.join.proofs.scaled.Goals as goal
use Rattle.join.proofs.scaled.Goals.{then-left-eq1, else-left-eq1}

pub loop-factor-preserved : goal.loop-factor-preserved
unfolding chosen
loop-factor-preserved c =
    let at = c.loop-factor in
    let table = c.args.table.now in
    let factor = get_or table at.factor-index 0 in
    let turned : c.if-left-eq1.after ≡ chosen 16 generator at.after factor (at.left % 2) =
    elim c.if-left-eq1.branch [
      | then-left-eq1 w ↦ rw w.if-left-eq1.true (w.after-is ∙ w.times-after.ensures)
      | else-left-eq1 w ↦ let even : at.left % 2 ≡ 0 = omega arith in rw even w.after-is
    ] in
    rw turned (scaled-turn 16 generator table at.after at.left at.factor-index (omega arith) ∙ at.invariant)

pub returns : goal.returns
returns c =
    let at = c.loop-factor in
    sym (scaled_end 16 generator c.args.table.now at.after at.left at.factor-index (omega arith)) ∙ at.invariant
