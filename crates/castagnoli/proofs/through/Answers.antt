-- `castagnoli::through` meets its contract. The invariant: the bytes still to come, from the register now, give what all give from the first.
-- Assumes nothing.
use mathlib.Core.Path.{sym, ap, ◌∙◌}
use Prim.Native.Nat.{◌-◌, ◌≤◌}
use native.Mathlib.Omega.{arith}
use lib.ListN.{length, drop, length-drop, drop_of_length-le}
use lib.Seq.{take_all}
use Rattle.castagnoli.specs.Tables.{look_run}
use Rattle.castagnoli.proofs.Looked.{look_turn, look_last, look_none}
use Rattle.castagnoli.proofs.through.Goals as goal

pub loop-left-preserved : goal.loop-left-preserved
loop-left-preserved c =
    let at = c.loop-left in
    let left = at.left.now in
    let rest = drop 2 left in
    rw (c.two-after.ensures, take_all (length left - 2) rest (omega (arith, length-drop 2 left))) (look_turn _ _ at.after left 0 (omega arith) ∙ at.invariant)

pub returns-in-len1 : goal.returns-in-len1
returns-in-len1 c =
    let at = c.loop-left in
    c.one.ensures ∙ look_last _ _ at.after at.left.now 0 (omega arith) ∙ at.invariant

pub returns-in_default-left : goal.returns-in_default-left
returns-in_default-left c =
    let at = c.loop-left in
    let a = c.args in
    let none : length at.left.now ≤ 0 = omega arith in
    sym (look_none a.first.now a.last.now at.after) ∙ ap (look_run a.first.now a.last.now at.after) (sym (drop_of_length-le at.left.now none)) ∙ at.invariant
