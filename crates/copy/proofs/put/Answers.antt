-- `copy::put` meets its contract: where there is room for all by one run, else by the part that fits. Assumes nothing.
use mathlib.Core.Path.{sym, ◌∙◌}
use native.Mathlib.Omega.{arith}
use Rattle.copy.proofs.Puts.{sets-past, sets-room}
use Rattle.copy.proofs.put.Goals as goal

pub returns-in_default : goal.returns-in_default
returns-in_default c = let a = c.args in sym (sets-past a.dst.now a.at a.src.now (omega arith))

pub returns-else-src-room : goal.returns-else-src-room
returns-else-src-room c =
    let a = c.args in
    c.fill-else-src-room.ensures ∙ sets-room a.dst.now a.at c.in-Some.room a.src.now (omega (arith, c.in-Some.ensures))
