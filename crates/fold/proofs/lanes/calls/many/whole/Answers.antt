-- `fold::lanes::calls::many::whole` meets its contract.
-- Assumes nothing.
use Prim.Native.Nat.{◌+◌, ◌-◌, ◌/◌, min}
use native.Mathlib.Nat.{div-le_self}
use native.Mathlib.Omega.{arith}
use mathlib.Core.Path.{◌≡◌, sym, subst}
use Rattle.fold.specs.Many.{Whole}
use Rattle.fold.proofs.Strides.{all_whole, some-whole}
use Rattle.fold.proofs.lanes.calls.many.whole.Goals as goal

pub returns-then-stride-eq0 : goal.returns-then-stride-eq0
returns-then-stride-eq0 c =
    let a = c.args in
    all_whole a.stride a.end (omega arith) (omega arith)

pub overflow_add-end : goal.overflow_add-end
overflow_add-end c =
    let a = c.args in
    omega (arith, div-le_self (a.end - 512) a.stride)

pub returns : goal.returns
returns c =
    let a = c.args in
    let e : c.min.result ≡ min 16 ((a.end - 512) / a.stride + 1) = omega arith in
    subst (Whole a.stride a.end) (sym e) (some-whole a.stride a.end (omega arith) (omega arith))
