-- `join::times` meets its contract. The invariant: the digits still to come, from the register now, give the product.
-- Assumes nothing.
use mathlib.Core.Path.{◌≡◌, refl}
use Prim.Native.Nat.{suc, ◌-◌}
use native.Mathlib.Omega.{arith}
use Rattle.join.specs.Remainders.{horner, product}
use Rattle.join.proofs.times.Goals as goal

pub loop-i-init : goal.loop-i-init
unfolding product
loop-i-init c = refl

pub loop-i-preserved : goal.loop-i-preserved
unfolding horner
loop-i-preserved c =
    let i = c.loop-i.i in
    let one : i ≡ suc (i - 1) = omega arith in
    rw (c.times_x.ensures) (rw one at c.loop-i.invariant)

pub returns : goal.returns
unfolding horner
returns c =
    let none : c.loop-i.i ≡ 0 = omega arith in
    rw none at c.loop-i.invariant
