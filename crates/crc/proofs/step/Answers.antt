-- `crc::step` meets its contract. The invariant: the bits still to come, from the register now, give what all eight give from the first.
-- Assumes nothing.
use mathlib.Core.Path.{◌≡◌}
use mathlib.Core.List.{append-nil}
use Prim.Native.Nat.{suc, ◌-◌}
use native.Mathlib.Omega.{arith}
use Rattle.crc.specs.Crc.{feed, bits, bits_of}
use Rattle.crc.specs.Guard.{run}
use Rattle.crc.proofs.step.Goals as goal

pub loop-i-init : goal.loop-i-init
unfolding run bits_of
loop-i-init c = rw append-nil

pub loop-i-preserved : goal.loop-i-preserved
unfolding feed bits
loop-i-preserved c =
    let i = c.loop-i.i in
    let one : i ≡ suc (i - 1) = omega arith in
    rw (c.bit_step-after.ensures, c.from.ensures) (rw one at c.loop-i.invariant)

pub returns : goal.returns
unfolding feed bits
returns c =
    let none : c.loop-i.i ≡ 0 = omega arith in
    rw none at c.loop-i.invariant
