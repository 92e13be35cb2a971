-- `format::positions::part_at_large` is `part_at`: each arm is its range. Assumes nothing.
use native.Mathlib.Omega.{arith}
use borrow.Author.Tests.{lt-ltb, le-ltb}
use Rattle.format.specs.Positions.{part_at}
use Rattle.format.proofs.positions.part_at_large.Goals as goal

pub returns-in-0-to-4095 : goal.returns-in-0-to-4095
unfolding part_at
returns-in-0-to-4095 c =
    let a = c.args in
    let p = a.position in
    rw (lt-ltb p 4096 (omega arith))

pub returns-in-4096-to-4099 : goal.returns-in-4096-to-4099
unfolding part_at
returns-in-4096-to-4099 c =
    let a = c.args in
    let p = a.position in
    rw (le-ltb p 4096 (omega arith), lt-ltb p 4100 (omega arith))

pub returns-in-4100-to-4103 : goal.returns-in-4100-to-4103
unfolding part_at
returns-in-4100-to-4103 c =
    let a = c.args in
    let p = a.position in
    rw (le-ltb p 4096 (omega arith), le-ltb p 4100 (omega arith), lt-ltb p 4104 (omega arith))

pub returns-in-4104-to-4111 : goal.returns-in-4104-to-4111
unfolding part_at
returns-in-4104-to-4111 c =
    let a = c.args in
    let p = a.position in
    rw (le-ltb p 4096 (omega arith), le-ltb p 4100 (omega arith), le-ltb p 4104 (omega arith), lt-ltb p 4112 (omega arith))

pub returns-in_default : goal.returns-in_default
unfolding part_at
returns-in_default c =
    let a = c.args in
    let p = a.position in
    rw (le-ltb p 4096 (omega arith), le-ltb p 4100 (omega arith), le-ltb p 4104 (omega arith), le-ltb p 4112 (omega arith))
