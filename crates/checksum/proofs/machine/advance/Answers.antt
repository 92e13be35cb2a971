-- `checksum::machine::advance` meets its contract. Assumes nothing.
use mathlib.Core.Path.{ap, ◌∙◌}
use Prim.Native.Nat.{ℕ, ◌-◌}
use native.Mathlib.Omega.{arith}
use lib.ListN.{length, take, drop}
use Rattle.checksum.specs.Machine.{register_of, advance}
use Rattle.checksum.proofs.Joined.{advance-parity, advance-empty, advance-first}
use Rattle.checksum.proofs.machine.advance.Goals as goal

pub returns-then-at-eq0 : goal.returns-then-at-eq0
returns-then-at-eq0 c =
    let a = c.args in
    c.from_even.ensures ∙ advance-parity 0 a.at a.register a.bytes.now (omega arith)

pub returns-then-bytes-eq0 : goal.returns-then-bytes-eq0
returns-then-bytes-eq0 c =
    let a = c.args in
    advance-empty a.at a.register a.bytes.now (omega arith)

pub returns : goal.returns
returns c =
    let a = c.args in
    let bytes = a.bytes.now in
    c.from_even-2.ensures
    ∙ ap (λ (s : ℕ). advance 0 (register_of s 0) (take (length bytes - 1) (drop 1 bytes))) c.take_word.ensures
    ∙ advance-first a.at a.register bytes (omega arith) (omega arith)
