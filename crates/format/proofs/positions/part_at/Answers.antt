-- `format::positions::part_at` is `part_at`: each arm is its range. Assumes nothing.
use mathlib.Core.Path.{◌≡◌, refl, ap, ◌∙◌}
use mathlib.Core.Logic.{◌≢◌}
use Prim.Native.Nat.{ℕ}
use native.Mathlib.Omega.{arith}
use borrow.Author.Tests.{lt-ltb, le-ltb}
use Rattle.format.specs.Formats.{Format}
use Rattle.format.specs.Methods.{t10, format_of}
use Rattle.format.specs.Positions.{part_at}
use Rattle.format.proofs.Meant.{kind_small}
use Rattle.format.proofs.Laws.{of_small}
use Rattle.format.proofs.positions.part_at.Goals as goal

-- but for large blocks, the ranges are those of method 1
alike : (method p : ℕ) → method ≢ 3 → part_at (format_of method) p ≡ part_at t10 p
unfolding part_at
alike method p = of_small (λ F. part_at F p ≡ part_at t10 p) refl refl method

pub returns-in-Large : goal.returns-in-Large
returns-in-Large c = let a = c.args in c.part_at_large.ensures ∙ ap (λ (F : Format). part_at F a.position) c.in-Large.ensures

pub returns-in-0-to-511 : goal.returns-in-0-to-511
unfolding part_at
returns-in-0-to-511 c =
    let a = c.args in
    let p = a.position in
    rw (alike a.method p (kind_small a.method _ c.kind_of.ensures c.in_default.not-Large), lt-ltb p 512 (omega arith))

pub returns-in-512-to-513 : goal.returns-in-512-to-513
unfolding part_at
returns-in-512-to-513 c =
    let a = c.args in
    let p = a.position in
    rw (alike a.method p (kind_small a.method _ c.kind_of.ensures c.in_default.not-Large), le-ltb p 512 (omega arith), lt-ltb p 514 (omega arith))

pub returns-in-514-to-515 : goal.returns-in-514-to-515
unfolding part_at
returns-in-514-to-515 c =
    let a = c.args in
    let p = a.position in
    rw (alike a.method p (kind_small a.method _ c.kind_of.ensures c.in_default.not-Large), le-ltb p 512 (omega arith), le-ltb p 514 (omega arith), lt-ltb p 516 (omega arith))

pub returns-in-516-to-519 : goal.returns-in-516-to-519
unfolding part_at
returns-in-516-to-519 c =
    let a = c.args in
    let p = a.position in
    rw (alike a.method p (kind_small a.method _ c.kind_of.ensures c.in_default.not-Large), le-ltb p 512 (omega arith), le-ltb p 514 (omega arith), le-ltb p 516 (omega arith), lt-ltb p 520 (omega arith))

pub returns-in_default-position : goal.returns-in_default-position
unfolding part_at
returns-in_default-position c =
    let a = c.args in
    let p = a.position in
    rw (alike a.method p (kind_small a.method _ c.kind_of.ensures c.in_default.not-Large), le-ltb p 512 (omega arith), le-ltb p 514 (omega arith), le-ltb p 516 (omega arith), le-ltb p 520 (omega arith))
