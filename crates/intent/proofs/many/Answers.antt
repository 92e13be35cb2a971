-- `intent::many` meets its contract. The invariant: the count so far is that of the entries passed.
-- Assumes nothing.
use mathlib.Core.Path.{◌≡◌, ap, ◌∙◌}
use mathlib.Core.Bool.{cond}
use Prim.Native.Nat.{ℕ, ◌+◌, ◌≤◌}
use native.Mathlib.Omega.{arith}
use borrow.Author.Tests.{eq-eqb, ne_eqb}
use lib.Dec.{eqb}
use lib.ListN.{get_or}
use lib.Seq.{take_all}
use Rattle.intent.specs.Records.{many}
use Rattle.intent.proofs.Entries.{counted}
use Rattle.intent.proofs.many.Goals as goal
use Rattle.intent.proofs.many.Goals.{then-entries-i, else-entries-i}

pub loop-i-preserved : goal.loop-i-preserved
loop-i-preserved c =
    let at = c.loop-i in
    let a = c.args in
    let es = a.entries.now in
    let flag : ℕ = cond (eqb (get_or es at.i 0) a.number) 1 0 in
    let more : (c.if-entries-i.count ≡ at.count + flag) × (flag ≤ 1) =
    elim c.if-entries-i.branch [
      | then-entries-i w ↦ let one : flag ≡ 1 = ap (λ b. cond b 1 0) (eq-eqb _ _ w.if-entries-i.true) in (omega (arith, w.count-is, one), omega (arith, one))
      | else-entries-i w ↦ let none : flag ≡ 0 = ap (λ b. cond b 1 0) (ne_eqb _ _ w.if-entries-i.false) in (omega (arith, w.count-is, none), omega (arith, none))
    ] in
    (omega (arith, at.invariant.0, more), omega (arith, at.invariant.1, more.0, counted es a.number at.i (omega arith)))

pub returns : goal.returns
returns c =
    let at = c.loop-i in
    let a = c.args in
    at.invariant.1 ∙ ap (many a.number) (take_all at.i a.entries.now (omega arith))
