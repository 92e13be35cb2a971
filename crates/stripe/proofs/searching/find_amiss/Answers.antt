-- `stripe::searching::find_amiss` meets its contract. The invariant: the lowest from here on is the lowest of all.
-- Assumes nothing.
use mathlib.Core.Path.{◌≡◌, sym, ◌∙◌}
use Prim.Native.Nat.{◌<◌}
use native.Mathlib.Omega.{arith}
use Rattle.verdict.proofs.Flags.{lowest_miss, lowest_hit, lowest_end}
use Rattle.stripe.specs.Tables.{table}
use Rattle.stripe.specs.InPart.{amiss}
use Rattle.stripe.proofs.Tables.{length-table, get_or-table}
use Rattle.stripe.proofs.searching.find_amiss.Goals as goal

pub returns-then-is_amiss : goal.returns-then-is_amiss
returns-then-is_amiss c =
    let at = c.loop-member in
    let a = c.args in
    let n = a.held.now.stripe.array.members in
    let f = amiss a.held.now.stripe.array a.held.now.stripe.number a.held.now.bytes.now in
    let here : at.member < n = omega arith in
    lowest_hit (table n f) at.member (rw length-table here) (get_or-table n f _ at.member here ∙ sym c.is_amiss.ensures ∙ c.if-is_amiss.true) ∙ at.invariant

pub loop-member-preserved : goal.loop-member-preserved
loop-member-preserved c =
    let at = c.loop-member in
    let a = c.args in
    let n = a.held.now.stripe.array.members in
    let f = amiss a.held.now.stripe.array a.held.now.stripe.number a.held.now.bytes.now in
    let here : at.member < n = omega arith in
    lowest_miss (table n f) at.member (rw length-table here) (get_or-table n f _ at.member here ∙ sym c.is_amiss.ensures ∙ c.if-is_amiss.false) ∙ at.invariant

pub returns : goal.returns
returns c =
    let at = c.loop-member in
    let a = c.args in
    let f = amiss a.held.now.stripe.array a.held.now.stripe.number a.held.now.bytes.now in
    let last : a.held.now.stripe.array.members ≡ at.member = omega arith in
    last ∙ lowest_end (table a.held.now.stripe.array.members f) at.member (rw length-table (omega arith)) ∙ at.invariant
