-- `verdict::judge_at` meets its contract: bad goes before unchecked, unchecked before torn, and torn is where the place is inside, or what is behind is not zero.
-- Assumes nothing.
use mathlib.Core.Path.{sym, ap₂, ◌∙◌}
use mathlib.Core.Bool.{not, ◌||◌}
use Prim.Native.Nat.{ℕ}
use native.Mathlib.Omega.{arith}
use lib.Dec.{eqb, ltb}
use lib.ListN.{get_or}
use Rattle.verdict.specs.Verdicts.{says_bad, says_unchecked}
use Rattle.verdict.proofs.Verdicts.{found_in, none_in, counted_in, at-bad, at-unchecked, at-torn, at_none, torn_by_place, torn_by_left, torn_by_none}
use Rattle.verdict.proofs.judge_at.Goals as goal

pub bounds-members-member : goal.bounds-members-member
bounds-members-member c = (found_in 1 7 c.args.members.now _ (sym c.in-Some.is ∙ c.lowest_in.ensures)).inside

pub returns-in-Some : goal.returns-in-Some
returns-in-Some c =
    let a = c.args in
    let found = found_in 1 7 a.members.now _ (sym c.in-Some.is ∙ c.lowest_in.ensures) in
    ap₂ (λ (m k : ℕ). says_bad m k (get_or a.members.now m 0)) found.lowest_is (c.count_in.ensures ∙ counted_in 1 7 a.members.now)
    ∙ sym (at-bad a.members.now (ltb a.place a.length || not (eqb a.left 0)) a.place found.some)

pub returns-in-Some-lowest_in : goal.returns-in-Some-lowest_in
returns-in-Some-lowest_in c =
    let a = c.args in
    let found = found_in 8 8 a.members.now _ (sym c.in-Some-lowest_in.is ∙ c.lowest_in-2.ensures) in
    ap₂ says_unchecked found.lowest_is (c.count_in-in-Some-lowest_in.ensures ∙ counted_in 8 8 a.members.now)
    ∙ sym (at-unchecked a.members.now (ltb a.place a.length || not (eqb a.left 0)) a.place
    (none_in 1 7 a.members.now (sym c.in_default.is ∙ c.lowest_in.ensures)) found.some)

pub returns-then-place-length : goal.returns-then-place-length
returns-then-place-length c =
    let a = c.args in
    sym (at-torn a.members.now (ltb a.place a.length || not (eqb a.left 0)) a.place
    (none_in 1 7 a.members.now (sym c.in_default.is ∙ c.lowest_in.ensures)) (none_in 8 8 a.members.now (sym c.in_default-lowest_in.is ∙ c.lowest_in-2.ensures))
    (torn_by_place a.place a.length a.left c.if-place-length.true))

pub returns-then-left-ne0 : goal.returns-then-left-ne0
returns-then-left-ne0 c =
    let a = c.args in
    sym (at-torn a.members.now (ltb a.place a.length || not (eqb a.left 0)) a.place
    (none_in 1 7 a.members.now (sym c.in_default.is ∙ c.lowest_in.ensures)) (none_in 8 8 a.members.now (sym c.in_default-lowest_in.is ∙ c.lowest_in-2.ensures))
    (torn_by_left a.place a.length a.left c.if-left-ne0.true))

pub returns : goal.returns
returns c =
    let a = c.args in
    sym (at_none a.members.now (ltb a.place a.length || not (eqb a.left 0)) a.place
    (none_in 1 7 a.members.now (sym c.in_default.is ∙ c.lowest_in.ensures)) (none_in 8 8 a.members.now (sym c.in_default-lowest_in.is ∙ c.lowest_in-2.ensures))
    (torn_by_none a.place a.length a.left (omega (arith, c.if-place-length.false)) c.if-left-ne0.false))
