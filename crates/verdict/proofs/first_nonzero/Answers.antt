-- `verdict::first_nonzero` meets its contract. The invariant: the first place that is not zero is the first of those still to come.
-- Assumes nothing.
use mathlib.Core.Path.{◌≡◌, sym, ap, ◌∙◌}
use mathlib.Core.Bool.{not}
use native.Mathlib.Omega.{arith}
use lib.ListN.{length}
use borrow.Author.Tests.{eq-eqb, ne_eqb, eqb-true}
use Rattle.verdict.specs.Verdicts.{count, nonzero}
use Rattle.verdict.proofs.Flags.{lowest-none, lowest_miss, lowest_hit, lowest_end}
use Rattle.verdict.proofs.Verdicts.{length-nonzero, nonzero-at}
use Rattle.verdict.proofs.first_nonzero.Goals as goal

pub returns-then-all_zero : goal.returns-then-all_zero
returns-then-all_zero c =
    let bytes = c.args.bytes.now in
    let none : count (nonzero bytes) ≡ 0 = eqb-true (count (nonzero bytes)) 0 (sym c.all_zero.ensures ∙ c.if-all_zero.true) in
    sym (lowest-none (nonzero bytes) none ∙ length-nonzero bytes)

pub returns-then-bytes-place-ne0 : goal.returns-then-bytes-place-ne0
returns-then-bytes-place-ne0 c =
    let at = c.loop-place in
    let bytes = c.args.bytes.now in
    lowest_hit (nonzero bytes) at.place (omega (arith, length-nonzero bytes)) (nonzero-at bytes at.place ∙ ap not (ne_eqb _ 0 c.if-bytes-place-ne0.true)) ∙ at.invariant

pub loop-place-preserved : goal.loop-place-preserved
loop-place-preserved c =
    let at = c.loop-place in
    let bytes = c.args.bytes.now in
    lowest_miss (nonzero bytes) at.place (omega (arith, length-nonzero bytes)) (nonzero-at bytes at.place ∙ ap not (eq-eqb _ 0 c.if-bytes-place-ne0.false)) ∙ at.invariant

pub returns : goal.returns
returns c =
    let at = c.loop-place in
    let bytes = c.args.bytes.now in
    let all : length bytes ≡ at.place = omega arith in
    all ∙ lowest_end (nonzero bytes) at.place (omega (arith, length-nonzero bytes)) ∙ at.invariant
