-- `scan::taking::fit_at_once` is `fit`, of the parts of a state: of all sixteen together, else by the members one by one. Assumes nothing.
use mathlib.Core.Path.{◌≡◌, ap, ◌∙◌}
use mathlib.Core.List.{[]}
use Prim.Native.Nat.{ℕ}
use native.Mathlib.Omega.{arith}
use lib.Dec.{eqb}
use lib.ListN.{length}
use borrow.Author.Rules.{rules}
use Rattle.scan.specs.declared.Scan.{Scan}
use Rattle.scan.specs.Scans.{fit}
use Rattle.scan.proofs.Fitness.{fit-told}
use Rattle.scan.proofs.Refusals.{ok-told}
use Rattle.scan.proofs.taking.fit_at_once.Goals as goal

pub returns-then-none_waits : goal.returns-then-none_waits
unfolding fit
returns-then-none_waits c =
    let p = c.args in
    let s : Scan = record { array = p.array; stripe = p.stripe; at = p.at.now; register = p.register.now; waiting = p.waiting.now; tag = [] } in
    let long : length p.at.now ≡ 16 = search rules in
    c.is_ok.ensures.value ∙ ok-told _ ∙ ap (λ (x : ℕ). eqb x 0) c.check_stripe.ensures
    ∙ fit-told s (λ i h. omega (arith, c.none_past.ensures c.if-none_past.true i h, c.block_length-end.ensures))
    (λ i h. omega (arith, c.none_above.ensures c.if-none_above.true i h, c.most_value-most.ensures)) (c.none_waits.ensures c.if-none_waits.true) long
