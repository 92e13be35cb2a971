-- `intent::rewrite` meets its contract. Assumes nothing.
use mathlib.Core.Path.{◌≡◌, ap, ap₂, ◌∙◌}
use mathlib.Core.List.{List}
use Prim.Native.Nat.{ℕ, ◌*◌}
use native.Mathlib.Omega.{arith}
use lib.Seq.{sets}
use Rattle.tag.proofs.Numbers.{high_first}
use Rattle.verdict.specs.Verdicts.{lowest}
use Rattle.intent.specs.Records.{entries, those, written}
use Rattle.intent.proofs.Counted.{first-inside}
use Rattle.intent.proofs.rewrite.Goals as goal

pub overflow_mul-place : goal.overflow_mul-place
overflow_mul-place c =
    let place_is : let a = c.args in c.first-place.result ≡ lowest (those a.old (entries a.log.now)) = let a = c.args in
    c.first-place.ensures ∙ ap (λ (l : List ℕ). lowest (those a.old l)) c.entries_of.ensures in
    omega (arith, place_is, first-inside c.args.log.now c.args.old c.requires)

pub returns : goal.returns
unfolding written
returns c =
    let place_is : let a = c.args in c.first-place.result ≡ lowest (those a.old (entries a.log.now)) = let a = c.args in
    c.first-place.ensures ∙ ap (λ (l : List ℕ). lowest (those a.old l)) c.entries_of.ensures in
    let a = c.args in
    c.put.ensures ∙ ap₂ (λ (k : ℕ) (l : List ℕ). sets a.log.now (8 * k) l) place_is (c.to_be_bytes.ensures ∙ high_first 8 a.new)
