-- `told_answer` sets out the fields that are told. Assumes nothing.
use mathlib.Core.Path.{sym, ap, ap₂, ◌∙◌}
use mathlib.Core.Bool.{cond}
use mathlib.Core.List.{List, ◌∷◌, ◌++◌}
use Prim.Native.Nat.{ℕ}
use lib.Dec.{eqb}
use Rattle.tag.specs.Tags.{faults, kind_of, beside}
use Rattle.tag.proofs.Cases.{kind_of_faults}
use Rattle.irumbolai.specs.Answers.{field_numbers}
use Rattle.irumbolai.proofs.stripes.told_answer.Goals as goal

pub returns : goal.returns
returns c =
    let r = c.field_answer-reference in
    let a = c.field_answer-application in
    let g = c.field_answer-guard in
    let s = c.args in
    let kind = c.told_kind-kind.ensures ∙ ap (λ (x : ℕ). cond (eqb x 0) 0 1) c.faults.ensures ∙ sym (kind_of_faults s.found s.expected) in
    ap₂ (λ (x : ℕ) (l : List ℕ). 0 ∷ x ∷ l ++ field_numbers a.result ++ field_numbers r.result) kind g.ensures
    ∙ ap₂ (λ (l m : List ℕ). 0 ∷ kind_of (faults s.found s.expected) ∷ beside s.found.guard s.expected.guard ++ l ++ m) a.ensures r.ensures
