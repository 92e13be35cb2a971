-- `castagnoli_rows::rows::rows` meets its contract.
-- Assumes nothing.
use mathlib.Core.Path.{ap₂, ◌∙◌}
use Prim.Native.Nat.{ℕ}
use native.Mathlib.Omega.{arith}
use Rattle.castagnoli_words.specs.Words.{after}
use Rattle.castagnoli_rows.proofs.Reading.{columns_quad}
use borrow.Author.Rules.{rules}
use Rattle.castagnoli_rows.proofs.rows.rows.Goals as goal

pub returns : goal.returns
returns c =
    let b = c.args.b in
    let lane = c.lanes-words.ensures in
    c.end.ensures ∙ c.joined.ensures
    ∙ ap₂ (λ (x y : ℕ). after 64 x y)
    (ap₂ (λ (x y : ℕ). after 128 x y) (lane 0 (omega arith)) (lane 2 (omega arith))) (ap₂ (λ (x y : ℕ). after 128 x y) (lane 1 (omega arith)) (lane 3 (omega arith)))
    ∙ columns_quad b (search rules)
