-- `fold::lanes::lane` meets its contract: the nine words are joined in an order that keeps what their column comes to.
-- Assumes nothing.
use mathlib.Core.Path.{ap, ap₂, ◌∙◌}
use Prim.Native.Nat.{ℕ, ◌+◌}
use lib.Bits.{bit_xor, xor_zero_r}
use Rattle.words.specs.Words.{after}
use Rattle.fold.specs.Reading.{seen, piece}
use Rattle.fold.specs.Columns.{four, nine}
use Rattle.fold.proofs.Rows.{ordered}
use Rattle.fold.proofs.Blocks.{seen_none}
use Rattle.fold.proofs.lanes.lane.Goals as goal

pub returns : goal.returns
unfolding nine
returns c =
    let a = c.args in
    let b = a.b.now in
    let p = a.p in
    let at : ℕ → ℕ → ℕ = (λ (i q : ℕ). four b (p + i) (p + q)) in
    c.past_row.ensures
    ∙ ap₂ (λ (x y : ℕ). after 256 x y)
    (c.past_four_rows-from_fourth.ensures
    ∙ ap₂ (λ (x y : ℕ). after 1024 x y) c.met-fourth.ensures
    (c.past_six_rows-from_second.ensures ∙ ap₂ (λ (x y : ℕ). after 1536 x y) c.met-second.ensures c.added-eighth.ensures))
    (c.past_two_rows.ensures
    ∙ ap₂ (λ (x y : ℕ). after 512 x y)
    (c.past_row-to_seventh.ensures
    ∙ ap₂ (λ (x y : ℕ). after 256 x y) c.met-sixth.ensures
    (c.past_six_rows-from_front.ensures ∙ ap₂ (λ (x y : ℕ). after 1536 x y) c.added-front.ensures c.met-seventh.ensures))
    (c.past_four_rows-from_fifth.ensures
    ∙ ap₂ (λ (x y : ℕ). after 1024 x y) c.met-fifth.ensures
    (c.past_six_rows-from_third.ensures
    ∙ ap₂ (λ (x y : ℕ). after 1536 x y) c.met-third.ensures (c.added-ninth.ensures ∙ ap (bit_xor (piece b (p + 480))) seen_none ∙ xor_zero_r (piece b (p + 480))))))
    ∙ ordered (bit_xor (piece b (p + 224)) (seen a.first)) (at 256 8) (at 288 40) (at 320 72) (at 352 104) (at 384 136) (at 416 168) (bit_xor (piece b (p + 448)) (seen a.last)) (piece b (p + 480))
