-- `castagnoli_rows::rows::lane` meets its contract.
-- Assumes nothing.
use mathlib.Core.Path.{ap₂, ◌∙◌}
use Rattle.castagnoli_words.specs.Words.{after}
use Rattle.castagnoli_rows.specs.Reading.{column}
use Rattle.castagnoli_rows.proofs.rows.lane.Goals as goal

pub returns : goal.returns
unfolding column
returns c =
    c.past_row-3.ensures
    ∙ ap₂ (after 256)
    (c.past_row-2.ensures
    ∙ ap₂ (after 256) (c.past_row.ensures ∙ ap₂ (after 256) c.word.ensures c.word-2.ensures) c.word-3.ensures)
    c.word-4.ensures
