-- `castagnoli_rows::rows::word` meets its contract: the bits of the number are those of the bytes.
-- Assumes nothing.
use mathlib.Core.Path.{ap, ◌∙◌}
use native.Mathlib.Omega.{arith}
use Rattle.castagnoli_words.specs.Words.{rest}
use Rattle.castagnoli_rows.proofs.Reading.{little_eight, little-piece}
use Rattle.castagnoli_rows.proofs.rows.word.Goals as goal

pub returns : goal.returns
returns c =
    let b = c.args.b.now in
    let p = c.args.p in
    ap rest (c.from_le_bytes.ensures ∙ little_eight b p) ∙ little-piece b p (λ k. omega (arith, c.type_inv.b k)) (omega arith)
