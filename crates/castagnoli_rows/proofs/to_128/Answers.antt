-- `castagnoli_rows::to_128` meets its contract: nothing stands before the bytes.
-- Assumes nothing.
use mathlib.Core.List.{[]}
use Rattle.castagnoli_rows.proofs.Blanks.{folded_near, ready-near}
use borrow.Author.Rules.{rules}
use Rattle.castagnoli_rows.proofs.to_128.Goals as goal

pub returns : goal.returns
returns c = folded_near c.args.b c.take_below.new.w c.tail_below.result (search rules) (search rules) (c.take_below.ensures.taken (search rules) [] ready-near) (c.tail_below.ensures.left (search rules))
