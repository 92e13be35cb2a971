-- `fold::lanes::calls::block` meets its contract.
-- Assumes nothing.
use mathlib.Core.Path.{◌∙◌}
use Rattle.fold.proofs.Blocks.{block}
use borrow.Author.Rules.{rules}
use Rattle.fold.proofs.lanes.calls.block.Goals as goal

pub returns : goal.returns
returns c =
    let a = c.args in
    c.end.ensures ∙ c.joined-joined.ensures ∙ block a.bytes.now (search rules) a.register c.lanes-words.result (search rules) c.lanes-words.ensures
