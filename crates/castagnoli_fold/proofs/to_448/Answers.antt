-- `castagnoli_fold::to_448` meets its contract: the register stands before the bytes, and the fold carries it.
-- Assumes nothing.
use Rattle.castagnoli_fold.specs.Heads.{head_of}
use Rattle.castagnoli_fold.proofs.Heads.{folded_wide}
use borrow.Author.Rules.{rules}
use Rattle.castagnoli_fold.proofs.to_448.Goals as goal

pub returns : goal.returns
returns c =
    let a = c.args in
    let taken = c.take_below.ensures.taken (search rules) (head_of a.register) c.requires in
    record {
      result_value = folded_wide a.register c.take_below.new.w taken.ready a.b.now c.tail_below.result (search rules) c.told-b (search rules) taken (c.tail_below.ensures.left (search rules));
      ready = taken.ready;
    }
