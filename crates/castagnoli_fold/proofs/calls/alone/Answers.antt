-- `castagnoli_fold::calls::alone` meets its contract.
-- Assumes nothing.
use Rattle.castagnoli_rows.proofs.Folding.{zeros-at}
use borrow.Author.Rules.{rules}
use Rattle.castagnoli_fold.proofs.calls.alone.Goals as goal

pub lead-requires : goal.lead-requires
lead-requires c =
    record {
      w_len = search rules;
      by_index = λ j. zeros-at 4544 j;
    }
