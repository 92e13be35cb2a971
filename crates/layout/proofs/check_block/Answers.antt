-- `check_block` tells `block_refusal`: in a sound array the number of blocks fits. Assumes nothing.
use Rattle.std.proofs.Common.{sym, ◌∙◌, arith}
use Rattle.refusal.proofs.Passing.{passed_on}
use Rattle.layout.specs.Arrays.{block_refusal}
use Rattle.layout.proofs.Answers.{after_reason, demanded}
use Rattle.layout.proofs.Ranges.{array_sound}
use Rattle.layout.proofs.Blocks.{block-count_small}
use Rattle.layout.proofs.check_block.Goals as goal

pub returns-in_err-check_array : goal.returns-in_err-check_array
unfolding block_refusal
returns-in_err-check_array c =
    passed_on _ _ c.from_residual.ensures.1
    ∙ after_reason _ _ _ c.in_err-check_array.ensures

pub overflow_mul-array : goal.overflow_mul-array
overflow_mul-array c =
    let h = array_sound _ (sym c.in_ok-check_array.ensures) in
    rw c.data_members.ensures (omega (arith, block-count_small _ h))

pub returns : goal.returns
unfolding block_refusal
returns c = rw (c.demand.ensures, c.data_members.ensures, ← c.in_ok-check_array.ensures) (demanded _ 3)
