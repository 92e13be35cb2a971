-- `report::stripes::block_lacks` meets its contract. Assumes nothing.
use mathlib.Core.Path.{ap}
use Prim.Native.Nat.{ℕ, ◌-◌, ◌%◌}
use native.Mathlib.Omega.{arith}
use Rattle.tag.specs.Blocks.{format_at}
use Rattle.report.proofs.Blocks.{block-some, rest-short}
use Rattle.report.proofs.stripes.block_lacks.Goals as goal

pub nonzero_rem-result : goal.nonzero_rem-result
nonzero_rem-result c = let a = c.args.array in omega (arith, c.block_length-block.ensures, block-some (format_at a))

pub overflow_sub-result : goal.overflow_sub-result
overflow_sub-result c =
    let a = c.args in
    rw c.block_length-block.ensures (omega (arith, rest-short (format_at a.array) a.have))

pub returns : goal.returns
returns c = ap (λ (k : ℕ). k - c.args.have % k) c.block_length-block.ensures
