-- `report::whole_blocks` meets its contract. Assumes nothing.
use mathlib.Core.Path.{ap}
use Prim.Native.Nat.{ℕ, ◌/◌}
use native.Mathlib.Omega.{arith}
use Rattle.tag.specs.Blocks.{format_at}
use Rattle.report.proofs.Blocks.{block-some}
use Rattle.report.proofs.whole_blocks.Goals as goal

pub nonzero_div-result : goal.nonzero_div-result
nonzero_div-result c = let a = c.args.array in omega (arith, c.block_length.ensures, block-some (format_at a))

pub returns : goal.returns
returns c = ap (λ (k : ℕ). c.args.have / k) c.block_length.ensures
