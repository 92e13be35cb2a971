-- `fold::word` meets its contract. Assumes nothing.
use mathlib.Core.Path.{◌∙◌}
use native.Mathlib.Omega.{arith}
use Rattle.fold.proofs.Turning.{read_sum}
use Rattle.fold.proofs.word.Goals as goal

pub returns : goal.returns
returns c = c.from_le_bytes.ensures ∙ read_sum c.args.b.now c.args.p (λ k. omega (arith, c.type_inv.b k))
