-- `sum` refuses a run of odd length, and else tells its checksum. Assumes nothing.
use mathlib.Core.Path.{sym, ap, ◌∙◌}
use mathlib.Core.List.{[], ◌∷◌}
use Prim.Native.Nat.{ℕ}
use Rattle.checksum.proofs.Even.{sum_even, sum_odd}
use Rattle.checksum.proofs.asked.sum.Goals as goal

pub returns-then-bytes-ne0 : goal.returns-then-bytes-ne0
returns-then-bytes-ne0 c = sym (sum_odd c.args.bytes.now c.if-bytes-ne0.true)

pub returns : goal.returns
returns c = ap (λ (g : ℕ). 1 ∷ 0 ∷ g ∷ []) c.checksum.ensures ∙ sym (sum_even c.args.bytes.now c.if-bytes-ne0.false)
