-- `castagnoli_fold::calls::crc32c` meets its contract.
-- Assumes nothing.
use mathlib.Core.Path.{ap, ◌∙◌}
use Prim.Native.Nat.{ℕ}
use Rattle.castagnoli.specs.Castagnoli.{advance, guard_of, crc32c}
use Rattle.castagnoli_fold.proofs.calls.crc32c.Goals as goal

pub returns : goal.returns
unfolding crc32c
returns c =
    let bytes = c.args.bytes.now in
    c.guard_of.ensures ∙ ap guard_of (c.advance.ensures ∙ ap (λ (r : ℕ). advance r bytes) c.start.ensures)
