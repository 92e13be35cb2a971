-- `fold::lanes::lanes` meets its contract. Assumes nothing.
use mathlib.Core.Path.{◌≡◌, ap₂, ◌∙◌}
use Prim.Native.Nat.{ℕ, ◌+◌, ◌*◌}
use native.Mathlib.Omega.{arith}
use lib.ListN.{length-set}
use lib.Bits.{bit_xor}
use Rattle.words.specs.Words.{rest}
use Rattle.fold.specs.Columns.{column, firstly, brought, nine}
use Rattle.fold.proofs.Stored.{set_more}
use Rattle.fold.proofs.lanes.lanes.Goals as goal

pub loop-l-preserved : goal.loop-l-preserved
loop-l-preserved c =
    let at = c.loop-l in
    let a = c.args in
    let b = a.b.now in
    let l = at.l in (
      length-set at.out l c.lane.result ∙ at.invariant.0,
      set_more (λ (k x : ℕ). rest x ≡ column (nine (bit_xor (brought b (8 * k)) (firstly a.register k)) (brought b (224 + 8 * k)) b (8 * k))) at.out l c.lane.result 0 (omega arith) at.invariant.1
          (c.lane.ensures ∙ ap₂ (λ (x y : ℕ). column (nine x y b (8 * l))) (c.firsts-first.ensures l (omega arith)) (c.lasts-last.ensures l (omega arith))),
    )
