-- `checksum::row` meets its contract: its bytes are lanes of one byte each. Assumes nothing.
use mathlib.Core.Path.{◌≡◌, refl, ap, ap₂, ◌∙◌}
use mathlib.Core.List.{List}
use Prim.Native.Nat.{ℕ, ◌+◌}
use native.Mathlib.Omega.{arith}
use borrow.Author.Rules.{rules}
use lib.ListN.{get_or}
use Rattle.std.proofs.lemmas.Grind.{same_number_lists}
use Rattle.checksum.specs.Lanes.{pairs}
use Rattle.checksum.specs.Weights.{made, reduced}
use Rattle.checksum.proofs.Made.{all-made}
use Rattle.checksum.proofs.Rows.{row_sums}
use Rattle.checksum.proofs.row.Goals as goal

pub returns : goal.returns
returns c =
    let bytes = c.args.bytes in
    let lanes = c.from_fn-lanes.result in
    let all = c.from_fn-lanes.ensures.items in
    let same : lanes ≡ bytes.now = same_number_lists lanes bytes.now (omega (arith, all.long)) (λ k h.
    all-made _ (λ p. p.0 ≡ bytes) (λ i y. y ≡ get_or bytes.now i 0) (λ p i y q same called. (called.met.1 ∙ same, search rules)) lanes _ 32 refl all.each k (omega (arith, all.long))) in
    c.reduce.ensures
    ∙ ap₂ (λ (s t : ℕ). reduced (s + t)) c.from.ensures (c.weight.ensures.0 ∙ ap (λ (l : List ℕ). made 0 (pairs l)) same)
    ∙ row_sums c.args.sum bytes.now (omega arith) (omega arith) c.fits-bytes
