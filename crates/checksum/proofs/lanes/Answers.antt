-- `checksum::lanes` meets its contract. Assumes nothing.
use mathlib.Core.Path.{◌≡◌, refl, sym, ◌∙◌}
use Prim.Native.Nat.{◌<◌}
use native.Mathlib.Omega.{arith}
use borrow.Author.Rules.{rules}
use Rattle.std.proofs.lemmas.Grind.{same_number_lists}
use Rattle.checksum.specs.Lanes.{stack, lanes_of}
use Rattle.checksum.proofs.Made.{all-made}
use Rattle.checksum.proofs.Columns.{length-lanes_of, lanes_of-at}
use Rattle.checksum.proofs.lanes.Goals as goal

pub returns : goal.returns
returns c =
    let bytes = c.args.bytes in
    let out = c.from_fn.result in
    let made = c.from_fn.ensures.items in
    same_number_lists out (lanes_of 32 bytes.now 0) (made.long ∙ sym (length-lanes_of 32 bytes.now 0)) (λ k h.
    let below : k < 32 = omega (arith, made.long) in
    all-made _ (λ p. p.0 ≡ bytes) (λ i y. y ≡ stack 16 bytes.now i) (λ p i y q same called. (called.met.1 ∙ same, search rules)) out _ 32 refl made.each k below
    ∙ sym (lanes_of-at 32 bytes.now k below))
