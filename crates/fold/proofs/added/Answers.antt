-- `fold::added` meets its contract.
-- Assumes nothing.
use mathlib.Core.Path.{ap, ◌∙◌}
use Prim.Native.Nat.{ℕ}
use native.Mathlib.Omega.{arith}
use lib.Bits.{bit_xor}
use Rattle.crc.specs.Crc.{Bytes}
use Rattle.words.specs.Words.{rest}
use Rattle.words.specs.Steps.{turning}
use Rattle.words.proofs.Linear.{rest-act}
use Rattle.fold.specs.Reading.{seen}
use Rattle.fold.proofs.Turning.{read-piece}
use borrow.Author.Rules.{rules}
use Rattle.fold.proofs.added.Goals as goal

pub returns : goal.returns
returns c =
    let a = c.args in
    let b = a.b.now in
    let small : Bytes b = (λ k. omega (arith, c.shared_slice_known-1.given k)) in
    ap rest c.turned.ensures ∙ rest-act turning c.word.result a.more
    ∙ ap (λ (x : ℕ). bit_xor x (seen a.more)) (ap seen c.word.ensures ∙ read-piece b a.p small (search rules))
