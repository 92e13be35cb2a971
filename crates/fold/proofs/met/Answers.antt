-- `fold::met` meets its contract.
-- Assumes nothing.
use mathlib.Core.Path.{ap, ◌∙◌}
use native.Mathlib.Omega.{arith}
use Rattle.crc.specs.Crc.{Bytes}
use Rattle.words.specs.Words.{rest}
use Rattle.fold.proofs.Blocks.{read-four}
use borrow.Author.Rules.{rules}
use Rattle.fold.proofs.met.Goals as goal

pub returns : goal.returns
returns c =
    let a = c.args in
    let b = a.b.now in
    let small : Bytes b = (λ k. omega (arith, c.shared_slice_known-1.given k)) in
    ap rest c.turned.ensures
    ∙ read-four b a.p a.q c.word.result c.word-2.result c.word-3.result c.word-4.result small (search rules) (search rules)
    c.word.ensures c.word-2.ensures c.word-3.ensures c.word-4.ensures
