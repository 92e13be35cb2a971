-- `fold::two` meets its contract.
-- Assumes nothing.
use native.Mathlib.Omega.{arith}
use Rattle.crc.specs.Crc.{Bytes}
use Rattle.fold.proofs.Blocks.{read_two}
use borrow.Author.Rules.{rules}
use Rattle.fold.proofs.two.Goals as goal

pub returns : goal.returns
returns c =
    let a = c.args in
    let b = a.b.now in
    let small : Bytes b = (λ k. omega (arith, c.shared_slice_known-1.given k)) in
    read_two b a.p a.q c.word.result c.word-2.result small (search rules) (search rules) c.word.ensures c.word-2.ensures
