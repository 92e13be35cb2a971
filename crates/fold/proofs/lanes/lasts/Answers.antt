-- `fold::lanes::lasts` meets its contract.
-- Assumes nothing.
use mathlib.Core.Path.{◌≡◌}
use native.Mathlib.Omega.{arith}
use lib.ListN.{length}
use Rattle.crc.specs.Crc.{Bytes}
use Rattle.fold.proofs.Blocks.{lasts_of}
use borrow.Author.Rules.{rules}
use Rattle.fold.proofs.lanes.lasts.Goals as goal

pub returns : goal.returns
returns c =
    let a = c.args in
    let b = a.b.now in
    let small : Bytes b = (λ k. omega (arith, c.shared_slice_known-1.given k)) in
    let whole : length b ≡ 512 = search rules in
    lasts_of b whole small c.word.result c.word-2.result c.word-3.result c.word-second.result c.word-third.result
    c.word.ensures c.word-2.ensures c.word-3.ensures c.word-second.ensures c.word-third.ensures
