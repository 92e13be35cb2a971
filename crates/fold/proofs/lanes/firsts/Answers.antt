-- `fold::lanes::firsts` meets its contract.
-- Assumes nothing.
use mathlib.Core.Path.{◌≡◌}
use native.Mathlib.Omega.{arith}
use lib.ListN.{length}
use Rattle.crc.specs.Crc.{Bytes}
use Rattle.fold.proofs.Blocks.{firsts_of}
use borrow.Author.Rules.{rules}
use Rattle.fold.proofs.lanes.firsts.Goals as goal

pub returns : goal.returns
returns c =
    let a = c.args in
    let b = a.b.now in
    let small : Bytes b = (λ k. omega (arith, c.shared_slice_known-1.given k)) in
    let whole : length b ≡ 512 = search rules in
    firsts_of b whole small a.register c.word.result c.lead.result c.two-second.result c.two-third.result c.two-fourth.result
    (search rules) c.word.ensures c.lead.ensures c.two-second.ensures c.two-third.ensures c.two-fourth.ensures
