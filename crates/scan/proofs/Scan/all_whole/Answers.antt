-- `scan::Scan::all_whole` meets its contract. Assumes nothing.
use mathlib.Core.Path.{◌∙◌}
use mathlib.Core.Bool.{Bool}
use Prim.Native.Nat.{ℕ}
use lib.Dec.{eqb}
use lib.ListN.{take}
use Rattle.std.proofs.Common.{rules, tests}
use Rattle.std.proofs.lemmas.Iterator.{YieldsList-from_slice}
use Rattle.std.proofs.lemmas.Iterator.Search.{all_from_yields_List}
use Rattle.tag.specs.Blocks.{format_at}
use Rattle.scan.proofs.Replacing.{list_all_flags}
use Rattle.scan.proofs.Scan.all_whole.Goals as goal

pub returns : goal.returns
returns c =
    let s = c.args.self in
    let front = take s.array.members s.at in
    let test : ℕ → Bool = λ p. eqb p (format_at s.array).block_length in
    all_from_yields_List test _ _ c.all.result c.all.ensures.ran (YieldsList-from_slice front cc) (λ x b q k. rw (← c.block_length-block.ensures) (search (rules, tests)))
    ∙ list_all_flags test front
