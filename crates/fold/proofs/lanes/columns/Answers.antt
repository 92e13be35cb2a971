-- `fold::lanes::columns` meets its contract. Assumes nothing.
use mathlib.Core.Path.{◌≡◌, ap, ◌∙◌}
use mathlib.Core.List.{List, []}
use Prim.Native.Nat.{ℕ, ◌+◌, ◌-◌, ◌*◌, ◌≤◌}
use native.Mathlib.Omega.{arith}
use lib.ListN.{length, get_or, take, drop, length-drop, length-set}
use lib.Seq.{length-take-le, get_or-set_other}
use Rattle.crc.specs.Guard.{run}
use Rattle.words.specs.Words.{rest}
use Rattle.words.specs.Steps.{quad}
use Rattle.fold.proofs.Blocks.{block}
use Rattle.fold.proofs.Stored.{set_more}
use borrow.Author.Rules.{rules}
use Rattle.fold.proofs.lanes.columns.Goals as goal

pub loop-k-preserved : goal.loop-k-preserved
loop-k-preserved c =
    let at = c.loop-k in
    let a = c.args in
    let b = a.b.now in
    let k = at.k in
    let w = c.lanes.result in
    let from = k * a.stride in
    let fits : from + 512 ≤ length b = c.requires.within k (omega arith) in
    let all : from + 512 - from ≡ 512 = omega arith in
    let long : length (take (from + 512 - from) (drop from b)) ≡ 512 = length-take-le (from + 512 - from) (drop from b) (rw (length-drop from b) (omega arith)) ∙ all in (
      length-set at.out k w ∙ at.invariant.0,
      set_more (λ (k : ℕ) (v : List ℕ). quad (rest (get_or v 0 0)) (rest (get_or v 1 0)) (rest (get_or v 2 0)) (rest (get_or v 3 0)) ≡ run 0 (take 512 (drop (k * a.stride) b)))
          at.out k w [] (omega arith) at.invariant.1
          (block (take (from + 512 - from) (drop from b)) long 0 w (search rules) c.lanes.ensures ∙ ap (λ (n : ℕ). run 0 (take n (drop from b))) all),
      λ j h below. get_or-set_other at.out k j w [] (λ e. omega arith) ∙ at.invariant.2 j (omega arith) below,
    )
