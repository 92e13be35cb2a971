-- `fold::lanes::calls::many::guards` meets its contract. Assumes nothing.
use mathlib.Core.Path.{◌≡◌, ap, ◌∙◌}
use Prim.Native.Nat.{ℕ, ◌*◌}
use native.Mathlib.Omega.{arith}
use lib.ListN.{length, take, drop, length-set}
use lib.Seq.{get_or-set_other}
use Rattle.crc.specs.Guard.{guard}
use Rattle.fold.proofs.Stored.{set_more}
use Rattle.fold.proofs.Strides.{rest_of, stride_on, next-run, past_all, known-all, guards_of_each}
use borrow.Author.Rules.{rules}
use Rattle.fold.proofs.lanes.calls.many.guards.Goals as goal

pub loop-k-init : goal.loop-k-init
loop-k-init c =
    let w = c.of_wholes-out.ensures in
    let bytes = c.args.bytes.now in
    (search rules, w.known, w.behind, stride_on bytes (c.whole-count.result * c.args.stride) c.min.result (omega arith))

pub loop-k-preserved : goal.loop-k-preserved
loop-k-preserved c =
    let at = c.loop-k in
    let inv = at.invariant in
    let stride = c.args.stride in
    let bytes = c.args.bytes.now in
    let rest = at.rest.now in
    let k = at.k in
    let g = c.guard.result in (
      length-set at.out k g ∙ inv.0,
      set_more (λ (k x : ℕ). x ≡ guard (take 512 (drop (k * stride) bytes))) at.out k g 0 (omega arith) inv.1
          (c.guard.ensures ∙ ap guard (inv.3 ∙ rest_of bytes k stride (c.whole-count.ensures.past k (omega arith) (omega arith)))),
      λ j h below. get_or-set_other at.out k j g 0 (λ e. omega arith) ∙ inv.2 j (omega arith) below,
      stride_on rest stride c.min-in-loop-k.result c.min-in-loop-k.ensures ∙ next-run bytes rest k stride inv.3,
    )

pub returns-then-is_empty : goal.returns-then-is_empty
returns-then-is_empty c =
    let at = c.loop-k in
    let inv = at.invariant in
    let stride = c.args.stride in
    let bytes = c.args.bytes.now in
    let none : length at.rest.now ≡ 0 = grind (arith, c.is_empty.ensures, c.if-is_empty.true) in
    guards_of_each at.out 16 stride bytes inv.0 (known-all bytes stride at.out at.k inv.1 inv.2 (past_all bytes at.rest.now (at.k * stride) inv.3 none))

pub returns-after-loop-k : goal.returns-after-loop-k
returns-after-loop-k c =
    let at = c.loop-k in
    guards_of_each at.out 16 c.args.stride c.args.bytes.now at.invariant.0 (λ l h. at.invariant.1 l (omega arith))
