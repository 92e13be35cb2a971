-- `castagnoli_fold::calls::many::guards` meets its contract. Assumes nothing.
use mathlib.Core.Path.{◌≡◌, sym, subst, ap, ap₂, ◌∙◌}
use mathlib.Core.List.{List, ◌++◌}
use Prim.Native.Nat.{ℕ, ◌+◌, ◌-◌}
use native.Mathlib.Omega.{arith}
use lib.ListN.{take, set, length-set}
use lib.Seq.{take_all}
use Rattle.std.proofs.lemmas.List.{set-get_or}
use Rattle.castagnoli.specs.Castagnoli.{advance, guard_of, crc32c}
use Rattle.castagnoli.specs.Blocks.{guards_of}
use Rattle.castagnoli_rows.specs.Folds.{Ready}
use Rattle.castagnoli_rows.proofs.Folding.{zeros-at}
use Rattle.castagnoli_fold.specs.Heads.{head_of}
use Rattle.castagnoli_fold.proofs.Strides.{stride_on, guards_turn, guards_end, rest-turn, rest_end}
use Rattle.castagnoli_fold.proofs.calls.many.guards.Goals as goal
use Rattle.castagnoli_fold.proofs.calls.many.guards.Goals.{in-Some, in-None}

pub lead-requires-clause-by_index : goal.lead-requires-clause-by_index
lead-requires-clause-by_index c = λ j. zeros-at 4544 j

-- the check of a run, whole or not
check : (c : goal.After-rest-1) → c.match-first_chunk.guard ≡ crc32c (take 4096 c.loop-guard.rest.now)
unfolding crc32c
check c =
    let rest = c.loop-guard.rest.now in
    elim c.match-first_chunk.branch [
      | in-Some w ↦ w.guard-is ∙ w.guard_of.ensures ∙ ap guard_of (w.block.ensures.value ∙ ap₂ advance c.start-register.ensures w.in-Some.ensures.cases.same)
      | in-None w ↦ w.guard-is ∙ w.crc32c.ensures ∙ ap crc32c (sym (take_all 4096 rest (omega (arith, w.in-None.ensures.cases))))
    ]

-- the buffer as it was, or as the block left it
ready : (c : goal.After-rest-1) → Ready 448 3648 (head_of c.start-register.result) c.match-first_chunk.w
ready c =
    let Fit : List ℕ → Type 0 = Ready 448 3648 (head_of c.start-register.result) in
    elim c.match-first_chunk.branch [
      | in-Some w ↦ subst Fit (sym w.w-is) w.block.ensures.ready
      | in-None w ↦ subst Fit (sym w.w-is) c.loop-guard.invariant.3
    ]

pub loop-guard-preserved : goal.loop-guard-preserved
loop-guard-preserved c =
    let l = c.loop-guard in
    let inv = l.invariant in
    let m = l.guard-index in
    let out = l.guard-items in
    let rest = l.rest.now in
    let stride = c.args.stride in
    let g = c.match-first_chunk.guard in (
      length-set out m g ∙ inv.0,
      rest-turn out 16 m g (omega arith) inv.1,
      ap (λ (x : List ℕ). take (m + 1) (set out m g) ++ guards_of (16 - (m + 1)) stride x) (stride_on rest stride c.min.result c.min.ensures)
          ∙ guards_turn out rest stride 16 m g (omega arith) (omega arith) (check c)
          ∙ inv.2,
      ready c,
    )

pub returns-then-is_empty : goal.returns-then-is_empty
returns-then-is_empty c =
    let l = c.loop-guard in
    let inv = l.invariant in
    set-get_or l.guard-items l.guard-index 0
    ∙ sym (rest_end l.guard-items l.rest.now c.args.stride 16 l.guard-index (grind (arith, c.is_empty.ensures, c.if-is_empty.true)) inv.1) ∙ inv.2

pub returns-after-loop-guard : goal.returns-after-loop-guard
returns-after-loop-guard c =
    let l = c.loop-guard in
    sym (guards_end l.guard-items l.rest.now c.args.stride 16 l.guard-index l.invariant.0 (omega arith)) ∙ l.invariant.2
