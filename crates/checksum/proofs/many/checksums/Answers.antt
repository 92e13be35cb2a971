-- `checksum::many::checksums` meets its contract. Assumes nothing.
use mathlib.Core.Path.{refl, sym, ap, ◌∙◌}
use mathlib.Core.List.{List, ◌++◌}
use Prim.Native.Nat.{ℕ, ◌+◌, ◌-◌}
use native.Mathlib.Omega.{arith}
use lib.ListN.{take, set, length-set}
use Rattle.std.proofs.lemmas.List.{set-get_or}
use Rattle.checksum.specs.Checksum.{checksum}
use Rattle.checksum.specs.Many.{checksums_of}
use Rattle.checksum.proofs.Strides.{stride_on, run_of, checksums_turn, checksums_end, rest-turn, rest_end}
use Rattle.checksum.proofs.many.checksums.Goals as goal

pub loop-guard-init : goal.loop-guard-init
loop-guard-init c = (refl, refl, refl)

pub loop-guard-preserved : goal.loop-guard-preserved
loop-guard-preserved c =
    let l = c.loop-guard in
    let inv = l.invariant in
    let m = l.guard-index in
    let out = l.guard-items in
    let rest = l.rest.now in
    let stride = c.args.stride in
    let g = c.checksum.result in (
      length-set out m g ∙ inv.0,
      rest-turn out 16 m g (omega arith) inv.1,
      ap (λ (x : List ℕ). take (m + 1) (set out m g) ++ checksums_of (16 - (m + 1)) stride x) (stride_on rest stride c.min-in-loop-guard.result c.min-in-loop-guard.ensures)
          ∙ checksums_turn out rest stride 16 m g (omega arith) (omega arith) (c.checksum.ensures ∙ ap checksum (run_of rest 512 c.min.result c.min.ensures))
          ∙ inv.2,
    )

pub returns-then-is_empty : goal.returns-then-is_empty
returns-then-is_empty c =
    let l = c.loop-guard in
    let inv = l.invariant in
    set-get_or l.guard-items l.guard-index 0 ∙ sym (rest_end l.guard-items l.rest.now c.args.stride 16 l.guard-index (grind (arith, c.is_empty.ensures, c.if-is_empty.true)) inv.1) ∙ inv.2

pub returns-after-loop-guard : goal.returns-after-loop-guard
returns-after-loop-guard c =
    let l = c.loop-guard in
    sym (checksums_end l.guard-items l.rest.now c.args.stride 16 l.guard-index l.invariant.0 (omega arith)) ∙ l.invariant.2
