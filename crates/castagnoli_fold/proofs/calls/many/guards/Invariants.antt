-- `castagnoli_fold::calls::many::guards` meets its contract. The invariant: the buffer can serve again, and the checks found, and those of the
-- runs still to come, are all. Assumes nothing.
use mathlib.Core.Path.{◌≡◌}
use mathlib.Core.List.{◌++◌}
use Prim.Native.Nat.{◌-◌}
use lib.ListN.{length, take, drop, replicate}
use Rattle.castagnoli.specs.Blocks.{guards_of}
use Rattle.castagnoli_rows.specs.Folds.{Ready}
use Rattle.castagnoli_fold.specs.Heads.{head_of}
use Rattle.castagnoli_fold.proofs.calls.many.guards.Given as goal

abbrev pub invariant-loop-guard : goal.invariant-loop-guard
invariant-loop-guard l =
    (length l.guard-items ≡ 16) × (drop l.guard-index l.guard-items ≡ replicate (16 - l.guard-index) 0)
    × (take l.guard-index l.guard-items ++ guards_of (16 - l.guard-index) l.stride l.rest ≡ guards_of 16 l.stride l.bytes)
    × Ready 448 3648 (head_of l.register) l.w
