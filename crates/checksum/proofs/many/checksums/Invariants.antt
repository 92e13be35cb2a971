-- `checksum::many::checksums` meets its contract. The invariant: the checksums found, and those of the runs still to come, are all.
-- Assumes nothing.
use mathlib.Core.Path.{◌≡◌}
use mathlib.Core.List.{◌++◌}
use Prim.Native.Nat.{◌-◌}
use lib.ListN.{length, take, drop, replicate}
use Rattle.checksum.specs.Checksum.{first}
use Rattle.checksum.specs.Many.{checksums_of}
use Rattle.checksum.proofs.many.checksums.Given as goal

abbrev pub invariant-loop-guard : goal.invariant-loop-guard
invariant-loop-guard l =
    (length l.guard-items ≡ 16) × (drop l.guard-index l.guard-items ≡ replicate (16 - l.guard-index) first)
    × (take l.guard-index l.guard-items ++ checksums_of (16 - l.guard-index) l.stride l.rest ≡ checksums_of 16 l.stride l.bytes)
