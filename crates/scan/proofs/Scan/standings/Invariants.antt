-- `scan::Scan::standings` meets its contract. The invariant: the members passed are told as they stand. Assumes nothing.
use Rattle.std.proofs.Common.{◌≡◌, length, take}
use Rattle.stripe.specs.Tables.{table}
use Rattle.scan.proofs.Judging.{held_as}
use Rattle.scan.proofs.Scan.standings.Given as goal

abbrev pub invariant-loop-member : goal.invariant-loop-member
invariant-loop-member l = record { long : length l.standing ≡ 16; told : take l.member l.standing ≡ table l.member (held_as l.self) }
