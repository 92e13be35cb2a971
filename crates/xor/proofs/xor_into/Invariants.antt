-- `xor::xor_into` meets its contract. The invariant: what is done, followed by what is left to add, is the whole sum.
-- Assumes nothing.
use mathlib.Core.Path.{◌≡◌}
use mathlib.Core.List.{◌++◌}
use lib.ListN.{take, drop}
use Rattle.xor.specs.Xors.{xors}
use Rattle.xor.proofs.xor_into.Given as goal

abbrev pub invariant-loop-i : goal.invariant-loop-i
invariant-loop-i l = take l.i l.dst ++ xors (drop l.i l.dst) (drop l.i l.src) ≡ xors l.initial.dst l.src
