-- `verdict::first_nonzero` meets its contract. The invariant: the first place that is not zero is the first of those still to come.
-- Assumes nothing.
use mathlib.Core.Path.{◌≡◌}
use Prim.Native.Nat.{◌+◌}
use lib.ListN.{drop}
use Rattle.verdict.specs.Verdicts.{lowest, nonzero}
use Rattle.verdict.proofs.first_nonzero.Given as goal

abbrev pub invariant-loop-place : goal.invariant-loop-place
invariant-loop-place l = l.place + lowest (drop l.place (nonzero l.bytes)) ≡ lowest (nonzero l.bytes)
