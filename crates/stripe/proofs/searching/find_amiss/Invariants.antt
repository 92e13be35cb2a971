-- `stripe::searching::find_amiss` meets its contract. The invariant: the lowest from here on is the lowest of all.
-- Assumes nothing.
use mathlib.Core.Path.{◌≡◌}
use Prim.Native.Nat.{◌+◌}
use lib.ListN.{drop}
use Rattle.verdict.specs.Verdicts.{lowest}
use Rattle.stripe.specs.Tables.{table}
use Rattle.stripe.specs.InPart.{amiss}
use Rattle.stripe.proofs.searching.find_amiss.Given as goal

abbrev pub invariant-loop-member : goal.invariant-loop-member
invariant-loop-member l = l.member + lowest (drop l.member (table l.held.stripe.array.members (amiss l.held.stripe.array l.held.stripe.number l.held.bytes.now))) ≡ lowest (table l.held.stripe.array.members (amiss l.held.stripe.array l.held.stripe.number l.held.bytes.now))
