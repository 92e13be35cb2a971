-- `stripe::Held::others_good` meets its contract. The invariant: whether the members still to come pass is whether all do.
-- Assumes nothing.
use mathlib.Core.Path.{◌≡◌}
use lib.ListN.{drop}
use Rattle.stripe.specs.Tables.{all}
use Rattle.stripe.specs.Stripes.{others_good}
use Rattle.stripe.proofs.Others.{watched}
use Rattle.stripe.proofs.Held.others_good.Given as goal

abbrev pub invariant-loop-member : goal.invariant-loop-member
invariant-loop-member l = all (drop l.member (watched l.self.stripe.array l.self.stripe.number l.skip l.self.bytes.now)) ≡ others_good l.self.stripe.array l.self.stripe.number l.skip l.self.bytes.now
