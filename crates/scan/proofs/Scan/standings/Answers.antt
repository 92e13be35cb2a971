-- `scan::Scan::standings` meets its contract. The invariant: the members passed are told as they stand. Assumes nothing.
use mathlib.Core.Path.{◌∙◌}
use native.Mathlib.Omega.{arith}
use lib.ListN.{length-set}
use Rattle.stripe.proofs.Tables.{table_filled}
use Rattle.scan.proofs.Judging.{held_as, held_all}
use Rattle.scan.proofs.Scan.standings.Goals as goal

pub loop-member-preserved : goal.loop-member-preserved
loop-member-preserved c =
    let at = c.loop-member in
    let how = c.standing.result in
    record {
      long = length-set at.standing at.member how ∙ at.invariant.long;
      told = table_filled at.standing (held_as c.args.self.now) at.member how (omega (arith, at.invariant.long, c.requires.few)) at.invariant.told c.standing.ensures;
    }

pub returns : goal.returns
returns c = held_all c.args.self.now c.loop-member.standing c.loop-member.member (omega arith) c.loop-member.invariant.told
