-- `verdict::check_guards` is `quick_refusal`. Assumes nothing.
use Rattle.std.proofs.Common.{rules}
use Rattle.verdict.proofs.Quick.{quick-demanded}
use Rattle.verdict.proofs.check_guards.Goals as goal

pub returns : goal.returns
returns c = quick-demanded c.args.guards c.contains.result _ (search rules) c.demand.ensures
