-- `intent::entries_of` meets its contract. Assumes nothing.
use Rattle.std.proofs.Common.{rules}
use Rattle.tag.specs.Numbers.{number_of}
use Rattle.stripe.specs.Tables.{span, part}
use Rattle.intent.specs.Records.{entries}
use Rattle.intent.proofs.Entries.{made-table}
use Rattle.intent.proofs.entries_of.Goals as goal

pub returns : goal.returns
unfolding entries span
returns c = made-table _ _ (λ i. number_of (part 8 c.args.log.now i)) (λ i b q k. (search rules, search rules)) c.from_fn.result 64 c.from_fn.ensures.items
