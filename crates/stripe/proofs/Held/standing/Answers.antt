-- `stripe::Held::standing` meets its contract.
-- Assumes nothing.
use mathlib.Core.Path.{ap, ◌∙◌}
use Rattle.format.specs.Formats.{guard}
use Rattle.tag.specs.Blocks.{format_at}
use Rattle.stripe.proofs.Checked.{stands-there}
use Rattle.stripe.proofs.Served.{lent_data}
use Rattle.stripe.proofs.Held.standing.Goals as goal

pub returns : goal.returns
returns c =
    let a = c.args in
    let s = a.self.now.stripe in
    let F = format_at s.array in
    let own = c.guard-data_guard.ensures ∙ ap (guard F) (lent_data F a.member c.block_at-from.result c.data_length.result a.self.now.bytes.now c.block_at-from.ensures c.data_length.ensures) in
    stands-there s.array s.number a.member c.guard-data_guard.result c.standing_by.result a.self.now.bytes.now c.stored-found.result c.stored-found.ensures own c.standing_by.ensures
