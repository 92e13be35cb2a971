-- `repair::Repair::size_now` meets its contract. Assumes nothing.
use Rattle.std.proofs.Common.{sym, ap, ◌∙◌}
use Rattle.lines.specs.Headers.{header_size}
use Rattle.lines.proofs.Stages.{in_header, in_stripes, not_in_header, not_in_stripes, past_header, past_stripes}
use Rattle.repair.proofs.Ranges.{header-size_now, stripe-size_now, no_size_now}
use Rattle.repair.proofs.Repair.size_now.Goals as goal

pub returns-in-Header : goal.returns-in-Header
returns-in-Header c =
    let a = c.args in
    c.header_size.ensures ∙ ap header_size c.bytes.ensures ∙ sym (header-size_now a.self a.held.now (in_header c.from.ensures c.in-Header.is))

pub returns-in-Stripes : goal.returns-in-Stripes
returns-in-Stripes c =
    let a = c.args in
    c.stripe_size.ensures ∙ sym (stripe-size_now a.self a.held.now (in_stripes c.from.ensures c.in-Stripes.is))

pub returns-in-Behind : goal.returns-in-Behind
returns-in-Behind c =
    let past = c.in-Behind.is in
    sym (no_size_now c.args.self c.args.held.now (not_in_header c.from.ensures (past_header past)) (not_in_stripes c.from.ensures (past_stripes past)))
