-- `report::stripe_took` meets its contract: the stripe lacks more bytes, or is whole now. Assumes nothing.
use native.Mathlib.Omega.{arith}
use Rattle.format.proofs.Sizes.{block-most}
use Rattle.tag.specs.Blocks.{format_at}
use Rattle.report.proofs.Blocks.{stripe-most}
use Rattle.report.proofs.FitStates.{fit-known, held_small}
use Rattle.report.proofs.StripeSteps.{still_short, now_whole}
use Rattle.report.proofs.stripe_took.Goals as goal

pub overflow_add-now : goal.overflow_add-now
overflow_add-now c =
    let r = c.args.report in
    let f = fit-known r c.requires.report_value in
    omega (arith, f.short, stripe-most (format_at r.scan.array) r.scan.array.members f.members, block-most (format_at r.scan.array), c.requires.bytes_len_bound)

pub stripe_length-requires : goal.stripe_length-requires
stripe_length-requires c = (fit-known c.args.report c.requires.report_value).members

pub returns-then-now-stripe_length : goal.returns-then-now-stripe_length
returns-then-now-stripe_length c =
    let a = c.args in
    still_short a.report a.bytes.now a.work.now c.whole_blocks-member.ensures c.stripe_length.ensures c.take_in-next.ensures.value
    c.take_in-next.ensures.work_after c.holding-held.ensures c.if-now-stripe_length.true

pub stripe_whole-requires : goal.stripe_whole-requires
stripe_whole-requires c =
    let r = c.args.report in
    held_small r c.holding-held.result _ _ c.args.bytes.now _ _ (fit-known r c.requires.report_value) c.take_in-next.ensures.value c.holding-held.ensures

pub returns : goal.returns
returns c =
    let a = c.args in
    now_whole a.report a.bytes.now a.work.now c.whole_blocks-member.ensures c.stripe_length.ensures c.take_in-next.ensures.value
    c.take_in-next.ensures.work_after c.holding-held.ensures c.if-now-stripe_length.false c.stripe_whole.ensures
