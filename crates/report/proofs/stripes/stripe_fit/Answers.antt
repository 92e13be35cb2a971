use Rattle.std.proofs.Common.{le-ltb, sym, ◌∙◌, arith}
use Rattle.layout.proofs.Ranges.{stripe_sound}
use Rattle.scan.proofs.Refusals.{is-refused, not-refused}
use Rattle.report.proofs.FitStates.{out_of_range, too_much, counts_decide}
use Rattle.report.proofs.stripes.stripe_fit.Goals as goal

pub returns-then-is_err : goal.returns-then-is_err
returns-then-is_err c =
    let refused = is-refused c.check_stripe.result (sym c.is_err.ensures.value ∙ c.if-is_err.true) in
    sym (out_of_range c.args.report (λ e. refused (c.check_stripe.ensures ∙ e)))

pub stripe_length-requires : goal.stripe_length-requires
stripe_length-requires c =
    let s = c.args.report.scan in
    let sound = sym c.check_stripe.ensures ∙ not-refused c.check_stripe.result (sym c.is_err.ensures.value ∙ c.if-is_err.false) in
    (stripe_sound s.array s.stripe sound).array.many

pub returns-then-report-stripe_length : goal.returns-then-report-stripe_length
returns-then-report-stripe_length c =
    let sound = sym c.check_stripe.ensures ∙ not-refused c.check_stripe.result (sym c.is_err.ensures.value ∙ c.if-is_err.false) in
    counts_decide c.args.report sound (omega (arith, c.stripe_length.ensures)) c.few.ensures

pub returns-else-report-stripe_length : goal.returns-else-report-stripe_length
returns-else-report-stripe_length c =
    let sound = sym c.check_stripe.ensures ∙ not-refused c.check_stripe.result (sym c.is_err.ensures.value ∙ c.if-is_err.false) in
    le-ltb _ _ c.if-report-stripe_length.false ∙ sym (too_much c.args.report sound (omega (arith, c.stripe_length.ensures)))
