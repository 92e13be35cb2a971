-- `stripe::scrubbing::check_scrub` meets its contract.
-- Assumes nothing.
use mathlib.Core.Path.{sym, ◌∙◌}
use Rattle.refusal.proofs.Passing.{passed_on, number-some}
use native.Mathlib.Omega.{arith}
use Rattle.format.proofs.Sizes.{block-times}
use Rattle.tag.specs.Blocks.{format_at}
use Rattle.layout.proofs.Ranges.{stripe_sound}
use Rattle.stripe.proofs.Scrubs.{stripe_refused_first, length_refused, sound_scrub}
use Rattle.stripe.proofs.scrubbing.check_scrub.Goals as goal

pub returns-in_err-check_stripe : goal.returns-in_err-check_stripe
returns-in_err-check_stripe c =
    let a = c.args in
    let e = c.in_err-check_stripe.ensures in
    passed_on _ _ c.from_residual.ensures.1 ∙ e ∙ sym (stripe_refused_first a.array a.stripe a.length (λ z. number-some _ (e ∙ z)))

pub block_at-requires : goal.block_at-requires
block_at-requires c =
    let a = c.args in
    omega (arith, block-times (format_at a.array) a.array.members, (stripe_sound a.array a.stripe (sym c.in_ok-check_stripe.ensures)).array.many)

pub returns-then-length-block_at : goal.returns-then-length-block_at
returns-then-length-block_at c =
    let a = c.args in
    sym (length_refused a.array a.stripe a.length (sym c.in_ok-check_stripe.ensures) (rw c.block_at.ensures at c.if-length-block_at.true))

pub returns : goal.returns
returns c =
    let a = c.args in
    sym (sound_scrub a.array a.stripe a.length (sym c.in_ok-check_stripe.ensures) (c.if-length-block_at.false ∙ c.block_at.ensures))
