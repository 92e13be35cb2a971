-- `stripe::sealing::check_seal` meets its contract.
-- Assumes nothing.
use mathlib.Core.Path.{sym, ◌∙◌}
use Rattle.refusal.proofs.Passing.{passed_on, number-some}
use Prim.Native.Nat.{◌-◌}
use native.Mathlib.Omega.{arith}
use Rattle.format.proofs.Sizes.{block-times, data_times}
use Rattle.tag.specs.Blocks.{format_at}
use Rattle.layout.specs.Ranges.{Sound}
use Rattle.layout.proofs.Ranges.{stripe_sound}
use Rattle.stripe.proofs.Seals.{seal_nowhere, seal_content, seal_length, seal_accepted}
use Rattle.stripe.proofs.sealing.check_seal.Goals as goal

pub returns-in_err-check_stripe : goal.returns-in_err-check_stripe
returns-in_err-check_stripe c =
    let a = c.args in
    let e = c.in_err-check_stripe.ensures in
    passed_on _ _ c.from_residual.ensures.1 ∙ e ∙ seal_nowhere a.array a.stripe a.content a.length (λ z. number-some _ (e ∙ z))

pub overflow_sub-members : goal.overflow_sub-members
overflow_sub-members c =
    let fine : Sound c.args.array = let a = c.args in (stripe_sound a.array a.stripe (sym c.in_ok-check_stripe.ensures)).array in
    omega (arith, fine.few)

pub data_at-requires : goal.data_at-requires
data_at-requires c =
    let fine : Sound c.args.array = let a = c.args in (stripe_sound a.array a.stripe (sym c.in_ok-check_stripe.ensures)).array in
    let a = c.args in omega (arith, data_times (format_at a.array) (a.array.members - 1), fine.many)

pub returns-then-content-data_at : goal.returns-then-content-data_at
returns-then-content-data_at c =
    let a = c.args in
    seal_content a.array a.stripe a.content a.length (sym c.in_ok-check_stripe.ensures) (rw c.data_at.ensures at c.if-content-data_at.true)

pub block_at-requires : goal.block_at-requires
block_at-requires c =
    let fine : Sound c.args.array = let a = c.args in (stripe_sound a.array a.stripe (sym c.in_ok-check_stripe.ensures)).array in
    let a = c.args in omega (arith, block-times (format_at a.array) a.array.members, fine.many)

pub returns-then-length-block_at : goal.returns-then-length-block_at
returns-then-length-block_at c =
    let a = c.args in
    seal_length a.array a.stripe a.content a.length (sym c.in_ok-check_stripe.ensures) (c.if-content-data_at.false ∙ c.data_at.ensures) (rw c.block_at.ensures at c.if-length-block_at.true)

pub returns : goal.returns
returns c =
    let a = c.args in
    seal_accepted a.array a.stripe a.content a.length (sym c.in_ok-check_stripe.ensures) (c.if-content-data_at.false ∙ c.data_at.ensures) (c.if-length-block_at.false ∙ c.block_at.ensures)
