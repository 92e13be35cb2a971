-- `stripe::updating::check_replace` meets its contract.
-- Assumes nothing.
use mathlib.Core.Path.{sym, ap, ◌∙◌}
use Prim.Native.Nat.{ℕ}
use native.Mathlib.Omega.{arith}
use Rattle.stripe.specs.Jobs.{stored_good}
use Rattle.stripe.proofs.Rooms.{parity_named, parity_in, stripe_small}
use Rattle.stripe.proofs.Updates.{replace_other_stripe, replace_other_data, replace_bad, replace_bad-parity, replace_unsettled, replace_taken}
use Rattle.stripe.proofs.updating.check_replace.Goals as goal

pub block_at-requires : goal.block_at-requires
block_at-requires c = let s = c.args.stripe in omega (arith, stripe_small s.array s.number s.in_array)

pub returns-then-bytes-block_at : goal.returns-then-bytes-block_at
returns-then-bytes-block_at c =
    let a = c.args in
    let s = a.stripe in
    replace_other_stripe s.array s.number a.member a.content a.bytes.now (rw c.block_at.ensures at c.if-bytes-block_at.true)

pub returns-then-content-data_length : goal.returns-then-content-data_length
returns-then-content-data_length c =
    let a = c.args in
    let s = a.stripe in
    let whole = c.if-bytes-block_at.false ∙ c.block_at.ensures in
    replace_other_data s.array s.number a.member a.content a.bytes.now whole (rw c.data_length.ensures at c.if-content-data_length.true)

pub returns-then-not-is_good : goal.returns-then-not-is_good
returns-then-not-is_good c =
    let a = c.args in
    let s = a.stripe in
    let whole = c.if-bytes-block_at.false ∙ c.block_at.ensures in
    let sized = c.if-content-data_length.false ∙ c.data_length.ensures in
    replace_bad s.array s.number a.member a.content a.bytes.now whole sized (sym c.is_good.ensures ∙ c.if-not-is_good.true)

pub is_good-requires-2 : goal.is_good-requires-2
is_good-requires-2 c =
    let s = c.args.stripe in
    parity_in s.array s.number s.in_array s.seat s.seated

pub returns-then-not-is_good-2 : goal.returns-then-not-is_good-2
returns-then-not-is_good-2 c =
    let a = c.args in
    let s = a.stripe in
    let whole = c.if-bytes-block_at.false ∙ c.block_at.ensures in
    let sized = c.if-content-data_length.false ∙ c.data_length.ensures in
    let named = parity_named s.array s.number s.in_array s.seat s.seated in
    replace_bad-parity s.array s.number a.member a.content a.bytes.now whole sized (sym c.is_good.ensures ∙ c.if-not-is_good.false)
    (ap (λ (m : ℕ). stored_good s.array s.number m a.bytes.now) (sym named) ∙ sym c.is_good-2.ensures ∙ c.if-not-is_good-2.true)

pub returns-then-not-guards_agree : goal.returns-then-not-guards_agree
returns-then-not-guards_agree c =
    let a = c.args in
    let s = a.stripe in
    let whole = c.if-bytes-block_at.false ∙ c.block_at.ensures in
    let sized = c.if-content-data_length.false ∙ c.data_length.ensures in
    let named = parity_named s.array s.number s.in_array s.seat s.seated in
    let parity-good = ap (λ (m : ℕ). stored_good s.array s.number m a.bytes.now) (sym named) ∙ sym c.is_good-2.ensures ∙ c.if-not-is_good-2.false in
    replace_unsettled s.array s.number a.member a.content a.bytes.now whole sized (sym c.is_good.ensures ∙ c.if-not-is_good.false) parity-good
    (sym c.guards_agree.ensures ∙ c.if-not-guards_agree.true)

pub returns : goal.returns
returns c =
    let a = c.args in
    let s = a.stripe in
    let whole = c.if-bytes-block_at.false ∙ c.block_at.ensures in
    let sized = c.if-content-data_length.false ∙ c.data_length.ensures in
    let named = parity_named s.array s.number s.in_array s.seat s.seated in
    let parity-good = ap (λ (m : ℕ). stored_good s.array s.number m a.bytes.now) (sym named) ∙ sym c.is_good-2.ensures ∙ c.if-not-is_good-2.false in
    replace_taken s.array s.number a.member a.content a.bytes.now whole sized (sym c.is_good.ensures ∙ c.if-not-is_good.false) parity-good
    (sym c.guards_agree.ensures ∙ c.if-not-guards_agree.false)
