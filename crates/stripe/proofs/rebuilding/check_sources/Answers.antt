-- `stripe::rebuilding::check_sources` meets its contract.
-- Assumes nothing.
use mathlib.Core.Path.{sym, ◌∙◌}
use native.Mathlib.Omega.{arith}
use mathlib.Core.Bool.{true, false}
use Rattle.stripe.proofs.Rebuilds.{sources_length, sources_others}
use Rattle.stripe.proofs.Rooms.{place_there, stripe_small}
use Rattle.stripe.proofs.rebuilding.check_sources.Goals as goal

pub block_at-requires : goal.block_at-requires
block_at-requires c = let s = c.args.stripe in omega (arith, stripe_small s.array s.number s.in_array)

pub returns-then-bytes-block_at : goal.returns-then-bytes-block_at
returns-then-bytes-block_at c =
    let a = c.args in
    let s = a.stripe in
    let place = place_there s.array a.member c.requires.member_in s.number s.in_array in
    sym (sources_length s.array s.number a.member a.bytes.now place (rw c.block_at.ensures at c.if-bytes-block_at.true))

pub returns-then-not-others_good : goal.returns-then-not-others_good
returns-then-not-others_good c =
    let a = c.args in
    let s = a.stripe in
    let place = place_there s.array a.member c.requires.member_in s.number s.in_array in
    sym (sources_others s.array s.number a.member a.bytes.now place (c.if-bytes-block_at.false ∙ c.block_at.ensures) false (sym c.others_good.ensures ∙ c.if-not-others_good.true))

pub returns : goal.returns
returns c =
    let a = c.args in
    let s = a.stripe in
    let place = place_there s.array a.member c.requires.member_in s.number s.in_array in
    sym (sources_others s.array s.number a.member a.bytes.now place (c.if-bytes-block_at.false ∙ c.block_at.ensures) true (sym c.others_good.ensures ∙ c.if-not-others_good.false))
