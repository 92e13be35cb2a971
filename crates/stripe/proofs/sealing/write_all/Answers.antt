-- `stripe::sealing::write_all` meets its contract.
-- Assumes nothing.
use mathlib.Core.Path.{refl, ◌∙◌}
use native.Mathlib.Omega.{arith}
use Rattle.layout.proofs.Ranges.{stripe_sound}
use Rattle.tag.specs.Blocks.{format_at}
use Rattle.stripe.specs.Stripes.{others_data}
use Rattle.stripe.proofs.Blocks.{data_then_tag}
use Rattle.stripe.proofs.Rooms.{parity_named, parity_in}
use Rattle.stripe.proofs.Rows.{length-others_data}
use Rattle.stripe.proofs.Seals.{parity-guard, sealed_by_calls}
use Rattle.stripe.proofs.sealing.write_all.Goals as goal

pub make_data-requires-clause-member_lt_members : goal.make_data-requires-clause-member_lt_members
make_data-requires-clause-member_lt_members c = let s = c.args.stripe in parity_in s.array s.number s.in_array s.seat s.seated

pub overflow_sub-members : goal.overflow_sub-members
overflow_sub-members c = let s = c.args.stripe in omega (arith, (stripe_sound s.array s.number s.in_array).array.few)

pub slice_bounds-combined_wide-end : goal.slice_bounds-combined_wide-end
slice_bounds-combined_wide-end c = let s = c.args.stripe in omega (arith, (stripe_sound s.array s.number s.in_array).array.many)

pub write_tag-requires-clause-member_in : goal.write_tag-requires-clause-member_in
write_tag-requires-clause-member_in c = let s = c.args.stripe in parity_in s.array s.number s.in_array s.seat s.seated

pub returns : goal.returns
returns c =
    let a = c.args in
    let s = a.stripe in
    let F = format_at s.array in
    let sound = stripe_sound s.array s.number s.in_array in
    let named = parity_named s.array s.number s.in_array s.seat s.seated in
    let parity = s.seat.parity in
    let written = c.write_data.new.bytes in
    let whole = others_data F s.array.members parity written in
    let right = parity-guard s.array s.number a.content.now sound c.requires.content_len a.bytes.now c.requires.bytes_len
    parity c.data_length.result c.combined_wide-data_guards.result c.settled.result written whole c.guards-guards.result
    named c.write_data.ensures refl c.data_length.ensures c.guards-guards.ensures c.combined_wide-data_guards.ensures c.settled.ensures in
    let block = data_then_tag s.array s.number parity c.from-parity_guard.result written c.make_data.new.bytes c.write_tag.new.bytes whole
    (length-others_data F s.array.members parity written) c.make_data.ensures c.write_tag.ensures in
    sealed_by_calls s.array s.number a.content.now sound c.requires.content_len a.bytes.now c.requires.bytes_len
    parity c.from-parity_guard.result written whole c.write_tag.new.bytes
    named c.write_data.ensures refl (c.from-parity_guard.ensures ∙ right) block
