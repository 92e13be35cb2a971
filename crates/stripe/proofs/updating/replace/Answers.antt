-- `stripe::updating::replace` meets its contract.
-- Assumes nothing.
use mathlib.Core.Path.{refl, ◌∙◌}
use native.Mathlib.Omega.{arith}
use borrow.Author.Tests.{eqb-false}
use lib.ListN.{length}
use Rattle.layout.specs.Places.{parity_member}
use Rattle.stripe.proofs.Rooms.{block_room, place_there, parity_named, parity_in}
use Rattle.stripe.proofs.Updates.{replaceable, replace_done}
use Rattle.stripe.proofs.updating.replace.Goals as goal

pub moved_guard-parity_guard-requires : goal.moved_guard-parity_guard-requires
moved_guard-parity_guard-requires c =
    let a = c.args in
    let s = a.stripe in
    let r = replaceable s.array s.number a.member (length a.content.now) a.bytes.now c.requires.taken in record {
      method_in_bounds = block_room s.array s.seat.parity (parity_in s.array s.number s.in_array s.seat s.seated) a.bytes.now r.long;
      method_in_bounds_2 = block_room s.array a.member c.requires.member_in a.bytes.now r.long;
    }

pub move_parity-requires : goal.move_parity-requires
move_parity-requires c =
    let a = c.args in
    let s = a.stripe in
    let r = replaceable s.array s.number a.member (length a.content.now) a.bytes.now c.requires.taken in record {
      method_in_bounds = block_room s.array s.seat.parity (parity_in s.array s.number s.in_array s.seat s.seated) a.bytes.now r.long;
      method_in_bounds_2 = block_room s.array a.member c.requires.member_in a.bytes.now r.long;
      content_len = r.size;
      member_nonzero = λ e. eqb-false a.member (parity_member s.array s.number) c.requires.member_of_data (e ∙ parity_named s.array s.number s.in_array s.seat s.seated);
    }

pub write_tag-requires : goal.write_tag-requires
write_tag-requires c =
    let a = c.args in
    let s = a.stripe in
    let r = replaceable s.array s.number a.member (length a.content.now) a.bytes.now c.requires.taken in record {
      member_in = parity_in s.array s.number s.in_array s.seat s.seated;
      bytes_len = omega (arith, r.long);
    }

pub write_block-requires : goal.write_block-requires
write_block-requires c =
    let a = c.args in
    let s = a.stripe in
    let r = replaceable s.array s.number a.member (length a.content.now) a.bytes.now c.requires.taken in record {
      member_in = c.requires.member_in;
      bytes_len = omega (arith, r.long);
      content_len = r.size;
    }

pub returns : goal.returns
returns c =
    let a = c.args in
    let s = a.stripe in
    replace_done s.array s.number a.member a.content.now a.bytes.now s.seat.parity c.from-data_guard.result c.moved_guard-parity_guard.result _
    c.move_parity.new.bytes c.write_tag.new.bytes c.write_block.new.bytes (place_there s.array a.member c.requires.member_in s.number s.in_array) c.requires.taken
    (eqb-false a.member (parity_member s.array s.number) c.requires.member_of_data) (parity_named s.array s.number s.in_array s.seat s.seated) refl (c.from-data_guard.ensures ∙ c.guard.ensures) c.moved_guard-parity_guard.ensures
    c.move_parity.ensures c.write_tag.ensures c.write_block.ensures
