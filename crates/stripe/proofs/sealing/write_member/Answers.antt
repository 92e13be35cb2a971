-- `stripe::sealing::write_member` meets its contract.
-- Assumes nothing.
use mathlib.Core.Path.{◌≡◌, sym, ap, ap₂, ◌∙◌}
use mathlib.Core.Logic.{◌≢◌}
use mathlib.Core.List.{List}
use Prim.Native.Nat.{ℕ, ◌+◌, ◌-◌, ◌*◌, ◌≤◌, ◌<◌}
use native.Mathlib.Omega.{arith}
use borrow.Author.Tests.{ne_eqb}
use lib.ListN.{length, get_or, take, drop}
use Rattle.layout.specs.declared.Array.{Array}
use Rattle.layout.specs.declared.Seat.{Seat}
use Rattle.format.specs.Formats.{Format, guard, guards_of}
use Rattle.format.proofs.Sizes.{times-next}
use Rattle.layout.specs.Arrays.{data_members, stripe_refusal}
use Rattle.layout.specs.Places.{parity_member, seat_of, index_at, index_beside}
use Rattle.layout.proofs.Members.{index_below}
use Rattle.layout.proofs.Numbers.{index_right}
use Rattle.tag.specs.Blocks.{format_at}
use Rattle.tag.specs.Tags.{tagged}
use Rattle.tag.proofs.Guards.{own_data, guard-own}
use Rattle.tag.proofs.Tagged.{tagged_by_lem}
use Rattle.stripe.specs.Tables.{part, span}
use Rattle.stripe.specs.Jobs.{with_block, guard_of_parts}
use Rattle.stripe.proofs.Rows.{lent-span}
use Rattle.stripe.proofs.Rooms.{members_most, parity_named}
use Rattle.stripe.proofs.Guards.{part-guard}
use Rattle.stripe.proofs.Blocks.{data_then_tag}
use Rattle.stripe.proofs.Rows.{length-span}
use lib.Seq.{sets}
use Rattle.stripe.proofs.sealing.write_member.Goals as goal

-- the part of a member that is not the parity's: its index as the code finds it, and that it is within the data
record Part (a : Array) (stripe member index size : ℕ) : Type 0 where
  apart : member ≢ parity_member a stripe
  right : index ≡ index_at a stripe member
  small : index < data_members a
  inside : (format_at a).data_length * index + (format_at a).data_length ≤ size

part_there : (a : Array) (stripe member index size : ℕ) (seat : Seat) → stripe_refusal a stripe ≡ 0 → seat ≡ seat_of a stripe → member < a.members
    → member ≢ seat.parity → index ≡ index_beside seat.parity member → size ≡ (format_at a).data_length * data_members a → Part a stripe member index size
part_there a stripe member index size seat sound seated here ne e long =
    let apart : member ≢ parity_member a stripe = λ q. ne (q ∙ sym (parity_named a stripe sound seat seated)) in
    let right : index ≡ index_at a stripe member = e ∙ index_right a stripe seat.parity member (parity_named a stripe sound seat seated) in
    let small : index < data_members a = rw right (index_below a stripe member here apart) in record {
      apart = apart;
      right = right;
      small = small;
      inside = omega (arith, times-next (format_at a).data_length index (data_members a) small);
    }

-- the part as the code takes it
lent_part : (F : Format) (index from size : ℕ) (content : List ℕ) → from ≡ F.data_length * index → size ≡ F.data_length
    → take (from + size - from) (drop from content) ≡ span (F.data_length * index) F.data_length content
lent_part F index from size content at long = lent-span from size content ∙ ap₂ (λ (k n : ℕ). span k n content) at long

pub slice_bounds-put-end : goal.slice_bounds-put-end
slice_bounds-put-end c =
    let a = c.args in
    let s = a.stripe in
    let p = part_there s.array s.number a.member c.index_beside-index.result (length a.content.now) s.seat s.in_array s.seated c.requires.member_in c.if-member-parity.false c.index_beside-index.ensures c.requires.content_len in
    omega (arith, p.inside, c.data_length.ensures, c.data_at-from.ensures)

pub returns : goal.returns
returns c =
    let a = c.args in
    let s = a.stripe in
    let F = format_at s.array in
    let index = c.index_beside-index.result in
    let p = part_there s.array s.number a.member index (length a.content.now) s.seat s.in_array s.seated c.requires.member_in c.if-member-parity.false c.index_beside-index.ensures c.requires.content_len in
    let part_of = take (c.data_at-from.result + c.data_length.result - c.data_at-from.result) (drop c.data_at-from.result a.content.now) in
    let lent = lent_part F index c.data_at-from.result c.data_length.result a.content.now c.data_at-from.ensures c.data_length.ensures in
    let parts = guard_of_parts s.array a.content.now in
    let own = c.from.ensures ∙ c.requires.data_guard_value ∙ ap (λ (k : ℕ). get_or (guards_of F 16 F.data_length a.content.now) k 0) (sym p.right)
    ∙ part-guard F a.content.now index (omega (arith, p.small, members_most s.array s.number s.in_array)) ∙ ap (guard F) (sym lent) in
    let long = ap length lent ∙ length-span (F.data_length * index) F.data_length a.content.now p.inside in
    let written = data_then_tag s.array s.number a.member c.from.result a.bytes.now c.put.new.dst c.write_tag.new.bytes part_of long
    (c.put.ensures ∙ ap (λ (k : ℕ). sets a.bytes.now k part_of) c.block_at.ensures) c.write_tag.ensures in
    rw (ne_eqb a.member (parity_member s.array s.number) p.apart)
    (written
    ∙ ap (with_block F a.bytes.now a.member)
    (tagged_by_lem s.array s.number a.member parts c.from.result part_of (own ∙ sym (guard-own s.array s.number a.member parts _ (own_data s.array s.number a.member p.apart))))
    ∙ ap (λ (l : List ℕ). with_block F a.bytes.now a.member (tagged s.array s.number a.member parts l))
    (lent ∙ ap (part F.data_length a.content.now) p.right))
