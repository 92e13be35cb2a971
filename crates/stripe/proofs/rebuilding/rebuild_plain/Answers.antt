-- `stripe::rebuilding::rebuild_plain` meets its contract.
-- Assumes nothing.
use mathlib.Core.Path.{◌≡◌, refl, sym, ap₂, ◌∙◌}
use mathlib.Core.List.{List}
use Prim.Native.Nat.{ℕ}
use native.Mathlib.Omega.{arith}
use lib.Bits.{bit_xor}
use lib.ListN.{get_or, take}
use Rattle.format.specs.Formats.{guard}
use Rattle.format.proofs.Combined.{settled_plain}
use Rattle.format.proofs.Laws.{combines}
use Rattle.tag.specs.Blocks.{format_at}
use Rattle.tag.proofs.Guards.{own_plain, guard-own}
use Rattle.verdict.specs.Verdicts.{combined_guards}
use Rattle.stripe.specs.Stripes.{others_data, others_guards}
use Rattle.stripe.proofs.Blocks.{data_then_tag}
use Rattle.stripe.proofs.Guards.{others-guard}
use Rattle.stripe.proofs.Rebuilds.{made_again}
use Rattle.stripe.proofs.Rooms.{members_most}
use Rattle.stripe.proofs.Rows.{length-others_data}
use Rattle.stripe.proofs.rebuilding.rebuild_plain.Goals as goal

pub plain_guard-guard-requires-clause-members_bound : goal.plain_guard-guard-requires-clause-members_bound
plain_guard-guard-requires-clause-members_bound c = let s = c.args.stripe in members_most s.array s.number s.in_array

pub returns : goal.returns
returns c =
    let a = c.args in
    let s = a.stripe in
    let F = format_at s.array in
    let n = s.array.members in
    let whole = others_data F n a.member a.bytes.now in
    let plain = c.requires.array_value in
    let own : c.plain_guard-guard.result ≡ guard F whole =
    c.plain_guard-guard.ensures
    ∙ ap₂ (λ (l : List ℕ) (odd : ℕ). bit_xor (bit_xor (combined_guards (take n l)) (get_or l a.member 0)) odd) c.requires.guards_value (settled_plain F n plain)
    ∙ others-guard F (combines s.array.method plain) a.bytes.now n a.member (members_most s.array s.number s.in_array) c.requires.member_in (omega (arith, c.requires.bytes_len)) in
    let due = own ∙ sym (guard-own s.array s.number a.member (others_guards F n a.member a.bytes.now) (guard F whole) (own_plain s.array s.number a.member plain)) in
    made_again s.array s.number a.member a.bytes.now c.plain_guard-guard.result whole c.write_tag.new.bytes refl due
    (data_then_tag s.array s.number a.member c.plain_guard-guard.result a.bytes.now c.make_data.new.bytes c.write_tag.new.bytes whole
    (length-others_data F n a.member a.bytes.now) c.make_data.ensures c.write_tag.ensures)
