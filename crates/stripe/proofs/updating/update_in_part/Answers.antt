-- `stripe::updating::update_in_part` meets its contract: what `place` answers is told by its numbers.
-- Assumes nothing.
use mathlib.Core.Path.{ap₂, ◌∙◌}
use borrow.Author.Tests.{ne_eqb}
use Rattle.refusal.proofs.Passing.{passed_on}
use Rattle.layout.specs.Places.{parity_member, is_parity, stripe_of, member_of}
use Rattle.layout.proofs.Ranges.{place_sound, sound_stripe}
use Rattle.layout.proofs.Bijection.{parity_no_block}
use Rattle.stripe.proofs.Served.{placed_at, placed_sound}
use Rattle.stripe.proofs.InParts.{part_by_place, part-updated}
use Rattle.stripe.proofs.updating.update_in_part.Goals as goal

pub returns-in_err-place : goal.returns-in_err-place
returns-in_err-place c =
    let a = c.args in
    let both = part_by_place a.array a.block a.content.now a.bytes.now a.stores _ c.in_err-place.ensures in record {
      value = passed_on _ _ c.from_residual.ensures.1 ∙ both.0;
      bytes_after = both.1;
    }

pub at-requires : goal.at-requires
at-requires c =
    let a = c.args in
    let p = c.in_ok-place.place in
    sound_stripe a.array p.stripe (place_sound a.array p.stripe p.member (placed_sound a.array a.block p.stripe p.member (placed_at a.array a.block p.stripe p.member c.in_ok-place.ensures))).stripe

pub replace_in_part-requires : goal.replace_in_part-requires
replace_in_part-requires c =
    let a = c.args in
    let p = c.in_ok-place.place in
    let at = placed_at a.array a.block p.stripe p.member c.in_ok-place.ensures in record {
      member_in = rw c.at.ensures.array_kept (place_sound a.array p.stripe p.member (placed_sound a.array a.block p.stripe p.member at)).here;
      member_of_data = rw (c.at.ensures.array_kept, c.at.ensures.number_kept)
          (ap₂ (is_parity a.array) at.in_stripe_lem at.on_member ∙ ne_eqb (member_of a.array a.block) (parity_member a.array (stripe_of a.array a.block)) (parity_no_block a.array a.block));
    }

pub returns : goal.returns
returns c =
    let a = c.args in
    let p = c.in_ok-place.place in
    let said = rw (c.at.ensures.array_kept, c.at.ensures.number_kept) at c.replace_in_part.ensures.value in
    let left = rw (c.at.ensures.array_kept, c.at.ensures.number_kept) at c.replace_in_part.ensures.bytes_after in
    let both = part-updated a.array a.block a.content.now a.bytes.now a.stores p.stripe p.member _ c.replace_in_part.new.bytes
    (placed_at a.array a.block p.stripe p.member c.in_ok-place.ensures) (said, left) in record { value = both.0; bytes_after = both.1 }
