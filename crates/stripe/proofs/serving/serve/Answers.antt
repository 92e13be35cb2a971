-- `stripe::serving::serve` meets its contract.
-- Assumes nothing.
use mathlib.Core.Path.{refl, sym, ap, ◌∙◌}
use mathlib.Core.Bool.{Bool, cond}
use native.Mathlib.Omega.{arith}
use Rattle.tag.specs.Blocks.{format_at}
use Rattle.tag.specs.Tags.{is_bad}
use Rattle.tag.proofs.Cases.{good_else}
use Rattle.stripe.specs.Stripes.{block_of, others_data}
use Rattle.stripe.proofs.Rooms.{block_room, stripe_small}
use Rattle.stripe.proofs.Served.{filled_with_data, serve_other_stripe, serve_other_out, serve_stored, serve_rebuilt, serve_damaged}
use Rattle.stripe.proofs.serving.serve.Goals as goal

pub block_at-requires : goal.block_at-requires
block_at-requires c = let s = c.args.stripe in omega (arith, stripe_small s.array s.number s.in_array)

pub returns-then-bytes-block_at : goal.returns-then-bytes-block_at
returns-then-bytes-block_at c =
    let a = c.args in
    let s = a.stripe in
    let both = serve_other_stripe s.array s.number a.member a.bytes.now a.out.now (rw c.block_at.ensures at c.if-bytes-block_at.true) in record { result_value = both.0; out_after = both.1 }

pub returns-then-out-data_length : goal.returns-then-out-data_length
returns-then-out-data_length c =
    let a = c.args in
    let s = a.stripe in
    let whole = c.if-bytes-block_at.false ∙ c.block_at.ensures in
    let both = serve_other_out s.array s.number a.member a.bytes.now a.out.now whole (rw c.data_length.ensures at c.if-out-data_length.true) in record { result_value = both.0; out_after = both.1 }

pub returns-then-standing-eq-UNCHECKED : goal.returns-then-standing-eq-UNCHECKED
returns-then-standing-eq-UNCHECKED c =
    let a = c.args in
    let s = a.stripe in
    let whole = c.if-bytes-block_at.false ∙ c.block_at.ensures in
    let filled = c.if-out-data_length.false ∙ c.data_length.ensures in
    let left = filled_with_data (format_at s.array) a.member c.block_at-from.result c.data_length-then-not-is_bad.result a.bytes.now a.out.now c.put.new.dst c.block_at-from.ensures c.data_length-then-not-is_bad.ensures
    (block_room s.array a.member c.requires a.bytes.now whole) filled c.put.ensures in
    let both = serve_stored s.array s.number a.member a.bytes.now a.out.now whole filled c.put.new.dst 8 (sym c.standing-standing.ensures ∙ c.if-standing-eq-UNCHECKED.true) refl left in record {
      result_value = both.0;
      out_after = both.1;
    }

pub returns-then-not-is_bad : goal.returns-then-not-is_bad
returns-then-not-is_bad c =
    let a = c.args in
    let s = a.stripe in
    let whole = c.if-bytes-block_at.false ∙ c.block_at.ensures in
    let filled = c.if-out-data_length.false ∙ c.data_length.ensures in
    let left = filled_with_data (format_at s.array) a.member c.block_at-from.result c.data_length-then-not-is_bad.result a.bytes.now a.out.now c.put.new.dst c.block_at-from.ensures c.data_length-then-not-is_bad.ensures
    (block_room s.array a.member c.requires a.bytes.now whole) filled c.put.ensures in
    let fine = good_else s.array s.number a.member (block_of (format_at s.array) a.bytes.now a.member) c.standing-standing.result c.standing-standing.ensures (sym c.is_bad.ensures ∙ c.if-not-is_bad.true) c.if-standing-eq-UNCHECKED.false in
    let both = serve_stored s.array s.number a.member a.bytes.now a.out.now whole filled c.put.new.dst 0 fine refl left in record {
      result_value = both.0;
      out_after = both.1;
    }

pub returns-then-not-made_into : goal.returns-then-not-made_into
returns-then-not-made_into c =
    let a = c.args in
    let s = a.stripe in
    let whole = c.if-bytes-block_at.false ∙ c.block_at.ensures in
    let filled = c.if-out-data_length.false ∙ c.data_length.ensures in
    let lost = ap is_bad (sym c.standing-standing.ensures) ∙ sym c.is_bad.ensures ∙ c.if-not-is_bad.false in
    let cannot = sym c.made_into.ensures.value ∙ c.if-not-made_into.true in
    let both = serve_damaged s.array s.number a.member a.bytes.now a.out.now whole filled lost cannot in record {
      result_value = both.0;
      out_after = c.made_into.ensures.out_after ∙ ap (λ (b : Bool). cond b (others_data (format_at s.array) s.array.members a.member a.bytes.now) a.out.now) cannot ∙ both.1;
    }

pub returns : goal.returns
returns c =
    let a = c.args in
    let s = a.stripe in
    let whole = c.if-bytes-block_at.false ∙ c.block_at.ensures in
    let filled = c.if-out-data_length.false ∙ c.data_length.ensures in
    let lost = ap is_bad (sym c.standing-standing.ensures) ∙ sym c.is_bad.ensures ∙ c.if-not-is_bad.false in
    let can = sym c.made_into.ensures.value ∙ c.if-not-made_into.false in
    let left = c.made_into.ensures.out_after ∙ ap (λ (b : Bool). cond b (others_data (format_at s.array) s.array.members a.member a.bytes.now) a.out.now) can in
    let both = serve_rebuilt s.array s.number a.member a.bytes.now a.out.now whole filled lost c.made_into.new.out can left in record {
      result_value = both.0;
      out_after = both.1;
    }
