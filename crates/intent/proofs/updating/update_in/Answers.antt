-- `intent::updating::update_in` meets its contract. Assumes nothing.
use mathlib.Core.Path.{◌≡◌, refl, sym, ap, ◌∙◌}
use Rattle.refusal.proofs.Passing.{passed_on, number-some}
use Prim.Native.Nat.{◌-◌}
use native.Mathlib.Omega.{arith}
use lib.ListN.{length}
use Rattle.layout.specs.Ranges.{SoundStripe}
use Rattle.layout.proofs.Ranges.{sound_stripe}
use Rattle.stripe.specs.InPart.{part_bytes}
use Rattle.intent.specs.Calls.{open_refusal}
use Rattle.intent.proofs.Logs.{own_sound}
use Rattle.intent.proofs.Calling.{open_told, update-closed, update-damaged, update-stored}
use Rattle.intent.proofs.updating.update_in.Goals as goal

pub check_open-requires : goal.check_open-requires
check_open-requires c =
    let inside : SoundStripe c.args.array c.args.stripe = rw c.requires.stripe_value (own_sound c.args.array c.args.block c.requires.block_value) in
    sound_stripe c.args.array c.args.stripe inside

pub returns-in_err-check_open : goal.returns-in_err-check_open
returns-in_err-check_open c =
    let a = c.args in
    let both = update-closed a.array a.block a.content.now a.bytes.now a.log.now a.stores a.stripe c.requires.block_value c.requires.stripe_value _ c.in_err-check_open.ensures (number-some _) in record {
      value = passed_on _ _ c.from_residual.ensures.1 ∙ both.0;
      bytes_after = both.1.0;
      log_after = both.1.1;
    }

pub returns-in_err-update_in_part : goal.returns-in_err-update_in_part
returns-in_err-update_in_part c =
    let opened : let a = c.args in
    open_refusal a.array a.stripe (length a.content.now) (length a.bytes.now) a.log.now ≡ 0 = sym c.in_ok-check_open.ensures in
    let in_part : let a = c.args in
    c.update_in_part.new.bytes ≡ part_bytes a.array a.block a.content.now a.bytes.now (a.stores - 1) = let a = c.args in
    c.update_in_part.ensures.bytes_after ∙ ap (part_bytes a.array a.block a.content.now a.bytes.now) c.saturating_sub.ensures in
    let a = c.args in let both = update-damaged a.array a.block a.content.now a.bytes.now a.log.now a.stores a.stripe c.requires.block_value c.requires.stripe_value opened _ _
    c.in_err-update_in_part.ensures.value (number-some _) in_part in record { value = passed_on _ _ c.from_residual-in_err-update_in_part.ensures.1 ∙ both.0; bytes_after = both.1.0; log_after = both.1.1 }

pub write_record-requires : goal.write_record-requires
write_record-requires c =
    let inside : SoundStripe c.args.array c.args.stripe = rw c.requires.stripe_value (own_sound c.args.array c.args.block c.requires.block_value) in
    let opened : let a = c.args in
    open_refusal a.array a.stripe (length a.content.now) (length a.bytes.now) a.log.now ≡ 0 = sym c.in_ok-check_open.ensures in
    let a = c.args in
    let told = open_told a.array a.stripe (length a.content.now) (length a.bytes.now) a.log.now opened in
    let h = inside in record {
      stripe_bound = omega (arith, h.here, h.array.most);
      log_value = told.1;
    }

pub returns : goal.returns
returns c =
    let opened : let a = c.args in
    open_refusal a.array a.stripe (length a.content.now) (length a.bytes.now) a.log.now ≡ 0 = sym c.in_ok-check_open.ensures in
    let in_part : let a = c.args in
    c.update_in_part.new.bytes ≡ part_bytes a.array a.block a.content.now a.bytes.now (a.stores - 1) = let a = c.args in
    c.update_in_part.ensures.bytes_after ∙ ap (part_bytes a.array a.block a.content.now a.bytes.now) c.saturating_sub.ensures in
    let a = c.args in let both = update-stored a.array a.block a.content.now a.bytes.now a.log.now a.stores a.stripe c.requires.block_value c.requires.stripe_value opened 0 _ _
    c.in_ok-update_in_part.ensures.value refl in_part c.write_record.ensures in record { value = both.0; bytes_after = both.1.0; log_after = both.1.1 }
