-- An update beside a loss: where the block and the parity are good and the guards in all tags are those of the sealed stripe, an update is
-- done, whatever else a third member holds. Assumes nothing.
use mathlib.Core.Path.{◌≡◌, sym, ap, ◌∙◌}
use mathlib.Core.Bool.{true}
use mathlib.Core.List.{List}
use Prim.Native.Nat.{ℕ, ◌*◌, ◌<◌}
use lib.Dec.{eqb}
use lib.ListN.{length}
use Rattle.layout.specs.Arrays.{data_members}
use Rattle.layout.specs.Places.{parity_member, stripe_of, member_of}
use Rattle.layout.specs.Ranges.{SoundStripe, SoundBlock}
use Rattle.layout.specs.declared.Array.{Array}
use Rattle.layout.proofs.Ranges.{sound_block}
use Rattle.layout.proofs.Blocks.{stripe_in_array}
use Rattle.format.specs.Formats.{settled}
use Rattle.tag.specs.Blocks.{format_at}
use Rattle.stripe.specs.Stripes.{stripe_length, stored_guards}
use Rattle.stripe.specs.Jobs.{stored_good, guards_agree, sealed, update_refusal}
use Rattle.verdict.specs.Verdicts.{combined_guards}
use Rattle.stripe.proofs.CombinedGuards.{clean_agrees}
use Rattle.stripe.proofs.Clean.{sealed-clean}
use Rattle.stripe.proofs.Updates.{replace_taken}

pub update-beside : (a : Array) (block : ℕ) (content new bytes : List ℕ) → SoundBlock a block → a.volume < 256
    → length content ≡ (format_at a).data_length * data_members a → length new ≡ (format_at a).data_length → length bytes ≡ stripe_length a
    → stored_good a (stripe_of a block) (member_of a block) bytes ≡ true → stored_good a (stripe_of a block) (parity_member a (stripe_of a block)) bytes ≡ true
    → stored_guards (format_at a) a.members bytes ≡ stored_guards (format_at a) a.members (sealed a (stripe_of a block) content)
    → update_refusal a block (length new) bytes ≡ 0
unfolding update_refusal guards_agree
update-beside a block content new bytes sound small whole size long own parity guards =
    let s = stripe_of a block in
    let here : SoundStripe a s = record { array = sound.array; here = stripe_in_array a block sound } in
    let agree = clean_agrees a s (sealed a s content) (sealed-clean a s content here whole small) in
    rw (sound_block a block sound)
    (sym (replace_taken a s (member_of a block) (length new) bytes long size own parity (as_sealed agree)))
  where
    -- guards that stand as in the sealed stripe agree as they do there
    as_sealed : guards_agree a (sealed a (stripe_of a block) content) ≡ true → guards_agree a bytes ≡ true
    as_sealed agree = ap (λ (g : List ℕ). eqb (combined_guards g) (settled (format_at a) a.members)) guards ∙ agree
