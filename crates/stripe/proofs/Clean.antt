-- What scrubs clean: a sealed stripe, and one that was clean after an update or a rebuild.
-- Assumes nothing.
use mathlib.Core.Path.{◌≡◌, ap, ◌∙◌}
use mathlib.Core.List.{List}
use Prim.Native.Nat.{ℕ, ◌*◌, ◌<◌}
use lib.ListN.{length}
use Rattle.layout.specs.Arrays.{data_members}
use Rattle.layout.specs.Places.{stripe_of}
use Rattle.layout.specs.Ranges.{SoundStripe}
use Rattle.layout.specs.declared.Array.{Array}
use Rattle.layout.proofs.Ranges.{sound_stripe}
use Rattle.tag.specs.Blocks.{format_at}
use Rattle.stripe.specs.Jobs.{sealed, update_refusal, update_bytes}
use Rattle.stripe.specs.Verdicts.{scrub_numbers, scrub_refusal, clean}
use Rattle.stripe.proofs.Scrubs.{scrub_clean, sound_scrub}
use Rattle.stripe.proofs.Seals.{length-sealed}
use Rattle.stripe.proofs.Sealed.{sealed-good, sealed-parity, sealed-settled}
use Rattle.stripe.proofs.Updated.{update_keeps_length, update_keeps_clean}

pub sealed-clean : (a : Array) (stripe : ℕ) (content : List ℕ) → SoundStripe a stripe → length content ≡ (format_at a).data_length * data_members a → a.volume < 256
    → scrub_numbers a stripe (sealed a stripe content) ≡ clean
sealed-clean a stripe content sound long small =
    (scrub_clean a stripe (sealed a stripe content) (sound_scrub a stripe (length (sealed a stripe content)) (sound_stripe a stripe sound) (length-sealed a stripe content sound long))).1
    (sealed-good a stripe content sound long small, sealed-parity a stripe content sound long, sealed-settled a stripe content sound long small)

pub update_stays_clean : (a : Array) (block : ℕ) (new bytes : List ℕ) → update_refusal a block (length new) bytes ≡ 0 → a.volume < 256
    → scrub_refusal a (stripe_of a block) (length bytes) ≡ 0 → scrub_numbers a (stripe_of a block) bytes ≡ clean
    → scrub_numbers a (stripe_of a block) (update_bytes a block new bytes) ≡ clean
update_stays_clean a block new bytes done small taken was =
    let s = stripe_of a block in
    let before = (scrub_clean a s bytes taken).0 was in
    let still : scrub_refusal a s (length (update_bytes a block new bytes)) ≡ 0 = ap (scrub_refusal a s) (update_keeps_length a block new bytes done) ∙ taken in
    (scrub_clean a s (update_bytes a block new bytes) still).1 (update_keeps_clean a block new bytes done small before.0 before.1 before.2)
