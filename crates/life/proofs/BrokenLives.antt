-- The condition is needed: lives that break it. A second member lost before the first is rebuilt, and the read is refused for damage; a block
-- replaced by one that checks good, and the read gives its data for those that were sealed. Assumes nothing.
use mathlib.Core.Path.{◌≡◌, sym, ap, ap₂, ◌∙◌}
use mathlib.Core.Logic.{◌≢◌}
use mathlib.Core.Bool.{true, false}
use mathlib.Core.List.{List, [], ◌∷◌}
use Prim.Native.Nat.{ℕ, ◌*◌, ◌<◌}
use native.Mathlib.Omega.{arith}
use borrow.Author.Tests.{eqb-true}
use lib.ListN.{length}
use lib.Seq.{length-sets}
use Rattle.format.proofs.Sizes.{times-next}
use Rattle.layout.specs.Arrays.{data_members, block_refusal}
use Rattle.layout.specs.Places.{stripe_of, member_of}
use Rattle.layout.specs.Ranges.{SoundStripe}
use Rattle.layout.specs.declared.Array.{Array}
use Rattle.layout.proofs.Ranges.{sound_block, sound_place}
use Rattle.tag.specs.Blocks.{format_at, data_of}
use Rattle.tag.specs.Tags.{good, bad, tagged}
use Rattle.tag.proofs.Cases.{good_otherwise}
use Rattle.tag.proofs.Tagged.{length-tagged, data_of_tagged, tagged-good}
use Rattle.stripe.specs.Stripes.{stripe_length, block_of}
use Rattle.stripe.specs.Jobs.{with_block, stored_good, stored_bad, sealed, Reads}
use Rattle.stripe.proofs.Blocks.{block_written, block-kept}
use Rattle.stripe.proofs.Seals.{length-sealed}
use Rattle.stripe.proofs.Served.{read-stored, read-damaged}
use Rattle.life.specs.Events.{Event, read, lose, Answer, unanswered}
use Rattle.life.specs.Runs.{LifeRun, ended, served, lost}
use Rattle.life.specs.Ledger.{whole, OneAtATime}
use Rattle.life.proofs.Stands.{never, bad-not-good}
use Rattle.life.proofs.Reading.{own_block, own_below}
use Rattle.life.proofs.TwoBlocks.{second_in, members-apart}

-- two blocks' members lost to these bytes, and the first read
abbrev pub lost_twice : Array → ℕ → ℕ → List ℕ → List ℕ → List ℕ → List Event
lost_twice a block other x y out = lose (member_of a block) x ∷ lose (member_of a other) y ∷ read block out ∷ []

-- a block replaced by other data with the tag due there, and read
abbrev pub replaced_well : Array → ℕ → ℕ → List ℕ → List ℕ → List Event
replaced_well a block combined strange out = lose (member_of a block) (tagged a (stripe_of a block) (member_of a block) combined strange) ∷ read block out ∷ []

-- a block written into a stripe stands there
written : (a : Array) (m : ℕ) (bytes block : List ℕ) → length bytes ≡ stripe_length a → m < a.members → length block ≡ (format_at a).block_length
    → block_of (format_at a) (with_block (format_at a) bytes m block) m ≡ block
written a m bytes block long here size = block_written (format_at a) bytes m block size (omega (arith, times-next (format_at a).block_length m a.members here))

module _ (a : Array) (block : ℕ) (sound : SoundStripe a (stripe_of a block)) (content out : List ℕ)
    (long : length content ≡ (format_at a).data_length * data_members a) (room : length out ≡ (format_at a).data_length) where
  abbrev stripe : ℕ
  stripe = stripe_of a block

  abbrev first : ℕ
  first = member_of a block

  taken : block_refusal a block ≡ 0
  taken = sound_block a block (own_block a block sound)

  long_after : (bytes : List ℕ) (m : ℕ) (x : List ℕ) → length bytes ≡ stripe_length a → length (with_block (format_at a) bytes m x) ≡ stripe_length a
  long_after bytes m x e = length-sets bytes ((format_at a).block_length * m) x ∙ e

  sealed-long : length (sealed a stripe content) ≡ stripe_length a
  sealed-long = length-sealed a stripe content sound long

  -- ---- a second member is lost, to anything that checks bad

  module _ (other : ℕ) (two : block ≢ other) (beside : stripe_of a other ≡ stripe_of a block) (x y : List ℕ) (x-long : length x ≡ (format_at a).block_length) (y-long : length y ≡ (format_at a).block_length)
      (x-bad : bad a stripe first x ≡ true) (y-bad : bad a stripe (member_of a other) y ≡ true) where
    abbrev second : ℕ
    second = member_of a other

    once : List ℕ
    once = with_block (format_at a) (sealed a stripe content) first x

    once-long : length once ≡ stripe_length a
    unfolding once
    once-long = long_after (sealed a stripe content) first x sealed-long

    pub not-one-at_a_time : OneAtATime a stripe whole (lost_twice a block other x y out) → ⊥
    not-one-at_a_time single = members-apart a block other sound two beside (eqb-true second first single.1.0.alone)

    first-bad : stored_bad a stripe first (with_block (format_at a) once second y) ≡ true
    unfolding once
    first-bad =
        ap (bad a stripe first)
        (block-kept (format_at a) once second first y y-long (λ q. members-apart a block other sound two beside (sym q))
        ∙ written a first (sealed a stripe content) x sealed-long (own_below a block sound) x-long)
        ∙ x-bad

    second-bad : stored_good a stripe second (with_block (format_at a) once second y) ≡ false
    second-bad =
        ap (good a stripe second) (written a second once y once-long (second_in a block other sound two beside) y-long) ∙ bad-not-good a stripe second y y-bad

    damaged : Reads a block (with_block (format_at a) once second y) out (0 ∷ 9 ∷ 0 ∷ []) out
    damaged =
        read-damaged a block (with_block (format_at a) once second y) out taken (long_after once second y once-long) room first-bad
        second (second_in a block other sound two beside) (members-apart a block other sound two beside) second-bad

    pub refused_for_damage : {answers : List Answer} {last : List ℕ} → LifeRun a stripe (sealed a stripe content) (lost_twice a block other x y out) answers last
        → answers ≡ unanswered ∷ unanswered ∷ record { numbers = 0 ∷ 9 ∷ 0 ∷ []; left = out } ∷ []
    unfolding once
    refused_for_damage (lost (lost (served r e f ended))) =
        ap₂ (λ (n l : List ℕ). unanswered ∷ unanswered ∷ record { numbers = n; left = l } ∷ []) (e ∙ sym damaged.0) (f ∙ sym damaged.1)

  -- ---- a block replaced by one that is good there

  module _ (small : a.volume < 256) (combined : ℕ) (strange : List ℕ) (size : length strange ≡ (format_at a).data_length) where
    abbrev replacement : List ℕ
    replacement = tagged a stripe first combined strange

    replacement-good : good a stripe first replacement ≡ true
    replacement-good = tagged-good a stripe first combined strange size (sound_place a stripe first (record { stripe = sound; here = own_below a block sound })) small

    pub no_loss : OneAtATime a stripe whole (replaced_well a block combined strange out) → ⊥
    no_loss single = never (sym single.0.checks_bad ∙ (good_otherwise a stripe first replacement replacement-good).0)

    served_strange : Reads a block (with_block (format_at a) (sealed a stripe content) first replacement) out (1 ∷ 0 ∷ 0 ∷ []) strange
    served_strange =
        let there = written a first (sealed a stripe content) replacement sealed-long (own_below a block sound) (length-tagged a stripe first combined strange size) in
        let r = read-stored a block (with_block (format_at a) (sealed a stripe content) first replacement) out taken (long_after (sealed a stripe content) first replacement sealed-long) room (ap (good a stripe first) there ∙ replacement-good) in
        (r.0, sym (ap (data_of (format_at a)) there ∙ data_of_tagged a stripe first combined strange size) ∙ r.1)

    pub read_wrongly : {answers : List Answer} {last : List ℕ} → LifeRun a stripe (sealed a stripe content) (replaced_well a block combined strange out) answers last
        → answers ≡ unanswered ∷ record { numbers = 1 ∷ 0 ∷ 0 ∷ []; left = strange } ∷ []
    read_wrongly (lost (served r e f ended)) =
        ap₂ (λ (n l : List ℕ). unanswered ∷ record { numbers = n; left = l } ∷ []) (e ∙ sym served_strange.0) (f ∙ sym served_strange.1)
