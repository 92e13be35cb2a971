-- A rebuild at any time: of the lost member, or of any where none is, it is done and leaves the sealed stripe; else it is refused and leaves
-- everything as it was. Assumes nothing.
use mathlib.Core.Path.{◌≡◌, refl, sym, ◌∙◌}
use mathlib.Core.Logic.{◌≢◌}
use mathlib.Core.Bool.{Bool, true, false, not, cond}
use mathlib.Core.List.{List}
use Prim.Native.Nat.{ℕ, ◌≤◌, ◌<◌}
use native.Mathlib.Decide.{dec_lt}
use native.Mathlib.Omega.{arith}
use borrow.Author.Tests.{lt-ltb, le-ltb}
use lib.Dec.{ltb}
use Rattle.layout.specs.Answers.{refuse}
use Rattle.layout.specs.Places.{owner_refusal}
use Rattle.layout.specs.Ranges.{SoundStripe}
use Rattle.layout.specs.declared.Array.{Array}
use Rattle.layout.proofs.Ranges.{sound_place, member_refused}
use Rattle.tag.specs.Blocks.{format_at}
use Rattle.stripe.specs.Stripes.{block_of}
use Rattle.stripe.specs.Jobs.{sealed, rebuild_refusal, rebuild_bytes}
use Rattle.stripe.specs.Steps.{sources_refusal}
use Rattle.stripe.proofs.Rebuilds.{sources_nowhere, sources_others, rebuild_sources_refused, rebuild-kept}
use Rattle.stripe.proofs.RebuildSealed.{sealed_rebuilds, rebuild_of_sealed}
use Rattle.stripe.proofs.Served.{bad_other}
use Rattle.life.specs.Events.{rebuild}
use Rattle.life.specs.Ledger.{Standing, whole, lacks, is_lost, no_other, standing_after}
use Rattle.life.proofs.Stands.{others-there, another, Stands, bad-not-good, sealed-stands}

-- a member past the end is not the lost one, and its rebuild ends no loss
none-mended : (s : Standing) (member n : ℕ) → n ≤ member → ((m : ℕ) → is_lost s m ≡ true → m < n) → standing_after s (rebuild member) ≡ s
none-mended whole member n past inside = refl
none-mended (lacks k) member n past inside = by_flag (no_other (lacks k) member) refl
  where
    by_flag : (f : Bool) → no_other (lacks k) member ≡ f → cond f whole (lacks k) ≡ lacks k
    by_flag false e = refl
    by_flag true e = let l = inside member e in absurd (omega arith)

module _ (a : Array) (stripe : ℕ) (sound : SoundStripe a stripe) (small : a.volume < 256) {contents : List (List ℕ)} {s : Standing} {bytes : List ℕ}
    (st : Stands a stripe contents s bytes) (member : ℕ) where
  -- its number is the ledger's, and the stripe stands to the ledger afterwards
  abbrev pub Mends : Type 0
  Mends =
      (rebuild_refusal a stripe member bytes ≡ refuse (not (ltb member a.members)) 5 (refuse (not (no_other s member)) 9 0))
      × Stands a stripe contents (standing_after s (rebuild member)) (rebuild_bytes a stripe member bytes)

  -- a rebuild that is refused by this number changes nothing
  refused : (number : ℕ) → number ≢ 0 → rebuild_refusal a stripe member bytes ≡ number → standing_after s (rebuild member) ≡ s
      → Stands a stripe contents (standing_after s (rebuild member)) (rebuild_bytes a stripe member bytes)
  refused number some e same = rw (same, ← (rebuild-kept a stripe member bytes (λ z. some (sym e ∙ z)))) st

  nowhere : a.members ≤ member → Mends
  nowhere past =
      let five : owner_refusal a stripe member ≡ 5 = (member_refused a stripe member).1 (sound, past) in
      let sources : sources_refusal a stripe member bytes ≡ 5 = sources_nowhere a stripe member bytes (λ z. omega (arith, five, z)) ∙ five in
      let number : rebuild_refusal a stripe member bytes ≡ 5 = rebuild_sources_refused a stripe member bytes (λ z. omega (arith, sources, z)) ∙ sources in
      (rw (le-ltb member a.members past) number, refused 5 (omega arith) number (none-mended s member a.members past st.lost_in))

  module _ (here : member < a.members) where
    alone : no_other s member ≡ true → Mends
    alone e =
        let content = st.content in
        let there : (k : ℕ) → k < a.members → k ≢ member → block_of (format_at a) bytes k ≡ block_of (format_at a) (sealed a stripe content) k = λ k h ne. st.there k h (others-there s member e k ne) in (
          rw (lt-ltb member a.members here, e) (sealed_rebuilds a stripe member content bytes sound st.content_long small here st.long there),
          rw (e, rebuild_of_sealed a stripe member content bytes sound st.content_long small here st.long there, st.kept)
              (sealed-stands a stripe content sound st.content_long),
        )

    beside : no_other s member ≡ false → Mends
    beside e =
        let x = another s member e in
        let broken = bad_other a stripe member bytes x.which (st.lost_in x.which x.lost) x.other (bad-not-good a stripe x.which (block_of (format_at a) bytes x.which) (st.lost-bad x.which x.lost)) in
        let sources : sources_refusal a stripe member bytes ≡ 9 =
        sources_others a stripe member bytes (sound_place a stripe member (record { stripe = sound; here = here })) st.long false broken in
        let number : rebuild_refusal a stripe member bytes ≡ 9 = rebuild_sources_refused a stripe member bytes (λ z. omega (arith, sources, z)) ∙ sources in
        (rw (lt-ltb member a.members here, e) number, refused 9 (omega arith) number (rw e))

  pub rebuild_mends : Mends
  rebuild_mends = by_place (dec_lt member a.members) (no_other s member) refl
    where
      by_place : Dec (member < a.members) → (f : Bool) → no_other s member ≡ f → Mends
      by_place (no l) f e = nowhere (omega arith)
      by_place (yes l) true e = alone l e
      by_place (yes l) false e = beside l e
