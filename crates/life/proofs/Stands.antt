-- How the stripe in memory stands to its ledger: every member but the lost one holds, byte for byte, what sealing the kept contents would put
-- there, and the lost one checks bad. This is the invariant that every event keeps. Assumes nothing.
use mathlib.Core.Path.{◌≡◌, refl, sym, ap, ◌∙◌}
use mathlib.Core.Logic.{◌≢◌}
use mathlib.Core.Bool.{Bool, true, false}
use mathlib.Core.List.{List}
use Prim.Native.Nat.{ℕ, ◌*◌, ◌<◌}
use native.Mathlib.Omega.{arith}
use borrow.Author.Tests.{eqb-true, eqb-false, eq-eqb, ne_eqb}
use lib.ListN.{length}
use Rattle.layout.specs.Arrays.{data_members}
use Rattle.layout.specs.Ranges.{SoundStripe}
use Rattle.layout.specs.declared.Array.{Array}
use Rattle.tag.specs.Blocks.{format_at}
use Rattle.tag.specs.Tags.{good, bad}
use Rattle.tag.proofs.Cases.{good_otherwise}
use Rattle.stripe.specs.Stripes.{stripe_length, block_of}
use Rattle.stripe.specs.Jobs.{sealed}
use Rattle.stripe.proofs.Blocks.{same_blocks}
use Rattle.stripe.proofs.Seals.{length-sealed}
use Rattle.stripe.proofs.Sealed.{sealed-good}
use Rattle.life.specs.Ledger.{opened, Standing, whole, lacks, is_lost, no_other}

pub never : {A : Type 0} → true ≡ false → A
never e = let z : ◌≡◌ {A = ℕ} 0 1 = cc in absurd (omega arith)

-- ---- one member is lost at most

pub others-there : (s : Standing) (m : ℕ) → no_other s m ≡ true → (k : ℕ) → k ≢ m → is_lost s k ≡ false
others-there whole m e k ne = refl
others-there (lacks j) m e k ne = ne_eqb k j (λ q. ne (q ∙ sym (eqb-true m j e)))

pub lost-alone : (s : Standing) (m : ℕ) → is_lost s m ≡ true → no_other s m ≡ true
lost-alone whole m e = never (sym e)
lost-alone (lacks j) m e = e

-- where another is, it is this one
pub record Another (s : Standing) (m : ℕ) : Type 0 where
  pub which : ℕ
  pub lost : is_lost s which ≡ true
  pub other : which ≢ m

pub another : (s : Standing) (m : ℕ) → no_other s m ≡ false → Another s m
another whole m e = never e
another (lacks j) m e = record { which = j; lost = eq-eqb j j refl; other = λ q. eqb-false m j e (sym q) }

-- ---- the invariant

pub record Stands (a : Array) (stripe : ℕ) (contents : List (List ℕ)) (s : Standing) (bytes : List ℕ) : Type 0 where
  pub content : List ℕ
  pub content_long : length content ≡ (format_at a).data_length * data_members a
  pub kept : contents ≡ opened a content
  pub long : length bytes ≡ stripe_length a
  pub there : (m : ℕ) → m < a.members → is_lost s m ≡ false → block_of (format_at a) bytes m ≡ block_of (format_at a) (sealed a stripe content) m
  pub lost_in : (m : ℕ) → is_lost s m ≡ true → m < a.members
  pub lost-bad : (m : ℕ) → is_lost s m ≡ true → bad a stripe m (block_of (format_at a) bytes m) ≡ true

-- a block that is bad is not good, and so a good one is not lost
pub bad-not-good : (a : Array) (stripe m : ℕ) (block : List ℕ) → bad a stripe m block ≡ true → good a stripe m block ≡ false
bad-not-good a stripe m block e = by_flag (good a stripe m block) refl
  where
    by_flag : (f : Bool) → good a stripe m block ≡ f → f ≡ false
    by_flag false g = refl
    by_flag true g = never (sym e ∙ (good_otherwise a stripe m block g).0)

module _ (a : Array) (stripe : ℕ) {contents : List (List ℕ)} {s : Standing} {bytes : List ℕ} (st : Stands a stripe contents s bytes) where
  pub good-there : (m : ℕ) → good a stripe m (block_of (format_at a) bytes m) ≡ true → is_lost s m ≡ false
  good-there m g = by_flag (is_lost s m) refl
    where
      by_flag : (f : Bool) → is_lost s m ≡ f → f ≡ false
      by_flag false e = refl
      by_flag true e = never (sym g ∙ bad-not-good a stripe m (block_of (format_at a) bytes m) (st.lost-bad m e))

  pub there-good : SoundStripe a stripe → a.volume < 256 → (m : ℕ) → m < a.members → is_lost s m ≡ false → good a stripe m (block_of (format_at a) bytes m) ≡ true
  there-good sound small m h e = ap (good a stripe m) (st.there m h e) ∙ sealed-good a stripe st.content sound st.content_long small m h

-- ---- at first, and with no member lost, it is the sealed stripe

pub sealed-stands : (a : Array) (stripe : ℕ) (content : List ℕ) → SoundStripe a stripe → length content ≡ (format_at a).data_length * data_members a
    → Stands a stripe (opened a content) whole (sealed a stripe content)
sealed-stands a stripe content sound long =
    record {
      content = content;
      content_long = long;
      kept = refl;
      long = length-sealed a stripe content sound long;
      there = λ m h e. refl;
      lost_in = λ m e. never (sym e);
      lost-bad = λ m e. never (sym e);
    }

pub whole-sealed : (a : Array) (stripe : ℕ) {contents : List (List ℕ)} {bytes : List ℕ} → SoundStripe a stripe → (st : Stands a stripe contents whole bytes)
    → bytes ≡ sealed a stripe st.content
whole-sealed a stripe {bytes = bytes} sound st =
    same_blocks (format_at a) a.members bytes (sealed a stripe st.content) st.long (length-sealed a stripe st.content sound st.content_long) (λ m h. st.there m h refl)
