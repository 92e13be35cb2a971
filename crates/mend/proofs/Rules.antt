-- The request's rules in its own words, from how the members of a stripe stand: which stripe is rebuilt, which is lost, and which is left and
-- listed with its report's line. Assumes nothing.
use mathlib.Core.Path.{◌≡◌, refl, sym, ap, ◌∙◌}
use mathlib.Core.Logic.{◌≢◌}
use mathlib.Core.Bool.{Bool, true, false, cond, ◌&&◌}
use mathlib.Core.List.{List, [], ◌∷◌}
use Prim.Native.Nat.{ℕ, ◌<◌}
use native.Mathlib.Omega.{arith}
use borrow.Author.Tests.{eqb-true, eq-eqb, ne_eqb}
use lib.Dec.{eqb}
use lib.ListN.{length, drop}
use Rattle.layout.specs.Arrays.{stripe_refusal}
use Rattle.layout.specs.declared.Array.{Array}
use Rattle.format.specs.Formats.{guard}
use Rattle.tag.specs.Blocks.{format_at}
use Rattle.tag.specs.Tags.{standing_at, is_bad, good, bad}
use Rattle.verdict.specs.Verdicts as verdicts
use Rattle.stripe.specs.Tables.{table}
use Rattle.stripe.specs.Stripes.{stripe_length, block_of, others_data, guards_fit}
use Rattle.stripe.specs.Jobs.{rebuild_refusal, rebuild_bytes}
use Rattle.stripe.specs.Verdicts.{scrub_numbers, FirstMember}
use Rattle.stripe.proofs.Others.{good_others, others_are_good}
use Rattle.stripe.proofs.Rebuilds.{sources_rebuild, rebuild_sources, rebuild-kept}
use Rattle.stripe.proofs.Scrubs.{sound_scrub, member_place, scrub_bad}
use Rattle.lines.specs.Lines.{stripe_line, lost_line}
use Rattle.mend.specs.Mending.{says_bad, bad_member, mended_by, lost_unless_rebuilt, listed_by, mended, listed, is_rebuilt}

-- a stripe of the array
module _ (a : Array) (stripe : ℕ) (bytes : List ℕ) (here : stripe_refusal a stripe ≡ 0) (long : length bytes ≡ stripe_length a) where
  abbrev is_good : ℕ → Bool
  is_good m = good a stripe m (block_of (format_at a) bytes m)

  abbrev bad_at : ℕ → Bool
  bad_at m = bad a stripe m (block_of (format_at a) bytes m)

  good-not-bad : (m : ℕ) → is_good m ≡ true → bad_at m ≡ false
  good-not-bad m e = ap is_bad (eqb-true (standing_at a stripe m (block_of (format_at a) bytes m)) 0 e)

  -- the lowest bad member is the one that the verdict names
  module _ (m : ℕ) (first : FirstMember bad_at a.members m) where
    abbrev bads : ℕ
    bads = verdicts.count (table a.members bad_at)

    abbrev faults : ℕ
    faults = standing_at a stripe m (block_of (format_at a) bytes m)

    told : scrub_numbers a stripe bytes ≡ 1 ∷ 0 ∷ verdicts.says_bad m bads faults
    told = (scrub_bad a stripe bytes (sound_scrub a stripe (length bytes) here long) m bads faults).1 (first, refl, refl)

    listed_is : listed a stripe bytes ≡ lost_unless_rebuilt a stripe m bytes
    unfolding listed_by
    listed_is = ap (λ (l : List ℕ). listed_by a stripe (drop 2 l) bytes) told

    mended_is : mended a stripe bytes ≡ rebuild_bytes a stripe m bytes
    unfolding mended_by
    mended_is = ap (λ (l : List ℕ). mended_by a stripe (drop 2 l) bytes) told

    rebuilt_is : is_rebuilt a stripe bytes ≡ eqb (rebuild_refusal a stripe m bytes) 0
    rebuilt_is = ap (λ (l : List ℕ). says_bad (drop 2 l) && eqb (rebuild_refusal a stripe (bad_member (drop 2 l)) bytes) 0) told

  -- exactly one bad member and no unchecked one, so that every other is good, and guards that fit, as by methods 1 and 3 they always do: rebuilt
  pub one-bad-rebuilt : (m : ℕ) → m < a.members → bad_at m ≡ true → ((k : ℕ) → k < a.members → k ≢ m → is_good k ≡ true)
      → guards_fit a stripe m bytes (guard (format_at a) (others_data (format_at a) a.members m bytes)) ≡ true
      → (is_rebuilt a stripe bytes ≡ true) × (mended a stripe bytes ≡ rebuild_bytes a stripe m bytes) × (listed a stripe bytes ≡ [])
  unfolding lost_unless_rebuilt
  one-bad-rebuilt m inside is others fits =
      let first : FirstMember bad_at a.members m = record { inside = inside; holds = is; none_below = λ k l. good-not-bad k (others k (omega arith) (λ e. omega arith)) } in
      let done = sources_rebuild a stripe m bytes
      (record { place = member_place a stripe (length bytes) m (sound_scrub a stripe (length bytes) here long) inside; long = long; others = good_others a stripe m bytes others; fits = fits }) in
      let zero = eq-eqb (rebuild_refusal a stripe m bytes) 0 done in
      (rebuilt_is m first ∙ zero, mended_is m first, listed_is m first ∙ ap (λ (t : Bool). cond t [] (lost_line stripe)) zero)

  -- any other stripe with a bad member, the lowest being m: another that is not good, or guards that do not fit: lost, and as it was
  pub lost_otherwise : (m : ℕ) → FirstMember bad_at a.members m
      → (((k : ℕ) → k < a.members → k ≢ m → is_good k ≡ true) → guards_fit a stripe m bytes (guard (format_at a) (others_data (format_at a) a.members m bytes)) ≡ true → ⊥)
      → (is_rebuilt a stripe bytes ≡ false) × (mended a stripe bytes ≡ bytes) × (listed a stripe bytes ≡ lost_line stripe)
  unfolding lost_unless_rebuilt
  lost_otherwise m first not_so =
      let refused : rebuild_refusal a stripe m bytes ≢ 0 =
      λ e. let from = rebuild_sources a stripe m bytes e in not_so (others_are_good a stripe m bytes from.others) from.fits in
      let no_zero = ne_eqb (rebuild_refusal a stripe m bytes) 0 refused in
      (rebuilt_is m first ∙ no_zero, mended_is m first ∙ sym (rebuild-kept a stripe m bytes refused), listed_is m first ∙ ap (λ (t : Bool). cond t [] (lost_line stripe)) no_zero)

-- torn, or unchecked with none bad: as it was, and listed with its report's line; clean: as it was, and not listed
module _ (a : Array) (stripe : ℕ) (bytes : List ℕ) where
  pub torn-left : (place : ℕ) → scrub_numbers a stripe bytes ≡ 1 ∷ 0 ∷ verdicts.says_torn place
      → (mended a stripe bytes ≡ bytes) × (listed a stripe bytes ≡ stripe_line stripe (verdicts.says_torn place))
  unfolding mended_by listed_by
  torn-left place e = (ap (λ (l : List ℕ). mended_by a stripe (drop 2 l) bytes) e, ap (λ (l : List ℕ). listed_by a stripe (drop 2 l) bytes) e)

  pub unchecked-left : (member count : ℕ) → scrub_numbers a stripe bytes ≡ 1 ∷ 0 ∷ verdicts.says_unchecked member count
      → (mended a stripe bytes ≡ bytes) × (listed a stripe bytes ≡ stripe_line stripe (verdicts.says_unchecked member count))
  unfolding mended_by listed_by
  unchecked-left member count e = (ap (λ (l : List ℕ). mended_by a stripe (drop 2 l) bytes) e, ap (λ (l : List ℕ). listed_by a stripe (drop 2 l) bytes) e)

  pub clean-left : scrub_numbers a stripe bytes ≡ 1 ∷ 0 ∷ verdicts.says_clean → (mended a stripe bytes ≡ bytes) × (listed a stripe bytes ≡ [])
  unfolding mended_by listed_by
  clean-left e = (ap (λ (l : List ℕ). mended_by a stripe (drop 2 l) bytes) e, ap (λ (l : List ℕ). listed_by a stripe (drop 2 l) bytes) e)
