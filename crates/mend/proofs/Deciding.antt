-- What is done with a stripe, verdict by verdict, as the code comes to it. Assumes nothing.
use mathlib.Core.Path.{◌≡◌, refl, sym, ap, ◌∙◌, subst}
use mathlib.Core.Bool.{Bool, true, false, cond}
use mathlib.Core.Logic.{◌⊎◌, inl, inr}
use mathlib.Core.List.{List, []}
use Prim.Native.Nat.{ℕ}
use borrow.Author.Tests.{eq-eqb, ne_eqb}
use lib.Dec.{ltb}
use lib.ListN.{length, drop}
use Rattle.layout.specs.declared.Array.{Array}
use Rattle.verdict.specs.Verdicts.{verdict_numbers, scrubbed_numbers}
use Rattle.verdict.specs.declared.Verdict.{Verdict}
use Rattle.verdict.specs.declared.Verdict.TheVariants.{Clean, Bad, Torn, Unchecked}
use Rattle.std.proofs.Common.{Ok, Err}
use Rattle.refusal.specs.Refusals.{number}
use Rattle.refusal.specs.declared.Refusal.{Refusal}
use Rattle.refusal.proofs.Passing.{number-some}
use Rattle.stripe.specs.Jobs.{rebuild_refusal, rebuild_bytes}
use Rattle.stripe.specs.Verdicts.{scrub_numbers}
use Rattle.lines.specs.Text.{Written}
use Rattle.lines.specs.Lines.{line_room, fitting, stripe_line, lost_line}
use Rattle.mend.specs.Mending.{mended_by, lost_unless_rebuilt, listed_by, mended, listed}

-- no line: nothing is written
pub no_line : (list : List ℕ) → Written list 0 (fitting (length list) []) list 0
unfolding fitting
no_line list = go (ltb (length list) line_room)
  where
    go : (f : Bool) → Written list 0 (cond f [] []) list 0
    go true = record { stands = refl; behind = refl }
    go false = record { stands = refl; behind = refl }

-- a line that equals the one that is due
pub line_same : {before after line due : List ℕ} {place : ℕ} → line ≡ due → Written before 0 (fitting (length before) line) after place
    → Written before 0 (fitting (length before) due) after place
line_same {before} {after} {line} {due} {place} e w = subst (λ (l : List ℕ). Written before 0 (fitting (length before) l) after place) e w

module _ (a : Array) (stripe member : ℕ) (bytes : List ℕ) where
  -- a rebuild that is done leaves no line, one that is refused the line of a lost stripe
  pub rebuilt_unlisted : 0 ≡ rebuild_refusal a stripe member bytes → [] ≡ lost_unless_rebuilt a stripe member bytes
  unfolding lost_unless_rebuilt
  rebuilt_unlisted done = rw (eq-eqb (rebuild_refusal a stripe member bytes) 0 (sym done))

  pub refused_lost : (refusal : Refusal) → number refusal ≡ rebuild_refusal a stripe member bytes → lost_line stripe ≡ lost_unless_rebuilt a stripe member bytes
  unfolding lost_unless_rebuilt
  refused_lost refusal told = rw (ne_eqb (rebuild_refusal a stripe member bytes) 0 (λ e. number-some refusal (told ∙ e)))

-- ---- by the verdict

module _ (a : Array) (stripe : ℕ) (bytes : List ℕ) {verdict : Verdict} where
  pub clean_stays : verdict ≡ Clean → bytes ≡ mended_by a stripe (verdict_numbers verdict) bytes
  unfolding mended_by
  clean_stays e = rw e

  pub clean_unlisted : verdict ≡ Clean → [] ≡ listed_by a stripe (verdict_numbers verdict) bytes
  unfolding listed_by
  clean_unlisted e = rw e

  pub bad_rebuilds : {member count faults : ℕ} → verdict ≡ Bad member count faults
      → rebuild_bytes a stripe member bytes ≡ mended_by a stripe (verdict_numbers verdict) bytes
  unfolding mended_by
  bad_rebuilds e = rw e

  pub bad-listed : {member count faults : ℕ} → verdict ≡ Bad member count faults
      → lost_unless_rebuilt a stripe member bytes ≡ listed_by a stripe (verdict_numbers verdict) bytes
  unfolding listed_by
  bad-listed e = rw e

  pub torn_stays : {place : ℕ} → verdict ≡ Torn place → bytes ≡ mended_by a stripe (verdict_numbers verdict) bytes
  unfolding mended_by
  torn_stays e = rw e

  pub torn-listed : {place : ℕ} → verdict ≡ Torn place → stripe_line stripe (verdict_numbers verdict) ≡ listed_by a stripe (verdict_numbers verdict) bytes
  unfolding listed_by
  torn-listed e = rw e

  pub unchecked_stays : {member count : ℕ} → verdict ≡ Unchecked member count → bytes ≡ mended_by a stripe (verdict_numbers verdict) bytes
  unfolding mended_by
  unchecked_stays e = rw e

  pub unchecked-listed : {member count : ℕ} → verdict ≡ Unchecked member count
      → stripe_line stripe (verdict_numbers verdict) ≡ listed_by a stripe (verdict_numbers verdict) bytes
  unfolding listed_by
  unchecked-listed e = rw e

-- one of these two
abbrev Left : Verdict → Type 0
Left verdict = ((member : ℕ) × (count : ℕ) × (verdict ≡ Unchecked member count)) ⊎ ((place : ℕ) × (verdict ≡ Torn place))

module _ (a : Array) (stripe : ℕ) (bytes : List ℕ) (verdict : Verdict) where
  pub left_stays : Left verdict → bytes ≡ mended_by a stripe (verdict_numbers verdict) bytes
  left_stays (inl (member, count, e)) = unchecked_stays a stripe bytes e
  left_stays (inr (place, e)) = torn_stays a stripe bytes e

  pub left-listed : Left verdict → stripe_line stripe (verdict_numbers verdict) ≡ listed_by a stripe (verdict_numbers verdict) bytes
  left-listed (inl (member, count, e)) = unchecked-listed a stripe bytes e
  left-listed (inr (place, e)) = torn-listed a stripe bytes e

-- ---- by the scrub's answer

module _ (a : Array) (stripe : ℕ) (bytes : List ℕ) where
  module _ (verdict : Verdict) (told : scrubbed_numbers (Ok verdict) ≡ scrub_numbers a stripe bytes) where
    pub found_mends : mended_by a stripe (verdict_numbers verdict) bytes ≡ mended a stripe bytes
    found_mends = ap (λ (l : List ℕ). mended_by a stripe (drop 2 l) bytes) told

    pub found-lists : listed_by a stripe (verdict_numbers verdict) bytes ≡ listed a stripe bytes
    found-lists = ap (λ (l : List ℕ). listed_by a stripe (drop 2 l) bytes) told

  -- a refused scrub is that of no stripe of the array, of which nothing is said
  module _ (refusal : Refusal) (told : scrubbed_numbers (Err refusal) ≡ scrub_numbers a stripe bytes) where
    pub refused_stays : bytes ≡ mended a stripe bytes
    unfolding mended_by
    refused_stays = ap (λ (l : List ℕ). mended_by a stripe (drop 2 l) bytes) told

    pub refused_unlisted : [] ≡ listed a stripe bytes
    unfolding listed_by
    refused_unlisted = ap (λ (l : List ℕ). listed_by a stripe (drop 2 l) bytes) told
