-- A stripe is mended once: what is rebuilt scrubs clean, and differs in one member alone; all else is as it was; and a second time nothing is
-- rebuilt, and the same is listed. Assumes nothing.
use mathlib.Core.Path.{◌≡◌, refl, sym, ap, ◌∙◌}
use mathlib.Core.Bool.{Bool, true, false, cond, ◌&&◌, true≢false}
use mathlib.Core.Logic.{◌≢◌}
use mathlib.Core.List.{List, []}
use Prim.Native.Nat.{ℕ, ◌<◌}
use borrow.Author.Tests.{eqb-true, eqb-false}
use lib.Dec.{eqb}
use lib.ListN.{drop}
use Rattle.layout.specs.declared.Array.{Array}
use Rattle.layout.proofs.Ranges.{both}
use Rattle.tag.specs.Blocks.{format_at}
use Rattle.stripe.specs.Stripes.{block_of}
use Rattle.stripe.specs.Jobs.{rebuild_refusal, rebuild_bytes}
use Rattle.stripe.specs.Verdicts.{scrub_numbers, clean}
use Rattle.stripe.proofs.Rebuilds.{rebuild-kept}
use Rattle.stripe.proofs.RebuildClean.{rebuild-clean}
use Rattle.lines.specs.Lines.{stripe_line, lost_line}
use Rattle.mend.specs.Mending.{verdict_on, says_clean, says_bad, bad_member, mended_by, lost_unless_rebuilt, listed_by, mended, listed, is_rebuilt}
use Rattle.mend.proofs.Rebuilding.{rebuild-beside}

module _ (a : Array) (stripe : ℕ) (bytes : List ℕ) where
  abbrev verdict : List ℕ
  verdict = verdict_on a stripe bytes

  abbrev number : ℕ
  number = rebuild_refusal a stripe (bad_member verdict) bytes

  -- what is not rebuilt is as it was
  pub kept-unless-rebuilt : is_rebuilt a stripe bytes ≡ false → mended a stripe bytes ≡ bytes
  unfolding mended_by
  kept-unless-rebuilt e = by_test (says_bad verdict) (eqb number 0) refl e
    where
      by_test : (f g : Bool) → eqb number 0 ≡ g → (f && g) ≡ false → cond f (rebuild_bytes a stripe (bad_member verdict) bytes) bytes ≡ bytes
      by_test true true z k = absurd (true≢false k)
      by_test true false z k = sym (rebuild-kept a stripe (bad_member verdict) bytes (eqb-false number 0 z))
      by_test false g z k = refl

  module _ (done : is_rebuilt a stripe bytes ≡ true) where
    is_bad_lem : says_bad verdict ≡ true
    is_bad_lem = (both (says_bad verdict) (eqb number 0) done).0

    accepted : number ≡ 0
    accepted = eqb-true number 0 (both (says_bad verdict) (eqb number 0) done).1

    mended_is : mended a stripe bytes ≡ rebuild_bytes a stripe (bad_member verdict) bytes
    unfolding mended_by
    mended_is = ap (λ (f : Bool). cond f (rebuild_bytes a stripe (bad_member verdict) bytes) bytes) is_bad_lem

    pub rebuilt-clean : a.volume < 256 → scrub_numbers a stripe (mended a stripe bytes) ≡ clean
    rebuilt-clean small = ap (scrub_numbers a stripe) mended_is ∙ rebuild-clean a stripe (bad_member verdict) bytes accepted small

    pub rebuilt-beside : (k : ℕ) → k ≢ bad_member verdict → block_of (format_at a) (mended a stripe bytes) k ≡ block_of (format_at a) bytes k
    rebuilt-beside k other = ap (λ (b : List ℕ). block_of (format_at a) b k) mended_is ∙ rebuild-beside a stripe (bad_member verdict) bytes k other

    rebuilt_unlisted : listed a stripe bytes ≡ []
    unfolding listed_by lost_unless_rebuilt
    rebuilt_unlisted =
        by_test (says_clean verdict)
        (ap (λ (f : Bool). cond f (cond (eqb number 0) [] (lost_line stripe)) (stripe_line stripe verdict)) is_bad_lem
        ∙ ap (λ (n : ℕ). cond (eqb n 0) [] (lost_line stripe)) accepted)
      where
        by_test : (f : Bool) {l : List ℕ} → l ≡ [] → cond f [] l ≡ []
        by_test true e = refl
        by_test false e = e

  -- ---- a second time

  -- of a stripe that scrubs clean
  clean-once : scrub_numbers a stripe bytes ≡ clean → (mended a stripe bytes ≡ bytes) × (listed a stripe bytes ≡ []) × (is_rebuilt a stripe bytes ≡ false)
  unfolding mended_by listed_by
  clean-once e = (
    ap (λ (l : List ℕ). mended_by a stripe (drop 2 l) bytes) e,
    ap (λ (l : List ℕ). listed_by a stripe (drop 2 l) bytes) e,
    ap (λ (l : List ℕ). says_bad (drop 2 l) && eqb (rebuild_refusal a stripe (bad_member (drop 2 l)) bytes) 0) e,
  )

pub record Once (a : Array) (stripe : ℕ) (bytes : List ℕ) : Type 0 where
  pub same_bytes : mended a stripe (mended a stripe bytes) ≡ mended a stripe bytes
  pub same_line : listed a stripe (mended a stripe bytes) ≡ listed a stripe bytes
  pub none-rebuilt : is_rebuilt a stripe (mended a stripe bytes) ≡ false

pub mended-once : (a : Array) (stripe : ℕ) (bytes : List ℕ) → a.volume < 256 → Once a stripe bytes
mended-once a stripe bytes small = by_test (is_rebuilt a stripe bytes) refl
  where
    by_test : (f : Bool) → is_rebuilt a stripe bytes ≡ f → Once a stripe bytes
    by_test true e =
        let second = clean-once a stripe (mended a stripe bytes) (rebuilt-clean a stripe bytes e small) in
        record { same_bytes = second.0; same_line = second.1 ∙ sym (rebuilt_unlisted a stripe bytes e); none-rebuilt = second.2 }
    by_test false e =
        let same = kept-unless-rebuilt a stripe bytes e in
        record { same_bytes = ap (mended a stripe) same; same_line = ap (listed a stripe) same; none-rebuilt = ap (is_rebuilt a stripe) same ∙ e }
