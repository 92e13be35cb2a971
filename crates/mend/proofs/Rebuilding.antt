-- What a rebuild leaves, done or refused: as many bytes, and every other member's. Assumes nothing.
use mathlib.Core.Path.{◌≡◌, refl, sym, ap, ◌∙◌}
use mathlib.Core.Bool.{Bool, true, false, cond}
use mathlib.Core.Logic.{◌≢◌}
use mathlib.Core.List.{List, []}
use Prim.Native.Nat.{ℕ, ◌≤◌, zero-le}
use native.Mathlib.Decide.{ℕ_discrete}
use lib.Dec.{eqb}
use lib.ListN.{length}
use Rattle.layout.specs.declared.Array.{Array}
use Rattle.tag.specs.Blocks.{format_at}
use Rattle.stripe.specs.Stripes.{block_of}
use Rattle.stripe.specs.Jobs.{rebuild_refusal, rebuild_bytes}
use Rattle.stripe.proofs.Rebuilds.{rebuild_sources, rebuild-done, rebuild-kept}
use Rattle.stripe.proofs.Restores.{length-rebuilt, rebuilt-others}
use Rattle.lines.specs.Lines.{line_room, stripe_line, lost_line}
use Rattle.lines.proofs.Lines.{stripe-line-fits, lost-line-fits}
use Rattle.mend.specs.Mending.{says_clean, says_bad, bad_member, mended_by, lost_unless_rebuilt, listed_by}

module _ (a : Array) (stripe member : ℕ) (bytes : List ℕ) where
  pub length-rebuild : length (rebuild_bytes a stripe member bytes) ≡ length bytes
  length-rebuild = by_number (ℕ_discrete (rebuild_refusal a stripe member bytes) 0)
    where
      by_number : Dec (rebuild_refusal a stripe member bytes ≡ 0) → length (rebuild_bytes a stripe member bytes) ≡ length bytes
      by_number (yes done) =
          let from = rebuild_sources a stripe member bytes done in
          ap length (sym (rebuild-done a stripe member bytes done)) ∙ length-rebuilt a stripe member bytes from.place from.long ∙ sym from.long
      by_number (no refused) = ap length (sym (rebuild-kept a stripe member bytes refused))

  pub rebuild-beside : (k : ℕ) → k ≢ member → block_of (format_at a) (rebuild_bytes a stripe member bytes) k ≡ block_of (format_at a) bytes k
  rebuild-beside k other = by_number (ℕ_discrete (rebuild_refusal a stripe member bytes) 0)
    where
      by_number : Dec (rebuild_refusal a stripe member bytes ≡ 0)
          → block_of (format_at a) (rebuild_bytes a stripe member bytes) k ≡ block_of (format_at a) bytes k
      by_number (yes done) =
          let from = rebuild_sources a stripe member bytes done in
          ap (λ (b : List ℕ). block_of (format_at a) b k) (sym (rebuild-done a stripe member bytes done))
          ∙ rebuilt-others a stripe member bytes from.place from.long k other
      by_number (no refused) = ap (λ (b : List ℕ). block_of (format_at a) b k) (sym (rebuild-kept a stripe member bytes refused))

-- ---- whatever the verdict, a stripe keeps its length, and its line fits

module _ (a : Array) (stripe : ℕ) (verdict bytes : List ℕ) where
  pub length-mended : length (mended_by a stripe verdict bytes) ≡ length bytes
  unfolding mended_by
  length-mended = by_test (says_bad verdict)
    where
      by_test : (f : Bool) → length (cond f (rebuild_bytes a stripe (bad_member verdict) bytes) bytes) ≡ length bytes
      by_test true = length-rebuild a stripe (bad_member verdict) bytes
      by_test false = refl

  pub listed-fits : length (listed_by a stripe verdict bytes) ≤ line_room
  unfolding listed_by lost_unless_rebuilt
  listed-fits = by_test (says_clean verdict) (says_bad verdict) (eqb (rebuild_refusal a stripe (bad_member verdict) bytes) 0)
    where
      by_test : (f g h : Bool) → length (cond f [] (cond g (cond h [] (lost_line stripe)) (stripe_line stripe verdict))) ≤ line_room
      by_test true g h = zero-le
      by_test false true true = zero-le
      by_test false true false = lost-line-fits stripe
      by_test false false h = stripe-line-fits stripe verdict
