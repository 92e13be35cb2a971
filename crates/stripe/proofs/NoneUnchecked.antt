-- No job makes an unchecked block: one that is unchecked after an update or a rebuild, done or refused, was so before.
-- Assumes nothing.
use mathlib.Core.Path.{◌≡◌, sym, ap, ◌∙◌}
use mathlib.Core.Bool.{true, false}
use mathlib.Core.List.{List}
use Prim.Native.Nat.{ℕ, ◌<◌}
use native.Mathlib.Decide.{ℕ_discrete}
use native.Mathlib.Omega.{arith}
use lib.ListN.{length}
use Rattle.layout.specs.Places.{parity_member, stripe_of, member_of}
use Rattle.layout.specs.declared.Array.{Array}
use Rattle.tag.specs.Blocks.{format_at}
use Rattle.tag.specs.Tags.{unchecked}
use Rattle.tag.proofs.Cases.{good_otherwise}
use Rattle.stripe.specs.Stripes.{block_of}
use Rattle.stripe.specs.Jobs.{stored_good, update_refusal, update_bytes, rebuilt, rebuild_refusal, rebuild_bytes}
use Rattle.stripe.proofs.Rebuilds.{rebuild_sources, rebuild-done, rebuild-kept}
use Rattle.stripe.proofs.Restores.{rebuilt-others, rebuilt-good}
use Rattle.stripe.proofs.Updates.{replaceable}
use Rattle.stripe.proofs.Updated.{refusals, update_refused_keeps, update_keeps_others, update_keeps_good}

-- a good block is no unchecked one
never_both : (a : Array) (stripe k : ℕ) (bytes : List ℕ) → stored_good a stripe k bytes ≡ true → unchecked a stripe k (block_of (format_at a) bytes k) ≡ true → ⊥
never_both a stripe k bytes good h = let no = (good_otherwise a stripe k (block_of (format_at a) bytes k) good).1 in let z : true ≡ false = sym h ∙ no in let o : ◌≡◌ {A = ℕ} 0 1 = cc in omega arith

pub update_makes_none : (a : Array) (block : ℕ) (new bytes : List ℕ) → a.volume < 256 → (k : ℕ)
    → unchecked a (stripe_of a block) k (block_of (format_at a) (update_bytes a block new bytes) k) ≡ true → unchecked a (stripe_of a block) k (block_of (format_at a) bytes k) ≡ true
update_makes_none a block new bytes volume k h = by_refusal (ℕ_discrete (update_refusal a block (length new) bytes) 0)
  where
    s : ℕ
    s = stripe_of a block

    by_member : update_refusal a block (length new) bytes ≡ 0 → Dec (k ≡ member_of a block) → Dec (k ≡ parity_member a s) → unchecked a s k (block_of (format_at a) bytes k) ≡ true
    by_member done (yes e) p =
        let r = replaceable a s (member_of a block) (length new) bytes (refusals a block new bytes done).1 in
        absurd (never_both a s k (update_bytes a block new bytes) (update_keeps_good a block new bytes done volume k (ap (λ (m : ℕ). stored_good a s m bytes) e ∙ r.own-good)) h)
    by_member done (no o) (yes e) =
        let r = replaceable a s (member_of a block) (length new) bytes (refusals a block new bytes done).1 in
        absurd (never_both a s k (update_bytes a block new bytes) (update_keeps_good a block new bytes done volume k (ap (λ (m : ℕ). stored_good a s m bytes) e ∙ r.parity-good)) h)
    by_member done (no o) (no p) = ap (unchecked a s k) (sym (update_keeps_others a block new bytes done k o p)) ∙ h

    by_refusal : Dec (update_refusal a block (length new) bytes ≡ 0) → unchecked a s k (block_of (format_at a) bytes k) ≡ true
    by_refusal (yes done) = by_member done (ℕ_discrete k (member_of a block)) (ℕ_discrete k (parity_member a s))
    by_refusal (no ne) = ap (λ (x : List ℕ). unchecked a s k (block_of (format_at a) x k)) (sym (update_refused_keeps a block new bytes ne)) ∙ h

pub rebuild_makes_none : (a : Array) (stripe member : ℕ) (bytes : List ℕ) → a.volume < 256 → (k : ℕ)
    → unchecked a stripe k (block_of (format_at a) (rebuild_bytes a stripe member bytes) k) ≡ true → unchecked a stripe k (block_of (format_at a) bytes k) ≡ true
rebuild_makes_none a stripe member bytes volume k h = by_refusal (ℕ_discrete (rebuild_refusal a stripe member bytes) 0)
  where
    as_now : (x : List ℕ) → rebuild_bytes a stripe member bytes ≡ x → unchecked a stripe k (block_of (format_at a) x k) ≡ true
    as_now x e = ap (λ (y : List ℕ). unchecked a stripe k (block_of (format_at a) y k)) (sym e) ∙ h

    by_member : rebuild_refusal a stripe member bytes ≡ 0 → Dec (k ≡ member) → unchecked a stripe k (block_of (format_at a) bytes k) ≡ true
    by_member done (yes e) =
        let from = rebuild_sources a stripe member bytes done in
        let left = rebuilt a stripe member bytes in
        absurd (never_both a stripe k left (ap (λ (m : ℕ). stored_good a stripe m left) e ∙ rebuilt-good a stripe member bytes from.place from.long volume) (as_now left (sym (rebuild-done a stripe member bytes done))))
    by_member done (no ne) =
        let from = rebuild_sources a stripe member bytes done in
        let left = rebuilt a stripe member bytes in
        ap (unchecked a stripe k) (sym (rebuilt-others a stripe member bytes from.place from.long k ne)) ∙ as_now left (sym (rebuild-done a stripe member bytes done))

    by_refusal : Dec (rebuild_refusal a stripe member bytes ≡ 0) → unchecked a stripe k (block_of (format_at a) bytes k) ≡ true
    by_refusal (yes done) = by_member done (ℕ_discrete k member)
    by_refusal (no ne) = as_now bytes (sym (rebuild-kept a stripe member bytes ne))
