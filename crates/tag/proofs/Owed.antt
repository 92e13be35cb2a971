-- What is due at a place, by what lies there: a block, the parity of its stripe, or nothing.
-- Assumes nothing.
use mathlib.Core.Path.{◌≡◌, refl, sym, ap, ◌∙◌}
use mathlib.Core.Bool.{Bool, true, false, cond}
use mathlib.Core.Logic.{◌≢◌}
use Prim.Native.Nat.{ℕ, ◌+◌, ◌*◌, ◌^◌, ◌<◌}
use native.Mathlib.Decide.{ℕ_discrete}
use native.Mathlib.Nat.{zero-add}
use native.Mathlib.Omega.{arith}
use borrow.Author.Tests.{eq-eqb, ne_eqb}
use Rattle.std.specs.Prelude.{Result, Ok, Err}
use Rattle.std.specs.Result.{result_ok}
use Rattle.refusal.specs.declared.Refusal.{Refusal}
use Rattle.format.specs.Formats.{reference_of}
use Rattle.format.proofs.Sizes.{application_small}
use Rattle.format.proofs.References.{reference_fits}
use Rattle.layout.specs.Places.{parity_member, lowest_block, block_at, index_at, is_parity, block_named, owner_refusal, owned_numbers, owner_numbers}
use Rattle.layout.specs.declared.Array.{Array}
use Rattle.layout.specs.declared.Owned.{Owned}
use Rattle.layout.specs.declared.Owned.TheVariants.{Parity, Data}
use Rattle.layout.proofs.Numbers.{owner_refused, owner_of_parity, owner_of_data}
use Rattle.layout.proofs.Injective.{owned_injective}
use Rattle.tag.specs.Blocks.{format_at}
use Rattle.tag.specs.Tags.{application_due, reference_due, guard_due, due, due_at, due_to}
use Rattle.tag.proofs.Guards.{guard_by_kind, guard_alike}

module _ (a : Array) (stripe member : ℕ) where
  -- ---- the two fields beside the guard fit their bytes

  pub application_fit : a.volume < 256 → application_due a stripe member < 256 ^ (format_at a).quarter
  unfolding application_due
  application_fit volume = application_small (format_at a) (cond (is_parity a stripe member) 0x8000 0 + a.volume) (by_mark (is_parity a stripe member))
    where
      by_mark : (t : Bool) → cond t 0x8000 0 + a.volume < 65536
      by_mark true = omega arith
      by_mark false = omega arith

  pub reference_fit : reference_due a stripe member < 256 ^ (2 * (format_at a).quarter)
  unfolding reference_due
  reference_fit = reference_fits (format_at a) (block_named a stripe member)

module _ (a : Array) (stripe member guard : ℕ) where
  pub due_of_parity : member ≡ parity_member a stripe →
      due a stripe member guard ≡ record { guard = guard; application = (0x8000 + a.volume) * (format_at a).scale; reference = reference_of (format_at a) (lowest_block a stripe) }
  unfolding due application_due reference_due block_named
  due_of_parity p = rw (eq-eqb member (parity_member a stripe) p)

  pub due_of_data : member ≢ parity_member a stripe →
      due a stripe member guard
      ≡ record { guard = guard; application = a.volume * (format_at a).scale; reference = reference_of (format_at a) (block_at a stripe (index_at a stripe member)) }
  unfolding due application_due reference_due block_named
  due_of_data p = rw (ne_eqb member (parity_member a stripe) p, zero-add)

  pub due_somewhere : owner_refusal a stripe member ≡ 0 → due_at a stripe member guard ≡ due a stripe member guard
  unfolding due_at
  due_somewhere e = rw e

  pub due_nowhere : owner_refusal a stripe member ≢ 0 → due_at a stripe member guard ≡ record { guard = 0; application = 0; reference = 0 }
  unfolding due_at
  due_nowhere e = rw (ne_eqb (owner_refusal a stripe member) 0 e)

-- the owner that a place has, whichever way it is told
module _ (a : Array) (stripe member parity own : ℕ) (o : Result Owned Refusal) (told : owned_numbers o ≡ owner_numbers a stripe member) where
  abbrev guard : ℕ
  guard = cond (is_parity a stripe member) parity own

  nowhere : (r : Result Owned Refusal) → owned_numbers r ≡ owner_numbers a stripe member → owner_refusal a stripe member ≢ 0
      → due_to a parity own (result_ok r) ≡ record { guard = 0; application = 0; reference = 0 }
  nowhere (Err refusal) t e = refl
  nowhere (Ok (Parity lowest)) t e = let no = t ∙ owner_refused a stripe member e in absurd (cc)
  nowhere (Ok (Data block)) t e = let no = t ∙ owner_refused a stripe member e in absurd (cc)

  pub due_by_owner : due_to a parity own (result_ok o) ≡ due_at a stripe member guard
  due_by_owner = by_kind (ℕ_discrete (owner_refusal a stripe member) 0) (ℕ_discrete member (parity_member a stripe))
    where
      by_kind : Dec (owner_refusal a stripe member ≡ 0) → Dec (member ≡ parity_member a stripe) → due_to a parity own (result_ok o) ≡ due_at a stripe member guard
      by_kind (no e) p = nowhere o told e ∙ sym (due_nowhere a stripe member guard e)
      by_kind (yes e) (yes p) =
          ap (λ (r : Result Owned Refusal). due_to a parity own (result_ok r)) (owned_injective o (Ok (Parity (lowest_block a stripe))) (told ∙ owner_of_parity a stripe member e p))
          ∙ sym (due_somewhere a stripe member guard e ∙ ap (due a stripe member) (rw (eq-eqb member (parity_member a stripe) p)) ∙ due_of_parity a stripe member parity p)
      by_kind (yes e) (no p) =
          ap (λ (r : Result Owned Refusal). due_to a parity own (result_ok r)) (owned_injective o (Ok (Data (block_at a stripe (index_at a stripe member)))) (told ∙ owner_of_data a stripe member e p))
          ∙ sym (due_somewhere a stripe member guard e ∙ ap (due a stripe member) (rw (ne_eqb member (parity_member a stripe) p)) ∙ due_of_data a stripe member own p)

  -- with one guard for both, and with the one that is due where these were found
  pub due-told : (x : ℕ) → parity ≡ x → own ≡ x → due_to a parity own (result_ok o) ≡ due_at a stripe member x
  due-told x p q = due_by_owner ∙ ap (due_at a stripe member) (rw (p, q) (guard_alike a stripe member x x))

  pub expected-told : (found : ℕ) → parity ≡ cond (format_at a).carries found own → due_to a parity own (result_ok o) ≡ due_at a stripe member (guard_due a stripe member found own)
  expected-told found p = due_by_owner ∙ ap (due_at a stripe member) (ap (λ (x : ℕ). cond (is_parity a stripe member) x own) p ∙ guard_by_kind a stripe member found own)
