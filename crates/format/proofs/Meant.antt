-- A method's number by the kind that it means. Assumes nothing.
use mathlib.Core.Path.{◌≡◌, refl, sym, ap, ◌∙◌}
use mathlib.Core.Logic.{◌≢◌}
use Rattle.std.proofs.Common.{◌⊎◌, inl, inr}
use Prim.Native.Nat.{ℕ}
use native.Mathlib.Decide.{ℕ_discrete}
use native.Mathlib.Omega.{arith}
use borrow.Author.Tests.{eqb-true}
use Rattle.format.specs.Formats.{Format}
use Rattle.format.specs.Methods.{checksummed, large, format_of}
use Rattle.format.specs.Kinds.{format_by}
use Rattle.format.specs.declared.Kind.{Kind}
use Rattle.format.specs.declared.Kind.TheVariants.{Crc, Checksum, Large}
use Rattle.format.proofs.Laws.{of_three, of_small, carries_two}

pub is_large : (m : ℕ) → large ≡ format_of m → m ≡ 3
is_large m e = go (ℕ_discrete m 3)
  where
    go : Dec (m ≡ 3) → m ≡ 3
    go (yes q) = q
    go (no ne) =
        let small : (format_of m).data_length ≡ 512 = of_small (λ F. F.data_length ≡ 512) refl refl m ne in
        let long : 4096 ≡ (format_of m).data_length = ap (λ (F : Format). F.data_length) e in
        absurd (omega arith)

pub is_checksum : (m : ℕ) → checksummed ≡ format_of m → m ≡ 2
is_checksum m e = eqb-true m 2 (carries_two m ∙ sym (ap (λ (F : Format). F.carries) e))

pub kind_small : (m : ℕ) (k : Kind) → format_by k ≡ format_of m → (k ≡ Large → ⊥) → m ≢ 3
kind_small m Crc e other q = let long : ◌≡◌ {A = ℕ} 512 4096 = ap (λ (F : Format). F.data_length) (e ∙ of_three m q) in absurd (omega arith)
kind_small m Checksum e other q = let long : ◌≡◌ {A = ℕ} 512 4096 = ap (λ (F : Format). F.data_length) (e ∙ of_three m q) in absurd (omega arith)
kind_small m Large e other q = other refl

pub small_kind : (k : Kind) → (k ≡ Crc) ⊎ (k ≡ Checksum) → k ≡ Large → ⊥
small_kind k (inl a) q = cc
small_kind k (inr b) q = cc
