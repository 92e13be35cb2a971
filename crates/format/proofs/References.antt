-- What a reference tag tells of a block number: all of it in a large block's tag, its low thirty-two bits in the others. Assumes nothing.
use mathlib.Core.Path.{◌≡◌, refl, sym, ◌∙◌}
use mathlib.Core.Logic.{◌≢◌}
use Prim.Native.Nat.{ℕ, ◌*◌, ◌%◌, ◌^◌, ◌<◌}
use native.Mathlib.Nat.{mod-lt, mod-eq_of_lt}
use native.Mathlib.Omega.{arith}
use Rattle.format.specs.Formats.{Format, reference_of}
use Rattle.format.specs.Methods.{format_of}
use Rattle.format.proofs.Laws.{of_three, of_small}
use Rattle.format.proofs.Sizes.{reference_room}

module _ (F : Format) where
  -- it fits its field
  pub reference_fits : (block : ℕ) → reference_of F block < 256 ^ (2 * F.quarter)
  unfolding reference_of
  reference_fits block = let some : 0 < 256 ^ (2 * F.quarter) = omega (arith, reference_room F) in mod-lt block some

  -- a number that fits the field is told whole, so no two such numbers have the same
  pub reference_whole : (block : ℕ) → block < 256 ^ (2 * F.quarter) → reference_of F block ≡ block
  unfolding reference_of
  reference_whole block h = mod-eq_of_lt h

  pub reference_injective : (x y : ℕ) → x < 256 ^ (2 * F.quarter) → y < 256 ^ (2 * F.quarter) → reference_of F x ≡ reference_of F y → x ≡ y
  reference_injective x y p q e = sym (reference_whole x p) ∙ e ∙ reference_whole y q

-- the numbers that a field tells apart
pub four-told : (method : ℕ) → method ≢ 3 → 256 ^ (2 * (format_of method).quarter) ≡ 4294967296
four-told = of_small (λ F. 256 ^ (2 * F.quarter) ≡ 4294967296) refl refl

pub eight_told : (method : ℕ) → method ≡ 3 → 256 ^ (2 * (format_of method).quarter) ≡ 18446744073709551616
eight_told method e = rw (of_three method e)

-- so the reference tag is the low thirty-two bits in methods 1 and 2, and in method 3 all of every number of sixty-four
pub low_told : (method block : ℕ) → method ≢ 3 → reference_of (format_of method) block ≡ block % 4294967296
unfolding reference_of
low_told method block ne = rw (four-told method ne)

pub all_told : (method block : ℕ) → method ≡ 3 → block < 18446744073709551616 → reference_of (format_of method) block ≡ block
all_told method block e h = reference_whole (format_of method) block (rw (eight_told method e) h)
