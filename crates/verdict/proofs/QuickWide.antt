-- The quick scrub of guards of thirty-two bits: what is due by their number, its answer, and that the guards of blocks that combine to zeros
-- fit. Assumes nothing.
use mathlib.Core.Path.{◌≡◌, refl, sym, ap, ◌∙◌}
use mathlib.Core.List.{List, [], ◌∷◌, map}
use mathlib.Core.Logic.{◌≢◌}
use Prim.Native.Nat.{ℕ, ◌*◌, ◌%◌, ◌≤◌}
use native.Mathlib.Nat.{mul-zero, mul-one}
use lib.Bits.{bit_xor}
use lib.ListN.{length, replicate, length-map}
use Rattle.xor.specs.Xors.{combination}
use Rattle.castagnoli.specs.Castagnoli.{crc32c}
use Rattle.castagnoli.proofs.Combined.{Long, blank, together, crc32c-combined}
use Rattle.castagnoli_words.proofs.Zeros.{blank-block}
use Rattle.verdict.specs.Verdicts.{combined_guards, quick_refusal}
use Rattle.verdict.specs.QuickWide.{wide_due, quick_wide_numbers}
use Rattle.verdict.proofs.Quick.{sound_quick, compared_refused, compared_fits, compared_differs}

-- ---- what is due

pub due_is : (n : ℕ) → wide_due n ≡ 0x98F94189 * (n % 2)
unfolding wide_due
due_is n = ap (λ (b : ℕ). b * (n % 2)) blank-block

pub due-even : (n : ℕ) → n % 2 ≡ 0 → wide_due n ≡ 0
unfolding wide_due
due-even n e = ap (λ (k : ℕ). blank 4096 * k) e ∙ mul-zero (blank 4096)

pub due-odd : (n : ℕ) → n % 2 ≡ 1 → wide_due n ≡ 0x98F94189
unfolding wide_due
due-odd n e = ap (λ (k : ℕ). blank 4096 * k) e ∙ mul-one (blank 4096) ∙ blank-block

-- ---- the answer

module _ (guards : List ℕ) where
  pub wide_refused : quick_refusal (length guards) ≢ 0 → quick_wide_numbers guards ≡ 0 ∷ quick_refusal (length guards) ∷ 0 ∷ 0 ∷ []
  unfolding quick_wide_numbers
  wide_refused = compared_refused (wide_due (length guards)) guards

  pub wide_fits : quick_refusal (length guards) ≡ 0 → combined_guards guards ≡ wide_due (length guards) → quick_wide_numbers guards ≡ 1 ∷ 0 ∷ 0 ∷ 0 ∷ []
  unfolding quick_wide_numbers
  wide_fits = compared_fits (wide_due (length guards)) guards

  pub wide_differs : quick_refusal (length guards) ≡ 0 → combined_guards guards ≢ wide_due (length guards) → quick_wide_numbers guards ≡ 1 ∷ 0 ∷ 1 ∷ combined_guards guards ∷ []
  unfolding quick_wide_numbers
  wide_differs = compared_differs (wide_due (length guards)) guards

-- ---- guards of blocks that combine to zeros fit

together-guards : (l : List ℕ) → together l ≡ combined_guards l
together-guards [] = refl
together-guards (g ∷ l) = ap (bit_xor g) (together-guards l)

module _ (blocks : List (List ℕ)) (long : Long 4096 blocks) (zeros : combination 4096 blocks ≡ replicate 4096 0) where
  guards-due : combined_guards (map crc32c blocks) ≡ wide_due (length blocks)
  unfolding wide_due
  guards-due = sym (together-guards (map crc32c blocks)) ∙ crc32c-combined 4096 blocks long zeros

  pub zeros-fit : 3 ≤ length blocks → length blocks ≤ 16 → quick_wide_numbers (map crc32c blocks) ≡ 1 ∷ 0 ∷ 0 ∷ 0 ∷ []
  zeros-fit few many =
      wide_fits (map crc32c blocks) (ap quick_refusal many-guards ∙ sound_quick (length blocks) few many) (guards-due ∙ sym (ap wide_due many-guards))
    where
      many-guards : length (map crc32c blocks) ≡ length blocks
      many-guards = length-map blocks crc32c
