-- The quick scrub of guards of thirty-two bits, each the CRC-32C of 4,096 bytes. Assumes nothing.
use Rattle.std.specs.Prelude.{ℕ, ◌*◌, ◌%◌, List, length, replicate, Result}
use Rattle.castagnoli.specs.Castagnoli.{crc32c}
use Rattle.verdict.specs.Verdicts.{compared_with, compared_numbers}
use Rattle.verdict.specs.declared.Compared.{Compared}
use Rattle.refusal.specs.declared.Refusal.{Refusal}

-- what so many guards have to combine to: zero for an even number of them, the guard of a block of zeros for an odd one
unfoldable pub wide_due : ℕ → ℕ
wide_due guards = crc32c (replicate 4096 0) * (guards % 2)

unfoldable pub quick_wide_numbers : List ℕ → List ℕ
quick_wide_numbers guards = compared_with (wide_due (length guards)) guards

abbrev pub compared_wide_numbers : Result (Compared ℕ) Refusal → List ℕ
compared_wide_numbers answer = compared_numbers answer
