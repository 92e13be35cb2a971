-- The checksum of a run that is asked for by itself, in numbers: done (1) or refused (0), the refusal number, the checksum. Assumes nothing.
use Rattle.std.specs.Prelude.{cond, Result, Ok, Err, List, [], ◌∷◌, ℕ, ◌%◌, eqb, length}
use Rattle.refusal.specs.declared.Refusal.{Refusal}
use Rattle.refusal.specs.Refusals.{number}
use Rattle.checksum.specs.Checksum.{checksum}

abbrev pub summed_numbers : Result ℕ Refusal → List ℕ
summed_numbers (Err refusal) = 0 ∷ number refusal ∷ 0 ∷ []
summed_numbers (Ok guard) = 1 ∷ 0 ∷ guard ∷ []

-- a run of odd length has a byte without a pair, and is refused by 6
unfoldable pub sum_numbers : List ℕ → List ℕ
sum_numbers bytes = cond (eqb (length bytes % 2) 0) (1 ∷ 0 ∷ checksum bytes ∷ []) (0 ∷ 6 ∷ 0 ∷ [])
