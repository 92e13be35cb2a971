-- The verdict of a scrub from how its members stand and which places are not zero, and the quick scrub of guards; each answer in
-- numbers. Assumes nothing.
use Rattle.std.specs.Prelude.{ℕ, suc, Bool, true, false, not, cond, List, [], ◌∷◌, map, eqb, ltb, length, get_or, Result, Ok, Err}
use Rattle.std.specs.Int.Bits.{bit_xor}
use Rattle.refusal.specs.Refusals.{number}
use Rattle.refusal.specs.declared.Refusal.{Refusal}
use Rattle.layout.specs.Answers.{refuse, answer}
use Rattle.layout.specs.Arrays.{within}
use Rattle.verdict.specs.declared.Verdict.{Verdict}
use Rattle.verdict.specs.declared.Verdict.TheVariants.{Clean, Bad, Torn, Unchecked}
use Rattle.verdict.specs.declared.Compared.{Compared}
use Rattle.verdict.specs.declared.Compared.TheVariants.{Fits, Differs}

-- how many flags hold, and the place of the first that does
abbrev pub count : List Bool → ℕ
count [] = 0
count (true ∷ flags) = suc (count flags)
count (false ∷ flags) = count flags

abbrev pub lowest : List Bool → ℕ
lowest [] = 0
lowest (true ∷ flags) = 0
lowest (false ∷ flags) = suc (lowest flags)

-- which bytes are not zero
unfoldable pub nonzero : List ℕ → List Bool
nonzero bytes = map (λ x. not (eqb x 0)) bytes

-- ---- a verdict, in numbers: its kind, a member or a place, a count, and which fields of that member are not those due

abbrev pub says_clean : List ℕ
says_clean = 0 ∷ 0 ∷ 0 ∷ 0 ∷ []

abbrev pub says_bad : ℕ → ℕ → ℕ → List ℕ
says_bad member n faults = 1 ∷ member ∷ n ∷ faults ∷ []

abbrev pub says_torn : ℕ → List ℕ
says_torn place = 2 ∷ place ∷ 0 ∷ 0 ∷ []

abbrev pub says_unchecked : ℕ → ℕ → List ℕ
says_unchecked member n = 3 ∷ member ∷ n ∷ 0 ∷ []

-- members stand as 0 good, from 1 to 7 bad, by the fields that are not those due, or 8 unchecked: which of them stand within a range
unfoldable pub standing_in : ℕ → ℕ → List ℕ → List Bool
standing_in least most members = map (within least most) members

abbrev pub bads : List ℕ → List Bool
bads members = standing_in 1 7 members

abbrev pub uncheckeds : List ℕ → List Bool
uncheckeds members = standing_in 8 8 members

-- bad, with the lowest bad member, their count and its faults; else unchecked, with the lowest unchecked member and their count; else torn
-- at this place, if torn; else clean
unfoldable pub judged_at : List ℕ → Bool → ℕ → List ℕ
judged_at members torn place =
    cond (ltb 0 (count (bads members))) (says_bad (lowest (bads members)) (count (bads members)) (get_or members (lowest (bads members)) 0))
    (cond (ltb 0 (count (uncheckeds members))) (says_unchecked (lowest (uncheckeds members)) (count (uncheckeds members)))
    (cond torn (says_torn place) says_clean))

-- the same by which places are torn: at the lowest, if any is
unfoldable pub judged : List ℕ → List Bool → List ℕ
judged members torn = judged_at members (ltb 0 (count torn)) (lowest torn)

abbrev pub verdict_numbers : Verdict → List ℕ
verdict_numbers Clean = says_clean
verdict_numbers (Bad member n faults) = says_bad member n faults
verdict_numbers (Torn place) = says_torn place
verdict_numbers (Unchecked member n) = says_unchecked member n

-- of a scrub: refused, or done and its verdict
abbrev pub scrubbed_numbers : Result Verdict Refusal → List ℕ
scrubbed_numbers (Err refusal) = 0 ∷ number refusal ∷ 0 ∷ 0 ∷ 0 ∷ 0 ∷ []
scrubbed_numbers (Ok v) = 1 ∷ 0 ∷ verdict_numbers v

-- ---- the quick scrub: the stored guards alone. In numbers: 0 and 0 where they combine to what is due (fits), else 1 and what they do
-- combine to (differs)

abbrev pub combined_guards : List ℕ → ℕ
combined_guards [] = 0
combined_guards (g ∷ guards) = bit_xor g (combined_guards guards)

unfoldable pub quick_refusal : ℕ → ℕ
quick_refusal guards = refuse (not (within 3 16 guards)) 1 0

unfoldable pub compared_with : ℕ → List ℕ → List ℕ
compared_with due guards = answer (quick_refusal (length guards)) (cond (eqb (combined_guards guards) due) (0 ∷ 0 ∷ []) (1 ∷ combined_guards guards ∷ []))

-- guards of sixteen bits have to combine to zero
unfoldable pub quick_numbers : List ℕ → List ℕ
quick_numbers guards = compared_with 0 guards

abbrev pub compared_numbers : Result (Compared ℕ) Refusal → List ℕ
compared_numbers (Err refusal) = 0 ∷ number refusal ∷ 0 ∷ 0 ∷ []
compared_numbers (Ok Fits) = 1 ∷ 0 ∷ 0 ∷ 0 ∷ []
compared_numbers (Ok (Differs combination)) = 1 ∷ 0 ∷ 1 ∷ combination ∷ []
