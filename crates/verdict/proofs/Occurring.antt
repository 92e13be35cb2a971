-- What is judged of a stripe is the numbers of some verdict. Assumes nothing.
use mathlib.Core.Path.{◌≡◌, refl}
use mathlib.Core.Bool.{Bool}
use mathlib.Core.List.{List}
use Prim.Native.Nat.{ℕ}
use Rattle.verdict.specs.declared.Verdict.{Verdict}
use Rattle.verdict.specs.declared.Verdict.TheVariants.{Clean, Bad, Torn, Unchecked}
use Rattle.verdict.specs.Verdicts.{judged, verdict_numbers}
use Rattle.verdict.proofs.Verdicts.{Judged, of_bad, of_unchecked, of_torn, of_clean, judged_case}

pub record SomeVerdict (numbers : List ℕ) : Type 0 where
  pub verdict : Verdict
  pub same : verdict_numbers verdict ≡ numbers

pub some-verdict : (members : List ℕ) (torn : List Bool) → SomeVerdict (judged members torn)
some-verdict members torn = by_case (judged_case members torn)
  where
    by_case : {l : List ℕ} → Judged members torn l → SomeVerdict l
    by_case (of_bad p) = record { verdict = Bad _ _ _; same = refl }
    by_case (of_unchecked p q) = record { verdict = Unchecked _ _; same = refl }
    by_case (of_torn p q r) = record { verdict = Torn _; same = refl }
    by_case (of_clean p q r) = record { verdict = Clean; same = refl }
