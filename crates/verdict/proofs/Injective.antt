-- The numbers of an answer tell which answer it is, so a promise on the numbers names one result. Assumes nothing.
use Rattle.std.proofs.Common.{◌≡◌, ℕ, Result, Ok, Err, refl, ap}
use Rattle.refusal.specs.Refusals.{number}
use Rattle.refusal.specs.declared.Refusal.{Refusal}
use Rattle.verdict.specs.Verdicts.{verdict_numbers, scrubbed_numbers, compared_numbers}
use Rattle.verdict.specs.QuickWide.{compared_wide_numbers}
use Rattle.verdict.specs.declared.Verdict.{Verdict}
use Rattle.verdict.specs.declared.Verdict.TheVariants.{Clean, Bad, Torn, Unchecked}
use Rattle.verdict.specs.declared.Compared.{Compared}
use Rattle.verdict.specs.declared.Compared.TheVariants.{Fits, Differs}
use Rattle.refusal.proofs.Passing.{number_injective}

pub verdict_injective : (x y : Verdict) → verdict_numbers x ≡ verdict_numbers y → x ≡ y
verdict_injective Clean Clean e = cc
verdict_injective Clean (Bad n l g) e = cc
verdict_injective Clean (Torn q) e = cc
verdict_injective Clean (Unchecked n l) e = cc
verdict_injective (Bad m k f) Clean e = cc
verdict_injective (Bad m k f) (Bad n l g) e = cc
verdict_injective (Bad m k f) (Torn q) e = cc
verdict_injective (Bad m k f) (Unchecked n l) e = cc
verdict_injective (Torn p) Clean e = cc
verdict_injective (Torn p) (Bad n l g) e = cc
verdict_injective (Torn p) (Torn q) e = cc
verdict_injective (Torn p) (Unchecked n l) e = cc
verdict_injective (Unchecked m k) Clean e = cc
verdict_injective (Unchecked m k) (Bad n l g) e = cc
verdict_injective (Unchecked m k) (Torn q) e = cc
verdict_injective (Unchecked m k) (Unchecked n l) e = cc

pub scrubbed_injective : (x y : Result Verdict Refusal) → scrubbed_numbers x ≡ scrubbed_numbers y → x ≡ y
scrubbed_injective (Err n) (Err m) e = let same : number n ≡ number m = cc in ap (λ (r : Refusal). Err r) (number_injective n m same)
scrubbed_injective (Err n) (Ok v) e = cc
scrubbed_injective (Ok v) (Err n) e = cc
scrubbed_injective (Ok v) (Ok u) e = let same : verdict_numbers v ≡ verdict_numbers u = cc in ap (λ (w : Verdict). Ok w) (verdict_injective v u same)

pub compared_injective : (x y : Result (Compared ℕ) Refusal) → compared_numbers x ≡ compared_numbers y → x ≡ y
compared_injective (Err n) (Err m) e = let same : number n ≡ number m = cc in ap (λ (r : Refusal). Err r) (number_injective n m same)
compared_injective (Err n) (Ok Fits) e = cc
compared_injective (Err n) (Ok (Differs c)) e = cc
compared_injective (Ok Fits) (Err n) e = cc
compared_injective (Ok Fits) (Ok Fits) e = refl
compared_injective (Ok Fits) (Ok (Differs c)) e = cc
compared_injective (Ok (Differs c)) (Err n) e = cc
compared_injective (Ok (Differs c)) (Ok Fits) e = cc
compared_injective (Ok (Differs c)) (Ok (Differs d)) e = cc

pub compared_wide_injective : (x y : Result (Compared ℕ) Refusal) → compared_wide_numbers x ≡ compared_wide_numbers y → x ≡ y
compared_wide_injective x y e = compared_injective x y e
