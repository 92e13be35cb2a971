-- The numbers of an answer tell which answer it is, so a promise on the numbers names one result. Assumes nothing.
use mathlib.Core.Path.{◌≡◌, refl, sym, ap, ap₂, ◌∙◌}
use mathlib.Core.List.{List}
use Prim.Native.Nat.{ℕ}
use native.Mathlib.Omega.{arith}
use lib.ListN.{get_or, take, drop}
use Rattle.std.specs.Prelude.{Result, Ok, Err}
use Rattle.refusal.specs.Refusals.{number}
use Rattle.refusal.specs.declared.Refusal.{Refusal}
use Rattle.refusal.proofs.Passing.{number_injective}
use Rattle.verdict.specs.declared.Verdict.{Verdict}
use Rattle.verdict.specs.declared.Verdict.TheVariants.{Clean, Bad, Torn, Unchecked}
use Rattle.verdict.specs.Verdicts.{verdict_numbers}
use Rattle.verdict.proofs.Injective.{verdict_injective}
use Rattle.patrol.specs.declared.Seen.{Seen}
use Rattle.patrol.specs.declared.Seen.TheVariants.{Nothing, Stripe}
use Rattle.patrol.specs.Patrols.{seen_numbers}

-- the numbers of an answer that names a stripe, taken apart
pub record Apart (v : Verdict) (number : ℕ) : Type 0 where
  pub verdict : take 4 (drop 2 (seen_numbers (Ok (Stripe number v)))) ≡ verdict_numbers v
  pub looked : get_or (seen_numbers (Ok (Stripe number v))) 6 0 ≡ 1
  pub stripe : get_or (seen_numbers (Ok (Stripe number v))) 7 0 ≡ number

pub apart : (v : Verdict) (number : ℕ) → Apart v number
apart Clean number = record { verdict = refl; looked = refl; stripe = refl }
apart (Bad member count faults) number = record { verdict = refl; looked = refl; stripe = refl }
apart (Torn place) number = record { verdict = refl; looked = refl; stripe = refl }
apart (Unchecked member count) number = record { verdict = refl; looked = refl; stripe = refl }

not-nothing : (number : ℕ) (v : Verdict) → seen_numbers (Ok Nothing) ≡ seen_numbers (Ok (Stripe number v)) → ◌≡◌ {A = ℕ} 0 1
not-nothing number v e = ap (λ (l : List ℕ). get_or l 6 0) e ∙ (apart v number).looked

pub seen_injective : (x y : Result Seen Refusal) → seen_numbers x ≡ seen_numbers y → x ≡ y
seen_injective (Err n) (Err m) e = let same : number n ≡ number m = cc in ap (λ (r : Refusal). Err r) (number_injective n m same)
seen_injective (Err n) (Ok Nothing) e = cc
seen_injective (Err n) (Ok (Stripe m v)) e = cc
seen_injective (Ok Nothing) (Err m) e = cc
seen_injective (Ok Nothing) (Ok Nothing) e = refl
seen_injective (Ok Nothing) (Ok (Stripe m v)) e = let z = not-nothing m v e in absurd (omega arith)
seen_injective (Ok (Stripe n u)) (Err m) e = cc
seen_injective (Ok (Stripe n u)) (Ok Nothing) e = let z = not-nothing n u (sym e) in absurd (omega arith)
seen_injective (Ok (Stripe n u)) (Ok (Stripe m v)) e =
    let stripes = sym (apart u n).stripe ∙ ap (λ (l : List ℕ). get_or l 7 0) e ∙ (apart v m).stripe in
    let verdicts = verdict_injective u v (sym (apart u n).verdict ∙ ap (λ (l : List ℕ). take 4 (drop 2 l)) e ∙ (apart v m).verdict) in
    ap₂ (λ (k : ℕ) (w : Verdict). Ok (Stripe k w)) stripes verdicts
