-- One more verdict: its own count goes up by one and no other; so no count goes up by more than one. Assumes nothing.
use mathlib.Core.Path.{◌≡◌, refl}
use mathlib.Core.Bool.{Bool, true, false, cond}
use mathlib.Core.List.{List}
use Prim.Native.Nat.{ℕ, ◌+◌}
use native.Mathlib.Omega.{arith}
use lib.Dec.{eqb}
use lib.ListN.{get_or}
use Rattle.verdict.specs.declared.Verdict.TheVariants.{Clean, Bad, Torn, Unchecked}
use Rattle.verdict.specs.Verdicts.{verdict_numbers}
use Rattle.lines.specs.declared.tally.Tally.{Tally}
use Rattle.report.specs.Reports.{none, counted}
use Rattle.report.proofs.Stages.{Counted}

-- the code's default
pub none-is : {t : Tally} → (t.clean ≡ 0) × ((t.bad ≡ 0) × ((t.unchecked ≡ 0) × (t.torn ≡ 0))) → t ≡ none
none-is {t} h = zeros t.clean t.bad t.unchecked t.torn h.0 h.1.0 h.1.1.0 h.1.1.1
  where
    zeros : (a b c d : ℕ) → a ≡ 0 → b ≡ 0 → c ≡ 0 → d ≡ 0 → record { clean = a; bad = b; unchecked = c; torn = d } ≡ none
    zeros a b c d e f g h = rw (e, f, g, h)

-- each kind of verdict by itself
module _ (t : Tally) where
  pub clean-counted : counted t (verdict_numbers Clean) ≡ record { clean = t.clean + 1; bad = t.bad; unchecked = t.unchecked; torn = t.torn }
  unfolding counted
  clean-counted = refl

  pub bad-counted : (member count faults : ℕ) → counted t (verdict_numbers (Bad member count faults)) ≡ record { clean = t.clean; bad = t.bad + 1; unchecked = t.unchecked; torn = t.torn }
  unfolding counted
  bad-counted member count faults = refl

  pub unchecked-counted : (member count : ℕ) → counted t (verdict_numbers (Unchecked member count)) ≡ record { clean = t.clean; bad = t.bad; unchecked = t.unchecked + 1; torn = t.torn }
  unfolding counted
  unchecked-counted member count = refl

  pub torn-counted : (place : ℕ) → counted t (verdict_numbers (Torn place)) ≡ record { clean = t.clean; bad = t.bad; unchecked = t.unchecked; torn = t.torn + 1 }
  unfolding counted
  torn-counted place = refl

pub one-more-counted : (stripe : ℕ) (t : Tally) (verdict : List ℕ) → Counted stripe t → Counted (stripe + 1) (counted t verdict)
unfolding counted
one-more-counted stripe t verdict q = go (eqb (get_or verdict 0 0) 0) (eqb (get_or verdict 0 0) 1) (eqb (get_or verdict 0 0) 3)
  where
    go : (clean bad unchecked : Bool)
        → Counted (stripe + 1)
        (cond clean (record { clean = t.clean + 1; bad = t.bad; unchecked = t.unchecked; torn = t.torn })
        (cond bad (record { clean = t.clean; bad = t.bad + 1; unchecked = t.unchecked; torn = t.torn })
        (cond unchecked (record { clean = t.clean; bad = t.bad; unchecked = t.unchecked + 1; torn = t.torn }) (record { clean = t.clean; bad = t.bad; unchecked = t.unchecked; torn = t.torn + 1 }))))
    go true bad unchecked = record { clean = omega (arith, q.clean); bad = omega (arith, q.bad); unchecked = omega (arith, q.unchecked); torn = omega (arith, q.torn) }
    go false true unchecked = record { clean = omega (arith, q.clean); bad = omega (arith, q.bad); unchecked = omega (arith, q.unchecked); torn = omega (arith, q.torn) }
    go false false true = record { clean = omega (arith, q.clean); bad = omega (arith, q.bad); unchecked = omega (arith, q.unchecked); torn = omega (arith, q.torn) }
    go false false false = record { clean = omega (arith, q.clean); bad = omega (arith, q.bad); unchecked = omega (arith, q.unchecked); torn = omega (arith, q.torn) }
