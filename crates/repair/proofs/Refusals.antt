-- The refusal of a header, as the code comes to it. Assumes nothing.
use mathlib.Core.Path.{◌≡◌, refl, ◌∙◌}
use mathlib.Core.Bool.{Bool, true, false, cond, ◌&&◌, ◌||◌}
use mathlib.Core.Logic.{◌≢◌}
use mathlib.Core.List.{List}
use Prim.Native.Nat.{ℕ}
use native.Mathlib.Omega.{arith}
use borrow.Author.Tests.{eq-eqb, ne_eqb}
use lib.Dec.{eqb}
use Rattle.layout.specs.declared.Array.{Array}
use Rattle.lines.specs.Headers.{array_in, header_refusal}
use Rattle.repair.specs.Repairs.{not_repaired, repair_refusal}

module _ (header : List ℕ) {told : ℕ} (is : told ≡ header_refusal header) where
  -- tested before the method
  pub refused_earlier : told ≢ 0 → told ≢ 13 → told ≡ repair_refusal header
  unfolding repair_refusal
  refused_earlier some other =
      rw (ne_eqb (header_refusal header) 0 (λ e. some (is ∙ e)), ne_eqb (header_refusal header) 13 (λ e. other (is ∙ e))) (by_test (not_repaired (array_in header)))
    where
      by_test : (f : Bool) → told ≡ cond (f && false) 12 (header_refusal header)
      by_test true = is
      by_test false = is

  module _ {a : Array} (there : a ≡ array_in header) where
    pub not-large : a.method ≢ 3 → told ≡ repair_refusal header
    unfolding repair_refusal
    not-large m = rw (← there, ne_eqb a.method 3 m) is

    pub large-accepted : a.method ≡ 3 → told ≡ 0 → 12 ≡ repair_refusal header
    unfolding repair_refusal
    large-accepted m e = rw (← there, eq-eqb a.method 3 m, ← is, e)

    pub large_row : a.method ≡ 3 → told ≡ 13 → 12 ≡ repair_refusal header
    unfolding repair_refusal
    large_row m e = rw (← there, eq-eqb a.method 3 m, ← is, e)

-- ---- an accepted header is one that a report accepts, of a method that is repaired

module _ (header : List ℕ) (done : repair_refusal header ≡ 0) where
  pub report_accepts : header_refusal header ≡ 0
  unfolding repair_refusal
  report_accepts = by_test (not_repaired (array_in header) && (eqb (header_refusal header) 0 || eqb (header_refusal header) 13)) done
    where
      by_test : (f : Bool) → cond f 12 (header_refusal header) ≡ 0 → header_refusal header ≡ 0
      by_test true e = absurd (omega arith)
      by_test false e = e

  pub is_repaired : not_repaired (array_in header) ≡ false
  unfolding repair_refusal
  is_repaired = by_test (not_repaired (array_in header)) (rw report_accepts at done)
    where
      by_test : (f : Bool) → ◌≡◌ {A = ℕ} (cond (f && true) 12 0) 0 → f ≡ false
      by_test false e = refl
      by_test true e = absurd (omega arith)
