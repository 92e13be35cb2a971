-- What the check told before it told all fields: only the first field that is wrong. That field is the first of those now told that do not
-- fit, and what counts as good, bad or unchecked is what it was. Assumes nothing.
use mathlib.Core.Path.{◌≡◌, refl}
use mathlib.Core.Bool.{Bool, true, false, not, cond, ◌&&◌}
use mathlib.Core.List.{List, [], ◌∷◌}
use Prim.Native.Nat.{ℕ}
use lib.Dec.{eqb}
use lib.ListN.{get_or}
use Rattle.format.specs.Formats.{Format}
use Rattle.tag.specs.Tags.{faults, exempt, standing, kind_of, side_by_side}
use Rattle.tag.specs.declared.Fields.{Fields}

-- the definitions as they were
abbrev fits : Fields → Fields → Bool
fits f e = eqb f.guard e.guard && eqb f.application e.application && eqb f.reference e.reference

abbrev standing_before : Format → Fields → Fields → ℕ
standing_before F f e = cond (exempt F f) 2 (cond (fits f e) 0 1)

abbrev first_wrong : Fields → Fields → List ℕ
first_wrong f e =
    cond (not (eqb f.guard e.guard)) (1 ∷ f.guard ∷ e.guard ∷ [])
    (cond (not (eqb f.application e.application)) (2 ∷ f.application ∷ e.application ∷ [])
    (cond (not (eqb f.reference e.reference)) (3 ∷ f.reference ∷ e.reference ∷ [])
    (0 ∷ 0 ∷ 0 ∷ [])))

-- of nine numbers, found, due and whether they fit of each field, the first that does not fit, by its number and with both values
abbrev first_unfit : List ℕ → List ℕ
first_unfit l =
    cond (eqb (get_or l 2 0) 0) (1 ∷ get_or l 0 0 ∷ get_or l 1 0 ∷ [])
    (cond (eqb (get_or l 5 0) 0) (2 ∷ get_or l 3 0 ∷ get_or l 4 0 ∷ [])
    (cond (eqb (get_or l 8 0) 0) (3 ∷ get_or l 6 0 ∷ get_or l 7 0 ∷ [])
    (0 ∷ 0 ∷ 0 ∷ [])))

pub stands_as_before : (F : Format) (f e : Fields) → kind_of (standing F f e) ≡ standing_before F f e
unfolding standing faults
stands_as_before F f e = by_tests (exempt F f) (eqb f.guard e.guard) (eqb f.application e.application) (eqb f.reference e.reference) refl refl refl refl
  where
    by_tests : (x g a r : Bool) → exempt F f ≡ x → eqb f.guard e.guard ≡ g → eqb f.application e.application ≡ a → eqb f.reference e.reference ≡ r
        → kind_of (standing F f e) ≡ standing_before F f e
    by_tests true g a r p q s t = rw p
    by_tests false true true true p q s t = rw (p, q, s, t)
    by_tests false true true false p q s t = rw (p, q, s, t)
    by_tests false true false true p q s t = rw (p, q, s, t)
    by_tests false true false false p q s t = rw (p, q, s, t)
    by_tests false false true true p q s t = rw (p, q, s, t)
    by_tests false false true false p q s t = rw (p, q, s, t)
    by_tests false false false true p q s t = rw (p, q, s, t)
    by_tests false false false false p q s t = rw (p, q, s, t)

pub first_as_before : (f e : Fields) → first_unfit (side_by_side f e) ≡ first_wrong f e
first_as_before f e = by_tests (eqb f.guard e.guard) (eqb f.application e.application) (eqb f.reference e.reference) refl refl refl
  where
    by_tests : (g a r : Bool) → eqb f.guard e.guard ≡ g → eqb f.application e.application ≡ a → eqb f.reference e.reference ≡ r
        → first_unfit (side_by_side f e) ≡ first_wrong f e
    by_tests false a r q s t = rw q
    by_tests true false r q s t = rw (q, s)
    by_tests true true false q s t = rw (q, s, t)
    by_tests true true true q s t = rw (q, s, t)
