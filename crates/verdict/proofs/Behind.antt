-- Bytes and one number behind them: where the first is that is not zero. Assumes nothing.
use mathlib.Core.Path.{◌≡◌, refl, sym, ap, ap₂, ◌∙◌}
use mathlib.Core.Bool.{Bool, true, false, not, ◌||◌}
use mathlib.Core.List.{List, [], ◌∷◌, ◌++◌, map-append}
use mathlib.Core.Logic.{◌≢◌, ◌↔◌}
use Prim.Native.Nat.{ℕ, zero, suc, ◌+◌, ◌≤◌, ◌<◌}
use native.Mathlib.Nat.{le_of_suc-le-suc, not-suc-le-zero}
use native.Mathlib.Omega.{arith}
use borrow.Author.Tests.{eq-eqb, ne_eqb, eqb-true, eqb-false, lt-ltb, ltb-true, ltb-false}
use lib.Dec.{eqb, ltb}
use lib.ListN.{length, get_or, replicate, length-append, length-replicate, get_or-replicate, get_or-append}
use lib.Seq.{ext_get_or, get_or_at}
use Rattle.verdict.specs.Verdicts.{count, lowest, nonzero, judged_at, judged}
use Rattle.verdict.specs.Flags.{FirstNonzero}
use Rattle.verdict.proofs.Flags.{count-append, lowest-inside, lowest-past}
use Rattle.verdict.proofs.Verdicts.{length-nonzero, no_place}

-- ---- flags and others behind them

lowest_of : (flags more : List Bool) → lowest flags < length flags → lowest (flags ++ more) ≡ lowest flags
lowest_of [] more h = absurd (not-suc-le-zero h)
lowest_of (true ∷ flags) more h = refl
lowest_of (false ∷ flags) more h = ap suc (lowest_of flags more (le_of_suc-le-suc h))

lowest-behind : (flags more : List Bool) → length flags ≤ lowest flags → lowest (flags ++ more) ≡ length flags + lowest more
lowest-behind [] more h = omega arith
lowest-behind (true ∷ flags) more h = absurd (not-suc-le-zero h)
lowest-behind (false ∷ flags) more h = ap suc (lowest-behind flags more (le_of_suc-le-suc h)) ∙ omega arith

past_end : (flags : List Bool) → length flags ≤ lowest flags → lowest flags ≡ length flags
past_end [] h = refl
past_end (true ∷ flags) h = absurd (not-suc-le-zero h)
past_end (false ∷ flags) h = ap suc (past_end flags (le_of_suc-le-suc h))

-- ---- bytes and a number

module _ (bytes : List ℕ) (left : ℕ) where
  abbrev pub all : List ℕ
  all = bytes ++ (left ∷ [])

  both : (f : Bool) → not (eqb left 0) ≡ f → nonzero all ≡ nonzero bytes ++ (f ∷ [])
  unfolding nonzero
  both f e = map-append (λ (x : ℕ). not (eqb x 0)) bytes (left ∷ []) ∙ rw e

  -- the first of all is among the bytes, or the number behind them, or there is none
  pub torn-inside : lowest (nonzero bytes) < length bytes → (0 < count (nonzero all)) × (lowest (nonzero bytes) ≡ lowest (nonzero all))
  torn-inside h =
      let flags = nonzero bytes in
      let last = not (eqb left 0) ∷ [] in
      let here : lowest flags < length flags = omega (arith, length-nonzero bytes) in
      let joined = both (not (eqb left 0)) refl in (
        rw joined (omega (arith, count-append flags last, lowest-inside flags here)),
        sym (ap lowest joined ∙ lowest_of flags last here),
      )

  pub torn-behind : length bytes ≤ lowest (nonzero bytes) → left ≢ 0 → (0 < count (nonzero all)) × (lowest (nonzero bytes) ≡ lowest (nonzero all))
  torn-behind h some =
      let flags = nonzero bytes in
      let past : length flags ≤ lowest flags = omega (arith, length-nonzero bytes) in
      let joined = both true (ap not (ne_eqb left 0 some)) in (
        rw joined (omega (arith, count-append flags (true ∷ []))),
        past_end flags past ∙ sym (ap lowest joined ∙ lowest-behind flags (true ∷ []) past ∙ omega arith),
      )

  pub torn_nowhere : length bytes ≤ lowest (nonzero bytes) → left ≡ 0 → count (nonzero all) ≡ 0
  torn_nowhere h none =
      let flags = nonzero bytes in
      ap count (both false (ap not (eq-eqb left 0 none))) ∙ count-append flags (false ∷ []) ∙ omega (arith, lowest-past flags (omega (arith, length-nonzero bytes)))

  -- the verdict from the first place among the bytes
  pub judged-told : (members : List ℕ) (place : ℕ) → place ≡ lowest (nonzero bytes)
      → judged_at members (ltb place (length bytes) || not (eqb left 0)) place ≡ judged members (nonzero all)
  unfolding judged
  judged-told members place e = by_tests (ltb place (length bytes)) (eqb left 0) refl refl
    where
      torn : (0 < count (nonzero all)) × (lowest (nonzero bytes) ≡ lowest (nonzero all)) → judged_at members true place ≡ judged_at members (ltb 0 (count (nonzero all))) (lowest (nonzero all))
      torn h = ap₂ (judged_at members) (sym (lt-ltb 0 (count (nonzero all)) h.0)) (e ∙ h.1)

      by_tests : (f g : Bool) → ltb place (length bytes) ≡ f → eqb left 0 ≡ g
          → judged_at members (f || not g) place ≡ judged_at members (ltb 0 (count (nonzero all))) (lowest (nonzero all))
      by_tests true g p q = torn (torn-inside (omega (arith, e, ltb-true place (length bytes) p)))
      by_tests false false p q = torn (torn-behind (omega (arith, e, ltb-false place (length bytes) p)) (eqb-false left 0 q))
      by_tests false true p q =
          let none : count (nonzero all) ≡ 0 = torn_nowhere (omega (arith, e, ltb-false place (length bytes) p)) (eqb-true left 0 q) in
          no_place members place (lowest (nonzero all)) ∙ ap (λ (k : ℕ). judged_at members (ltb 0 k) (lowest (nonzero all))) (sym none)

-- ---- bytes in two parts

module _ (front back : List ℕ) where
  parts : nonzero (front ++ back) ≡ nonzero front ++ nonzero back
  unfolding nonzero
  parts = map-append (λ (x : ℕ). not (eqb x 0)) front back

  pub first_in_front : lowest (nonzero front) < length front → lowest (nonzero (front ++ back)) ≡ lowest (nonzero front)
  first_in_front h = ap lowest parts ∙ lowest_of (nonzero front) (nonzero back) (omega (arith, length-nonzero front))

  pub first_in_back : length front ≤ lowest (nonzero front) → lowest (nonzero (front ++ back)) ≡ length front + lowest (nonzero back)
  first_in_back h =
      ap lowest parts ∙ lowest-behind (nonzero front) (nonzero back) (omega (arith, length-nonzero front)) ∙ ap (λ (k : ℕ). k + lowest (nonzero back)) (length-nonzero front)

-- ---- zeros, and a zero behind them

pub zeros-behind : (size left : ℕ) (bytes : List ℕ) → (bytes ++ (left ∷ []) ≡ replicate (suc size) 0) ↔ ((bytes ≡ replicate size 0) × (left ≡ 0))
zeros-behind size left bytes = (apart size bytes, λ h. ap (λ (l : List ℕ). l ++ (left ∷ [])) h.0 ∙ ap (λ (x : ℕ). replicate size 0 ++ (x ∷ [])) h.1 ∙ more size)
  where
    more : (n : ℕ) → replicate {A = ℕ} n 0 ++ (0 ∷ []) ≡ replicate (suc n) 0
    more zero = refl
    more (suc n) = ap (λ (l : List ℕ). 0 ∷ l) (more n)

    apart : (n : ℕ) (l : List ℕ) → l ++ (left ∷ []) ≡ replicate (suc n) 0 → (l ≡ replicate n 0) × (left ≡ 0)
    apart zero [] e = (refl, (cc))
    apart zero (x ∷ []) e = let o : ◌≡◌ {A = ℕ} 2 1 = ap length e in absurd (omega arith)
    apart zero (x ∷ y ∷ l) e = let o = ap length e in absurd (omega arith)
    apart (suc n) [] e = let o = ap length e in absurd (omega arith)
    apart (suc n) (x ∷ l) e =
        let r = apart n l (ap tail e) in
        let h : x ≡ 0 = ap (λ (k : List ℕ). get_or k 0 0) e in
        (ap (λ (k : List ℕ). x ∷ k) r.0 ∙ ap (λ (y : ℕ). y ∷ replicate n 0) h, r.1)
      where
        tail : List ℕ → List ℕ
        tail [] = []
        tail (x ∷ l) = l

-- the first that is not zero is the number behind them
pub first-behind : (bytes : List ℕ) (left size : ℕ) → length bytes ≡ size → FirstNonzero (bytes ++ (left ∷ [])) size ↔ ((bytes ≡ replicate size 0) × (left ≢ 0))
first-behind bytes left size long = (
  λ h. (
    ext_get_or 0 bytes (replicate size 0) (long ∙ sym (length-replicate {A = ℕ} size 0))
        (λ i l. sym (get_or-append bytes (left ∷ []) 0 i l) ∙ h.zero-below i (omega arith) ∙ sym (get_or-replicate size i 0 0 (omega arith))),
    λ e. h.not-zero (get_or_at bytes left [] 0 size long ∙ e),
  ),
  λ h.
      record {
        inside = omega (arith, length-append bytes (left ∷ []));
        not-zero = λ e. h.1 (sym (get_or_at bytes left [] 0 size long) ∙ e);
        zero-below = λ k l. get_or-append bytes (left ∷ []) 0 k (omega arith) ∙ ap (λ (x : List ℕ). get_or x k 0) h.0 ∙ get_or-replicate size k 0 0 l;
      },
)

-- or it is among the bytes
pub first-inside : (bytes : List ℕ) (left place : ℕ) → FirstNonzero bytes place → FirstNonzero (bytes ++ (left ∷ [])) place
first-inside bytes left place h =
    record {
      inside = omega (arith, h.inside, length-append bytes (left ∷ []));
      not-zero = λ e. h.not-zero (sym (get_or-append bytes (left ∷ []) 0 place h.inside) ∙ e);
      zero-below = λ k l. get_or-append bytes (left ∷ []) 0 k (omega (arith, h.inside)) ∙ h.zero-below k l;
    }
