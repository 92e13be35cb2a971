-- The entries of a log, tested one by one and read one after the other. Assumes nothing.
use mathlib.Core.Path.{◌≡◌, refl, sym, ap, ◌∙◌, subst}
use mathlib.Core.Logic.{◌≢◌}
use mathlib.Core.Bool.{Bool, true, false, cond, ◌&&◌}
use mathlib.Core.List.{List, [], ◌∷◌, map}
use Prim.Native.Nat.{ℕ, zero, suc, ◌+◌, ◌≤◌, ◌<◌}
use native.Mathlib.Nat.{le_of_suc-le-suc, not-suc-le-zero}
use native.Mathlib.Omega.{arith}
use borrow.Author.Tests.{eq-eqb, ne_eqb, le-leb, lt-leb}
use denote.Param.Members.{Mut}
use lib.Dec.{eqb}
use lib.ListN.{length, drop, take, get_or}
use lib.Seq.{ext_get_or}
use Rattle.std.proofs.Common.{add-zero, zero-add}
use Rattle.std.specs.Array.{IsFromFnResultFrom, IsFromFnResult}
use Rattle.std.specs.Fn.{Called}
use Rattle.std.specs.Int.{from_be_bytes, w64}
use Rattle.std.specs.List.{list_all}
use Rattle.stripe.specs.Tables.{table, all}
use Rattle.stripe.proofs.Tables.{length-table, get_or-table}
use Rattle.tag.specs.Numbers.{number_of}
use Rattle.tag.proofs.Numbers.{take_elements}
use Rattle.verdict.proofs.Flags.{count-cons}
use Rattle.intent.specs.Records.{those, many, entry_fits}

-- ---- tested

module _ (stripes : ℕ) (es : List ℕ) (e : ℕ) where
  pub fits_free : e ≡ 0 → true ≡ entry_fits stripes es e
  fits_free z = rw (eq-eqb e 0 z)

  pub fits-past : e ≢ 0 → stripes < e → false ≡ entry_fits stripes es e
  fits-past ne h = rw (ne_eqb e 0 ne, lt-leb e stripes h)

  pub fits-once : e ≢ 0 → e ≤ stripes → eqb (many e es) 1 ≡ entry_fits stripes es e
  fits-once ne h = rw (ne_eqb e 0 ne, le-leb e stripes h)

-- std's word for it
pub all-map : (p : ℕ → Bool) (es : List ℕ) → all (map p es) ≡ list_all p es
all-map p [] = refl
all-map p (e ∷ es) = ap (λ (t : Bool). p e && t) (all-map p es)

-- ---- counted, one after the other

pub counted : (es : List ℕ) (x i : ℕ) → i < length es → many x (take (i + 1) es) ≡ many x (take i es) + cond (eqb (get_or es i 0) x) 1 0
counted [] x i h = absurd (not-suc-le-zero h)
counted (e ∷ es) x zero h = count-cons (eqb e x) [] ∙ omega arith
counted (e ∷ es) x (suc i) h =
    let flag : ℕ = cond (eqb e x) 1 0 in
    let next : suc i + 1 ≡ suc (i + 1) = omega arith in
    let more : many x (e ∷ take (i + 1) es) ≡ flag + many x (take (i + 1) es) = count-cons (eqb e x) (those x (take (i + 1) es)) in
    let one : many x (e ∷ take i es) ≡ flag + many x (take i es) = count-cons (eqb e x) (those x (take i es)) in
    let rest = counted es x i (le_of_suc-le-suc h) in
    rw next (omega (arith, more, one, rest))

-- ---- read, one after the other

-- eight bytes as a number
pub eight_there : (at : ℕ) (l : List ℕ) → at + 8 ≤ length l
    → from_be_bytes w64
    (get_or l at 0 ∷ get_or l (at + 1) 0 ∷ get_or l (at + 2) 0 ∷ get_or l (at + 3) 0 ∷ get_or l (at + 4) 0 ∷ get_or l (at + 5) 0 ∷ get_or l (at + 6) 0 ∷ get_or l (at + 7) 0 ∷ [])
    ≡ number_of (take 8 (drop at l))
unfolding number_of
eight_there at l h =
    let front : drop (at + 0) l ≡ drop at l = ap (λ (i : ℕ). drop i l) (add-zero at) in
    rw (← front, take_elements l at 0 8 (omega arith), add-zero at) (omega arith)

-- an array that is made of what a function gives at each number
module _ {F : Type 0} (g : Mut F (ℕ × Unit {0}) ℕ) (f : F) (h : ℕ → ℕ) (gives : (i b : ℕ) (q : F) → Called g f (i, tt) b q → (b ≡ h i) × (q ≡ f)) where
  made-at : (ys : List ℕ) (i n : ℕ) → IsFromFnResultFrom g f ys i n → (k : ℕ) → k < n → get_or ys (i + k) 0 ≡ h (i + k)
  made-at ys i zero m k l = absurd (not-suc-le-zero l)
  made-at ys i (suc n) m zero l = subst (λ (j : ℕ). get_or ys j 0 ≡ h j) (sym (add-zero i)) (m.2.1 0 ∙ (gives i m.1 m.0 m.3).0)
  made-at ys i (suc n) m (suc k) l =
      let rest = subst (λ (p : F). IsFromFnResultFrom g p ys (i + 1) n) (gives i m.1 m.0 m.3).1 m.4 in
      let same : i + 1 + k ≡ i + suc k = omega arith in
      subst (λ (j : ℕ). get_or ys j 0 ≡ h j) same (made-at ys (i + 1) n rest k (le_of_suc-le-suc l))

  pub made-table : (ys : List ℕ) (n : ℕ) → IsFromFnResult g f ys n → ys ≡ table n h
  made-table ys n m =
      ext_get_or 0 ys (table n h) (m.long ∙ sym (length-table n h))
      (λ i l.
      let here : i < n = omega (arith, m.long) in
      subst (λ (j : ℕ). get_or ys j 0 ≡ h j) (zero-add i) (made-at ys 0 n m.each i here) ∙ sym (get_or-table n h 0 i here))
