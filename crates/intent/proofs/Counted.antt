-- The log by how many entries are which number: a write is one entry more of the new and one less of the old, and what fits goes on to fit.
-- Assumes nothing.
use mathlib.Core.Path.{◌≡◌, refl, sym, ap, ap₂, ◌∙◌, subst}
use mathlib.Core.Logic.{◌≢◌}
use mathlib.Core.Bool.{Bool, true, false, cond, ◌&&◌}
use mathlib.Core.List.{List, [], ◌∷◌, map}
use Prim.Native.Nat.{ℕ, ◌+◌, ◌*◌, ◌^◌, ◌≤◌, ◌<◌}
use native.Mathlib.Nat.{not-suc-le-zero, mod-eq_of_lt}
use native.Mathlib.Decide.{ℕ_discrete, dec_lt}
use native.Mathlib.Omega.{arith}
use borrow.Author.Tests.{eqb-true, eq-eqb, ne_eqb, leb-true, le-leb}
use lib.Dec.{eqb, leb}
use lib.ListN.{length, get_or, set, length-set, length-map}
use lib.Seq.{sets, length-sets, ext_get_or, get_or-set_same, get_or-set_other}
use Rattle.layout.proofs.Ranges.{both}
use Rattle.tag.specs.Numbers.{bytes_of, number_of}
use Rattle.tag.proofs.Numbers.{length-bytes_of, number_of_bytes}
use Rattle.verdict.specs.Verdicts.{lowest}
use Rattle.verdict.proofs.Flags.{count-cons, lowest-first}
use Rattle.stripe.specs.Tables.{table, all, part}
use Rattle.stripe.proofs.Tables.{length-table, get_or-table}
use Rattle.stripe.proofs.Blocks.{span-sets-same, span-sets-below, span-sets_above}
use Rattle.intent.specs.Records.{entries, those, many, written, entry_fits, entries_fit}

-- ---- numbers in a list

abbrev pub one : ℕ → ℕ → ℕ
one e x = cond (eqb x e) 1 0

pub many-cons : (e x : ℕ) (es : List ℕ) → many e (x ∷ es) ≡ one e x + many e es
many-cons e x es = count-cons (eqb x e) (those e es)

-- the first x made y
pub many-set : (es : List ℕ) (x y e : ℕ) → 0 < many x es → many e (set es (lowest (those x es)) y) + one e x ≡ many e es + one e y
many-set [] x y e h = absurd (not-suc-le-zero h)
many-set (z ∷ es) x y e h = by_flag (many-set es x y e) (eqb z x) refl
  where
    by_flag : (0 < many x es → many e (set es (lowest (those x es)) y) + one e x ≡ many e es + one e y) → (f : Bool) → eqb z x ≡ f
        → many e (set (z ∷ es) (lowest (those x (z ∷ es))) y) + one e x ≡ many e (z ∷ es) + one e y
    by_flag later true q =
        let same : one e z ≡ one e x = ap (one e) (eqb-true z x q) in
        rw q (omega (arith, many-cons e y es, many-cons e z es))
    by_flag later false q =
        let less : many x (z ∷ es) ≡ many x es = rw q in
        let rest = later (omega arith) in
        rw q (omega (arith, many-cons e z (set es (lowest (those x es)) y), many-cons e z es))

pub one_same : (e : ℕ) → one e e ≡ 1
one_same e = rw (eq-eqb e e refl)

pub one_other : (e x : ℕ) → e ≢ x → one e x ≡ 0
one_other e x ne = rw (ne_eqb x e (λ q. ne (sym q)))

-- a test of every entry is one of every number that occurs
all-many : (p : ℕ → Bool) (es : List ℕ) → all (map p es) ≡ true → (e : ℕ) → 0 < many e es → p e ≡ true
all-many p [] ok e h = absurd (not-suc-le-zero h)
all-many p (z ∷ es) ok e h = by_flag (all-many p es (both (p z) (all (map p es)) ok).1 e) (eqb z e) refl
  where
    by_flag : (0 < many e es → p e ≡ true) → (f : Bool) → eqb z e ≡ f → p e ≡ true
    by_flag later true q = ap p (sym (eqb-true z e q)) ∙ (both (p z) (all (map p es)) ok).0
    by_flag later false q =
        let less : many e (z ∷ es) ≡ many e es = rw q in
        later (omega arith)

many-all : (p : ℕ → Bool) (es : List ℕ) → ((e : ℕ) → 0 < many e es → p e ≡ true) → all (map p es) ≡ true
many-all p [] h = refl
many-all p (z ∷ es) h =
    ap₂ (λ (x y : Bool). x && y) (h z (omega (arith, many-cons z z es, one_same z))) (many-all p es (λ e l. h e (omega (arith, many-cons e z es))))

-- ---- entries that fit: no stripe is named twice, and none that the array has not

pub record Fit (stripes : ℕ) (es : List ℕ) : Type 0 where
  pub once : (e : ℕ) → e ≢ 0 → many e es ≤ 1
  pub known : (e : ℕ) → stripes < e → many e es ≡ 0

pub fit-set : (stripes : ℕ) (es : List ℕ) (x y : ℕ) → Fit stripes es → 0 < many x es → y ≤ stripes → (y ≢ 0 → many y es ≡ 0) → Fit stripes (set es (lowest (those x es)) y)
fit-set stripes es x y fit some small new =
    record { once = λ e ne. at e ne (ℕ_discrete e y); known = λ e l. omega (arith, many-set es x y e some, fit.known e l, one_other e y (omega arith)) }
  where
    at : (e : ℕ) → e ≢ 0 → Dec (e ≡ y) → many e (set es (lowest (those x es)) y) ≤ 1
    at e ne (yes q) =
        let none : many e es ≡ 0 = ap (λ (k : ℕ). many k es) q ∙ new (λ z. ne (q ∙ z)) in
        let here : one e y ≡ 1 = ap (one e) (sym q) ∙ one_same e in
        omega (arith, many-set es x y e some)
    at e ne (no q) = omega (arith, many-set es x y e some, fit.once e ne, one_other e y q)

-- as the test says
module _ (stripes : ℕ) (es : List ℕ) where
  named-once : (e : ℕ) → e ≢ 0 → entry_fits stripes es e ≡ true → (e ≤ stripes) × (many e es ≡ 1)
  named-once e ne ok =
      let h = both (leb e stripes) (eqb (many e es) 1) (rw (ne_eqb e 0 ne) at ok) in
      (leb-true e stripes h.0, eqb-true (many e es) 1 h.1)

  pub fits-fit : entries_fit stripes es ≡ true → Fit stripes es
  unfolding entries_fit
  fits-fit ok = record { once = λ e ne. once e ne (dec_lt 0 (many e es)); known = λ e l. known e l (dec_lt 0 (many e es)) }
    where
      once : (e : ℕ) → e ≢ 0 → Dec (0 < many e es) → many e es ≤ 1
      once e ne (yes l) = omega (arith, (named-once e ne (all-many (entry_fits stripes es) es ok e l)).1)
      once e ne (no l) = omega arith

      known : (e : ℕ) → stripes < e → Dec (0 < many e es) → many e es ≡ 0
      known e past (yes l) = absurd (omega (arith, (named-once e (omega arith) (all-many (entry_fits stripes es) es ok e l)).0))
      known e past (no l) = omega arith

  pub fit-fits : Fit stripes es → entries_fit stripes es ≡ true
  unfolding entries_fit
  fit-fits fit = many-all (entry_fits stripes es) es (λ e l. at e l (ℕ_discrete e 0) (dec_lt stripes e))
    where
      at : (e : ℕ) → 0 < many e es → Dec (e ≡ 0) → Dec (stripes < e) → entry_fits stripes es e ≡ true
      at e l (yes q) d = rw (eq-eqb e 0 q)
      at e l (no ne) (yes past) = absurd (omega (arith, fit.known e past))
      at e l (no ne) (no here) = rw (ne_eqb e 0 ne, le-leb e stripes (omega arith), eq-eqb (many e es) 1 (omega (arith, fit.once e ne)))

-- ---- an entry written

module _ (n : ℕ) (log : List ℕ) (i y : ℕ) (here : i < n) (room : length log ≡ 8 * n) (small : y < 256 ^ 8) where
  abbrev entry_in : List ℕ → ℕ → ℕ
  entry_in b j = number_of (part 8 b j)

  abbrev later : List ℕ
  later = sets log (8 * i) (bytes_of 8 y)

  entries-set : table n (entry_in later) ≡ set (table n (entry_in log)) i y
  entries-set =
      ext_get_or 0 (table n (entry_in later)) (set (table n (entry_in log)) i y)
      (length-table n (entry_in later) ∙ sym (length-set (table n (entry_in log)) i y ∙ length-table n (entry_in log)))
      (λ k l. at k (rw length-table at l) (ℕ_discrete k i))
    where
      kept : (k : ℕ) → k ≢ i → Dec (k < i) → part 8 later k ≡ part 8 log k
      kept k ne (yes l) = span-sets-below log (8 * k) 8 (8 * i) (bytes_of 8 y) (omega arith)
      kept k ne (no l) = span-sets_above log (8 * k) 8 (8 * i) (bytes_of 8 y) (omega (arith, length-bytes_of 8 y))

      at : (k : ℕ) → k < n → Dec (k ≡ i) → get_or (table n (entry_in later)) k 0 ≡ get_or (set (table n (entry_in log)) i y) k 0
      at k l (yes e) =
          get_or-table n (entry_in later) 0 k l ∙ ap (entry_in later) e
          ∙ ap number_of (span-sets-same log (8 * i) 8 (bytes_of 8 y) (length-bytes_of 8 y) (omega arith)) ∙ number_of_bytes 8 y ∙ mod-eq_of_lt small
          ∙ sym (ap (λ (j : ℕ). get_or (set (table n (entry_in log)) i y) j 0) e ∙ get_or-set_same (table n (entry_in log)) i y 0 (rw length-table here))
      at k l (no ne) =
          get_or-table n (entry_in later) 0 k l ∙ ap number_of (kept k ne (dec_lt k i))
          ∙ sym (get_or-set_other (table n (entry_in log)) i k y 0 ne ∙ get_or-table n (entry_in log) 0 k l)

length-entries : (log : List ℕ) → length (entries log) ≡ 64
unfolding entries
length-entries log = length-table 64 (λ i. number_of (part 8 log i))

-- the first that is x lies in the log
pub first-inside : (log : List ℕ) (x : ℕ) → 0 < many x (entries log) → lowest (those x (entries log)) < 64
first-inside log x some =
    subst (λ (k : ℕ). lowest (those x (entries log)) < k) (length-map (entries log) (λ e. eqb e x) ∙ length-entries log)
    (lowest-first (those x (entries log)) some).inside

module _ (log : List ℕ) (x y : ℕ) (room : length log ≡ 512) (some : 0 < many x (entries log)) (small : y < 256 ^ 8) where
  pub length-written : length (written x y log) ≡ 512
  unfolding written
  length-written = length-sets log (8 * lowest (those x (entries log))) (bytes_of 8 y) ∙ room

  pub entries-written : entries (written x y log) ≡ set (entries log) (lowest (those x (entries log))) y
  unfolding entries written
  entries-written = entries-set 64 log (lowest (those x (entries log))) y (first-inside log x some) room small
