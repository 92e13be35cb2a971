-- What a verdict says of flags, exactly, and which bytes are not zero. Assumes nothing.
use mathlib.Core.Path.{◌≡◌, refl, sym, ap, ap₂, ◌∙◌, subst}
use mathlib.Core.Bool.{Bool, true, false, not, cond, ◌||◌}
use mathlib.Core.List.{List, [], ◌∷◌, map}
use mathlib.Core.Logic.{◌≢◌, ◌↔◌}
use Prim.Native.Nat.{ℕ, zero, suc, ◌≤◌, ◌<◌}
use native.Mathlib.Decide.{ℕ_discrete}
use native.Mathlib.Nat.{le_of_suc-le-suc, not-suc-le-zero}
use native.Mathlib.Omega.{arith}
use borrow.Author.Tests.{ltb-true, ltb-false, lt-ltb, le-ltb, eqb-true, eq-eqb, ne_eqb, not-false}
use lib.Dec.{ltb, eqb}
use lib.ListN
use lib.ListN.{length, get_or, replicate, length-map, length-replicate, get_or-replicate}
use lib.Seq.{ext_get_or}
use Rattle.std.specs.Prelude.{Some, None}
use Rattle.std.specs.List.{count_by, position}
use Rattle.layout.specs.Arrays.{within}
use Rattle.layout.proofs.Ranges.{within_range, range_within}
use Rattle.verdict.specs.Verdicts.{count, lowest, nonzero, says_clean, says_bad, says_torn, says_unchecked, standing_in, bads, uncheckeds, judged_at, judged}
use Rattle.verdict.specs.Flags.{NoFlag, First, FirstNonzero}
use Rattle.verdict.proofs.Flags.{count_none, none-count, lowest-first, first-lowest, first_counted, lowest-inside, count-map, place-none, place-some}

-- ---- of members, and a place found

module _ (members : List ℕ) (torn : Bool) (place : ℕ) where
  pub at-bad : 0 < count (bads members) → judged_at members torn place ≡ says_bad (lowest (bads members)) (count (bads members)) (get_or members (lowest (bads members)) 0)
  unfolding judged_at
  at-bad h = rw (lt-ltb 0 (count (bads members)) h)

  pub at-unchecked : count (bads members) ≡ 0 → 0 < count (uncheckeds members) → judged_at members torn place ≡ says_unchecked (lowest (uncheckeds members)) (count (uncheckeds members))
  unfolding judged_at
  at-unchecked e h = rw (e, lt-ltb 0 (count (uncheckeds members)) h)

  pub at-torn : count (bads members) ≡ 0 → count (uncheckeds members) ≡ 0 → torn ≡ true → judged_at members torn place ≡ says_torn place
  unfolding judged_at
  at-torn e f h = rw (e, f, h)

  pub at_none : count (bads members) ≡ 0 → count (uncheckeds members) ≡ 0 → torn ≡ false → judged_at members torn place ≡ says_clean
  unfolding judged_at
  at_none e f h = rw (e, f, h)

-- torn by the place, by what is behind, or not at all
module _ (place long left : ℕ) where
  pub torn_by_place : place < long → (ltb place long || not (eqb left 0)) ≡ true
  torn_by_place h = rw (lt-ltb place long h)

  pub torn_by_left : left ≢ 0 → (ltb place long || not (eqb left 0)) ≡ true
  torn_by_left some = by_test (ltb place long)
    where
      by_test : (f : Bool) → (f || not (eqb left 0)) ≡ true
      by_test true = refl
      by_test false = rw (ne_eqb left 0 some)

  pub torn_by_none : long ≤ place → left ≡ 0 → (ltb place long || not (eqb left 0)) ≡ false
  torn_by_none h none = rw (le-ltb place long h, eq-eqb left 0 none)

-- where nothing is torn no place is said
pub no_place : (members : List ℕ) (place other : ℕ) → judged_at members false place ≡ judged_at members false other
unfolding judged_at
no_place members place other = refl

-- ---- of members and places

module _ (members : List ℕ) (torn : List Bool) where
  -- the faults of the lowest bad member
  abbrev faults_of_lowest : ℕ
  faults_of_lowest = get_or members (lowest (bads members)) 0

  -- the verdict by its three tests
  abbrev by_tests : Bool → Bool → Bool → List ℕ
  by_tests b u t =
      cond b (says_bad (lowest (bads members)) (count (bads members)) faults_of_lowest)
      (cond u (says_unchecked (lowest (uncheckeds members)) (count (uncheckeds members))) (cond t (says_torn (lowest torn)) says_clean))

  -- each of the four, where its tests say so
  pub says_bad_lem : 0 < count (bads members) → judged members torn ≡ says_bad (lowest (bads members)) (count (bads members)) faults_of_lowest
  unfolding judged
  says_bad_lem h = at-bad members (ltb 0 (count torn)) (lowest torn) h

  pub says_unchecked_lem : count (bads members) ≡ 0 → 0 < count (uncheckeds members) → judged members torn ≡ says_unchecked (lowest (uncheckeds members)) (count (uncheckeds members))
  unfolding judged
  says_unchecked_lem e h = at-unchecked members (ltb 0 (count torn)) (lowest torn) e h

  pub says_torn_lem : count (bads members) ≡ 0 → count (uncheckeds members) ≡ 0 → 0 < count torn → judged members torn ≡ says_torn (lowest torn)
  unfolding judged
  says_torn_lem e f h = at-torn members (ltb 0 (count torn)) (lowest torn) e f (lt-ltb 0 (count torn) h)

  pub says_clean_lem : count (bads members) ≡ 0 → count (uncheckeds members) ≡ 0 → count torn ≡ 0 → judged members torn ≡ says_clean
  unfolding judged
  says_clean_lem e f g = at_none members (ltb 0 (count torn)) (lowest torn) e f (rw g)

  -- what a verdict is, by cases that shut each other out
  pub data Judged : List ℕ → Type 0 where
    of_bad : 0 < count (bads members) → Judged (says_bad (lowest (bads members)) (count (bads members)) faults_of_lowest)
    of_unchecked : count (bads members) ≡ 0 → 0 < count (uncheckeds members) → Judged (says_unchecked (lowest (uncheckeds members)) (count (uncheckeds members)))
    of_torn : count (bads members) ≡ 0 → count (uncheckeds members) ≡ 0 → 0 < count torn → Judged (says_torn (lowest torn))
    of_clean : count (bads members) ≡ 0 → count (uncheckeds members) ≡ 0 → count torn ≡ 0 → Judged says_clean

  pub judged_case : Judged (judged members torn)
  unfolding judged judged_at
  judged_case = by_tests_lem (ltb 0 (count (bads members))) (ltb 0 (count (uncheckeds members))) (ltb 0 (count torn)) refl refl refl
    where
      by_tests_lem : (b u t : Bool) → ltb 0 (count (bads members)) ≡ b → ltb 0 (count (uncheckeds members)) ≡ u → ltb 0 (count torn) ≡ t → Judged (by_tests b u t)
      by_tests_lem true u t p q r = of_bad (ltb-true 0 (count (bads members)) p)
      by_tests_lem false true t p q r = of_unchecked (omega (arith, ltb-false 0 (count (bads members)) p)) (ltb-true 0 (count (uncheckeds members)) q)
      by_tests_lem false false true p q r =
          of_torn (omega (arith, ltb-false 0 (count (bads members)) p)) (omega (arith, ltb-false 0 (count (uncheckeds members)) q)) (ltb-true 0 (count torn) r)
      by_tests_lem false false false p q r =
          of_clean (omega (arith, ltb-false 0 (count (bads members)) p)) (omega (arith, ltb-false 0 (count (uncheckeds members)) q)) (omega (arith, ltb-false 0 (count torn) r))

  pub judged-clean : (judged members torn ≡ says_clean) ↔ (NoFlag (bads members) × NoFlag (uncheckeds members) × NoFlag torn)
  judged-clean = (said judged_case, λ h. says_clean_lem (none-count (bads members) h.0) (none-count (uncheckeds members) h.1) (none-count torn h.2))
    where
      said : {l : List ℕ} → Judged l → l ≡ says_clean → NoFlag (bads members) × NoFlag (uncheckeds members) × NoFlag torn
      said (of_bad p) e = let z : ◌≡◌ {A = ℕ} 1 0 = cc in absurd (omega arith)
      said (of_unchecked p q) e = let z : ◌≡◌ {A = ℕ} 3 0 = cc in absurd (omega arith)
      said (of_torn p q r) e = let z : ◌≡◌ {A = ℕ} 2 0 = cc in absurd (omega arith)
      said (of_clean p q r) e = (count_none (bads members) p, count_none (uncheckeds members) q, count_none torn r)

  pub judged-bad : (member many faults : ℕ)
      → (judged members torn ≡ says_bad member many faults) ↔ (First (bads members) member × (many ≡ count (bads members)) × (faults ≡ get_or members member 0))
  judged-bad member many faults = (
    said judged_case,
    λ h.
        let low = first-lowest (bads members) member h.0 in
        says_bad_lem (first_counted (bads members) member h.0)
        ∙ ap₂ (λ (m k : ℕ). says_bad m k (get_or members m 0)) (sym low) (sym h.1) ∙ ap (says_bad member many) (sym h.2),
  )
    where
      said : {l : List ℕ} → Judged l → l ≡ says_bad member many faults → First (bads members) member × (many ≡ count (bads members)) × (faults ≡ get_or members member 0)
      said (of_bad p) e =
          let low : lowest (bads members) ≡ member = cc in
          let told : faults_of_lowest ≡ faults = cc in
          (subst (First (bads members)) low (lowest-first (bads members) p), (cc), sym told ∙ ap (λ (m : ℕ). get_or members m 0) low)
      said (of_unchecked p q) e = let z : ◌≡◌ {A = ℕ} 3 1 = cc in absurd (omega arith)
      said (of_torn p q r) e = let z : ◌≡◌ {A = ℕ} 2 1 = cc in absurd (omega arith)
      said (of_clean p q r) e = let z : ◌≡◌ {A = ℕ} 0 1 = cc in absurd (omega arith)

  pub judged-unchecked : (member many : ℕ)
      → (judged members torn ≡ says_unchecked member many) ↔ (NoFlag (bads members) × First (uncheckeds members) member × (many ≡ count (uncheckeds members)))
  judged-unchecked member many = (
    said judged_case,
    λ h. says_unchecked_lem (none-count (bads members) h.0) (first_counted (uncheckeds members) member h.1)
        ∙ ap₂ says_unchecked (sym (first-lowest (uncheckeds members) member h.1)) (sym h.2),
  )
    where
      said : {l : List ℕ} → Judged l → l ≡ says_unchecked member many → NoFlag (bads members) × First (uncheckeds members) member × (many ≡ count (uncheckeds members))
      said (of_bad p) e = let z : ◌≡◌ {A = ℕ} 1 3 = cc in absurd (omega arith)
      said (of_unchecked p q) e =
          let low : lowest (uncheckeds members) ≡ member = cc in
          (count_none (bads members) p, subst (First (uncheckeds members)) low (lowest-first (uncheckeds members) q), (cc))
      said (of_torn p q r) e = let z : ◌≡◌ {A = ℕ} 2 3 = cc in absurd (omega arith)
      said (of_clean p q r) e = let z : ◌≡◌ {A = ℕ} 0 3 = cc in absurd (omega arith)

  pub judged-torn : (place : ℕ) → (judged members torn ≡ says_torn place) ↔ (NoFlag (bads members) × NoFlag (uncheckeds members) × First torn place)
  judged-torn place = (
    said judged_case,
    λ h. says_torn_lem (none-count (bads members) h.0) (none-count (uncheckeds members) h.1) (first_counted torn place h.2)
        ∙ ap says_torn (sym (first-lowest torn place h.2)),
  )
    where
      said : {l : List ℕ} → Judged l → l ≡ says_torn place → NoFlag (bads members) × NoFlag (uncheckeds members) × First torn place
      said (of_bad p) e = let z : ◌≡◌ {A = ℕ} 1 2 = cc in absurd (omega arith)
      said (of_unchecked p q) e = let z : ◌≡◌ {A = ℕ} 3 2 = cc in absurd (omega arith)
      said (of_torn p q r) e =
          let low : lowest torn ≡ place = cc in
          (count_none (bads members) p, count_none (uncheckeds members) q, subst (First torn) low (lowest-first torn r))
      said (of_clean p q r) e = let z : ◌≡◌ {A = ℕ} 0 2 = cc in absurd (omega arith)

  pub judged-length : length (judged members torn) ≡ 4
  judged-length = by_case judged_case
    where
      by_case : {l : List ℕ} → Judged l → length l ≡ 4
      by_case (of_bad p) = refl
      by_case (of_unchecked p q) = refl
      by_case (of_torn p q r) = refl
      by_case (of_clean p q r) = refl

  -- at a refusal each of its numbers is 0
  pub judged_refused : map (λ (v : ℕ). zero) (judged members torn) ≡ says_clean
  judged_refused = refused judged_case
    where
      refused : {l : List ℕ} → Judged l → map (λ (v : ℕ). zero) l ≡ says_clean
      refused (of_bad p) = refl
      refused (of_unchecked p q) = refl
      refused (of_torn p q r) = refl
      refused (of_clean p q r) = refl

  -- a verdict that begins with neither 1 nor 3 finds no member bad, and none unchecked
  pub none-amiss : get_or (judged members torn) 0 0 ≢ 1 → get_or (judged members torn) 0 0 ≢ 3 → NoFlag (bads members) × NoFlag (uncheckeds members)
  none-amiss = said judged_case
    where
      said : {l : List ℕ} → Judged l → get_or l 0 0 ≢ 1 → get_or l 0 0 ≢ 3 → NoFlag (bads members) × NoFlag (uncheckeds members)
      said (of_bad p) n k = absurd (n refl)
      said (of_unchecked p q) n k = absurd (k refl)
      said (of_torn p q r) n k = (count_none (bads members) p, count_none (uncheckeds members) q)
      said (of_clean p q r) n k = (count_none (bads members) p, count_none (uncheckeds members) q)

-- ---- which members stand so

module _ {A B : Type 0} where
  pub get_d_map : (f : A → B) (l : List A) (i : ℕ) (d : B) (e : A) → i < length l → get_or (map f l) i d ≡ f (get_or l i e)
  get_d_map f [] i d e h = absurd (not-suc-le-zero h)
  get_d_map f (x ∷ l) zero d e h = refl
  get_d_map f (x ∷ l) (suc i) d e h = get_d_map f l i d e (le_of_suc-le-suc h)

module _ (least most : ℕ) (members : List ℕ) where
  pub length-standing_in : length (standing_in least most members) ≡ length members
  unfolding standing_in
  length-standing_in = length-map members (within least most)

  -- what is found of these, in std's words
  pub none_in : None ≡ position (within least most) members → count (standing_in least most members) ≡ 0
  unfolding standing_in
  none_in e = place-none (within least most) members e

  pub counted_in : count_by (within least most) members ≡ count (standing_in least most members)
  unfolding standing_in
  counted_in = sym (count-map (within least most) members)

  pub record FoundIn (member : ℕ) : Type 0 where
    pub inside : member < length members
    pub lowest_is : member ≡ lowest (standing_in least most members)
    pub some : 0 < count (standing_in least most members)

  pub found_in : (member : ℕ) → Some member ≡ position (within least most) members → FoundIn member
  unfolding standing_in
  found_in member e =
      let found = place-some (within least most) members member e in
      record {
        inside = found.0;
        lowest_is = found.1;
        some = lowest-inside (standing_in least most members) (omega (arith, found.0, found.1, length-map members (within least most)));
      }

-- a range of one number
pub one-within : (k x : ℕ) → within k k x ≡ eqb x k
one-within k x = by_dec (ℕ_discrete x k)
  where
    by_dec : Dec (x ≡ k) → within k k x ≡ eqb x k
    by_dec (yes e) = range_within k k x (omega arith) (omega arith) ∙ sym (eq-eqb x k e)
    by_dec (no ne) = outside (within k k x) refl ∙ sym (ne_eqb x k ne)
      where
        outside : (f : Bool) → within k k x ≡ f → f ≡ false
        outside true h = let r = within_range k k x h in absurd (ne (omega (arith, r.0, r.1)))
        outside false h = refl

-- ---- of combined bytes

pub zeros-at : (n k : ℕ) → get_or (replicate {A = ℕ} n 0) k 0 ≡ 0
zeros-at zero k = refl
zeros-at (suc n) zero = refl
zeros-at (suc n) (suc k) = zeros-at n k

module _ (bytes : List ℕ) where
  pub length-nonzero : length (nonzero bytes) ≡ length bytes
  unfolding nonzero
  length-nonzero = length-map bytes (λ x. not (eqb x 0))

  pub nonzero-at : (k : ℕ) → get_or (nonzero bytes) k false ≡ not (eqb (get_or bytes k 0) 0)
  unfolding nonzero
  nonzero-at k = ListN.get_or-map (λ x. not (eqb x 0)) bytes k 0

  zero_said : (k : ℕ) → get_or (nonzero bytes) k false ≡ false → get_or bytes k 0 ≡ 0
  zero_said k e = eqb-true (get_or bytes k 0) 0 (not-false (eqb (get_or bytes k 0) 0) (sym (nonzero-at k) ∙ e))

  said_zero : (k : ℕ) → get_or bytes k 0 ≡ 0 → get_or (nonzero bytes) k false ≡ false
  said_zero k e = nonzero-at k ∙ ap not (eq-eqb (get_or bytes k 0) 0 e)

  pub none-nonzero : (size : ℕ) → length bytes ≡ size → NoFlag (nonzero bytes) ↔ (bytes ≡ replicate size 0)
  none-nonzero size long = (
    λ none. ext_get_or 0 bytes (replicate size 0) (long ∙ sym (length-replicate {A = ℕ} size 0))
        (λ i h. zero_said i (none i) ∙ sym (get_or-replicate size i 0 0 (omega arith))),
    λ e k. said_zero k (ap (λ (l : List ℕ). get_or l k 0) e ∙ zeros-at size k),
  )

  pub first-nonzero : (place : ℕ) → First (nonzero bytes) place ↔ FirstNonzero bytes place
  first-nonzero place = (
    λ h.
        record {
          inside = omega (arith, h.inside, length-nonzero);
          not-zero = λ e. let z : true ≡ false = sym h.holds ∙ said_zero place e in let o : ◌≡◌ {A = ℕ} 0 1 = cc in omega arith;
          zero-below = λ k l. zero_said k (h.none_below k l);
        },
    λ h.
        record {
          inside = omega (arith, h.inside, length-nonzero);
          holds = nonzero-at place ∙ ap not (ne_eqb (get_or bytes place 0) 0 h.not-zero);
          none_below = λ k l. said_zero k (h.zero-below k l);
        },
  )
