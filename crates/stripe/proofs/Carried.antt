-- The guards in the tags of a stripe, combined: of all members and of all but one; and what follows where they combine to zero.
-- Assumes nothing.
use mathlib.Core.Path.{◌≡◌, refl, sym, ap, ap₂, ◌∙◌}
use mathlib.Core.Bool.{Bool, true, false, not, ◌||◌}
use mathlib.Core.List.{List, [], ◌∷◌}
use mathlib.Core.Logic.{◌≢◌}
use Prim.Native.Nat.{ℕ, zero, suc, ◌+◌, ◌^◌, ◌≤◌, ◌<◌}
use native.Mathlib.Nat.{zero-lt-suc, le_of_suc-le-suc, not-suc-le-zero, one-le-pow}
use native.Mathlib.Decide.{ℕ_discrete}
use native.Mathlib.Omega.{arith}
use borrow.Author.Tests.{eq-eqb, ne_eqb}
use lib.Bits.{bit_xor, xor_comm, xor_self, xor_zero_l, xor_zero_r}
use lib.Dec.{eqb, lit<}
use native.Mathlib.Numerals.{add-one}
use lib.ListN.{length, get_or, drop, set, length-set, drop_of_length-le}
use lib.Seq.{ext_get_or, drop-cons, get_or-set_same, get_or-set_other}
use Rattle.xor.proofs.Bits.{xor_assoc, xor-twice, xor_eq}
use Rattle.format.specs.Formats.{Format, guard}
use Rattle.format.proofs.Sizes.{xor_bytes, guard-fits}
use Rattle.layout.specs.Places.{parity_member}
use Rattle.layout.specs.declared.Array.{Array}
use Rattle.tag.specs.Blocks.{format_at, data_of}
use Rattle.tag.specs.Tags.{carried, good}
use Rattle.tag.proofs.Guards.{own_data}
use Rattle.tag.proofs.Cases.{good-guard}
use Rattle.verdict.specs.Verdicts.{combined_guards}
use Rattle.stripe.specs.Tables.{others}
use Rattle.stripe.specs.Stripes.{block_of, stored_guard, stored_guards, others_guards, left_of, others_good, guards_fit}
use Rattle.stripe.proofs.Tables.{length-table, get_or-table}
use Rattle.stripe.proofs.Others.{others_are_good}

-- ---- numbers combined

-- all are the others and the one
pub all_with_one : (guards : List ℕ) (k : ℕ) → k < length guards → combined_guards guards ≡ bit_xor (combined_guards (others k guards)) (get_or guards k 0)
all_with_one [] k h = absurd (not-suc-le-zero h)
all_with_one (g ∷ guards) zero h = xor_comm g (combined_guards guards)
all_with_one (g ∷ guards) (suc k) h =
    ap (bit_xor g) (all_with_one guards k (le_of_suc-le-suc h)) ∙ sym (xor_assoc g (combined_guards (others k guards)) (get_or guards k 0))

-- the others do not see the one
pub others-set : (guards : List ℕ) (k x : ℕ) → others k (set guards k x) ≡ others k guards
others-set [] k x = refl
others-set (g ∷ guards) zero x = refl
others-set (g ∷ guards) (suc k) x = ap (λ (l : List ℕ). g ∷ l) (others-set guards k x)

-- none past the end is left out
pub others_of_none : (k : ℕ) (guards : List ℕ) → length guards ≤ k → combined_guards (others k guards) ≡ combined_guards guards
others_of_none k [] h = ap combined_guards (none k)
  where
    none : (k : ℕ) → others {A = ℕ} k [] ≡ []
    none zero = refl
    none (suc k) = refl
others_of_none zero (g ∷ guards) h = absurd (not-suc-le-zero h)
others_of_none (suc k) (g ∷ guards) h = ap (bit_xor g) (others_of_none k guards (le_of_suc-le-suc h))

-- as many bytes hold what numbers of so many combine to
pub combined_small : (n : ℕ) (guards : List ℕ) → ((i : ℕ) → i < length guards → get_or guards i 0 < 256 ^ n) → combined_guards guards < 256 ^ n
combined_small n [] h = one-le-pow n 256 (lit< tt)
combined_small n (g ∷ guards) h =
    xor_bytes n g (combined_guards guards) (h 0 (zero-lt-suc (length guards))) (combined_small n guards (λ i l. h (suc i) (omega arith)))

-- one replaced: the old one out, the new one in
pub guards-set : (guards : List ℕ) (k new : ℕ) → k < length guards → combined_guards (set guards k new) ≡ bit_xor (bit_xor (combined_guards guards) (get_or guards k 0)) new
guards-set guards k new here =
    let rest = combined_guards (others k guards) in
    all_with_one (set guards k new) k (omega (arith, length-set guards k new))
    ∙ ap₂ (λ (l : List ℕ) (x : ℕ). bit_xor (combined_guards l) x) (others-set guards k new) (get_or-set_same guards k new 0 here)
    ∙ ap (λ (x : ℕ). bit_xor x new) (sym (ap (λ (x : ℕ). bit_xor x (get_or guards k 0)) (all_with_one guards k here) ∙ xor-twice rest (get_or guards k 0)))

-- what the others combine to, by a zero in the one's place
pub others_by_zero : (guards : List ℕ) (k : ℕ) → combined_guards (others k guards) ≡ combined_guards (set guards k 0)
others_by_zero [] zero = refl
others_by_zero [] (suc k) = refl
others_by_zero (g ∷ guards) zero = sym (xor_zero_l (combined_guards guards))
others_by_zero (g ∷ guards) (suc k) = ap (bit_xor g) (others_by_zero guards k)

-- ---- what is left of guards

pub left_plain : (F : Format) (guards : List ℕ) → F.carries ≡ false → left_of F guards ≡ 0
left_plain F guards e = rw e

pub left-carried : (F : Format) (guards : List ℕ) → F.carries ≡ true → left_of F guards ≡ combined_guards guards
left-carried F guards e = rw e

-- ---- a stripe in memory

module _ (F : Format) (n m : ℕ) (bytes : List ℕ) where
  abbrev stored_at : ℕ → ℕ
  stored_at k = stored_guard F (block_of F bytes k)

  pub all_with_others : m < n → combined_guards (stored_guards F n bytes) ≡ bit_xor (others_guards F n m bytes) (stored_guard F (block_of F bytes m))
  unfolding others_guards
  all_with_others here =
      all_with_one (stored_guards F n bytes) m (rw length-table here) ∙ ap (bit_xor (combined_guards (others m (stored_guards F n bytes)))) (get_or-table n stored_at 0 m here)

  pub others-guards-all : n ≤ m → others_guards F n m bytes ≡ combined_guards (stored_guards F n bytes)
  unfolding others_guards
  others-guards-all past = others_of_none m (stored_guards F n bytes) (omega (arith, length-table n stored_at))

  -- where all combine to zero the others leave the one, and the other way round
  pub others_leave_one : m < n → combined_guards (stored_guards F n bytes) ≡ 0 → others_guards F n m bytes ≡ stored_guard F (block_of F bytes m)
  others_leave_one here none = xor_eq (others_guards F n m bytes) (stored_guard F (block_of F bytes m)) (sym (all_with_others here) ∙ none)

  pub one-leaves-none : m < n → others_guards F n m bytes ≡ stored_guard F (block_of F bytes m) → combined_guards (stored_guards F n bytes) ≡ 0
  one-leaves-none here e = all_with_others here ∙ ap (bit_xor (others_guards F n m bytes)) (sym e) ∙ xor_self (others_guards F n m bytes)

-- the loop over the members: what was combined so far, and what those to come combine to, the one left out as zero
module _ (F : Format) (n skip : ℕ) (bytes : List ℕ) where
  abbrev pub walked : List ℕ
  walked = set (stored_guards F n bytes) skip 0

  length-walked : length walked ≡ n
  length-walked = length-set (stored_guards F n bytes) skip 0 ∙ length-table n (λ k. stored_guard F (block_of F bytes k))

  pub guards_whole : bit_xor 0 (combined_guards (drop 0 walked)) ≡ others_guards F n skip bytes
  unfolding others_guards
  guards_whole = xor_zero_l (combined_guards walked) ∙ sym (others_by_zero (stored_guards F n bytes) skip)

  next-walked : (m : ℕ) → m < n → combined_guards (drop m walked) ≡ bit_xor (get_or walked m 0) (combined_guards (drop (m + 1) walked))
  next-walked m h = rw (add-one, drop-cons walked m 0 (rw length-walked h))

  pub guards-taken : (guards m g : ℕ) → m < n → m ≢ skip → g ≡ stored_guard F (block_of F bytes m)
      → bit_xor (bit_xor guards g) (combined_guards (drop (m + 1) walked)) ≡ bit_xor guards (combined_guards (drop m walked))
  guards-taken guards m g h ne e =
      let is : get_or walked m 0 ≡ g =
      get_or-set_other (stored_guards F n bytes) skip m 0 0 ne ∙ get_or-table n (λ k. stored_guard F (block_of F bytes k)) 0 m h ∙ sym e in
      xor_assoc guards g (combined_guards (drop (m + 1) walked))
      ∙ ap (bit_xor guards) (sym (next-walked m h ∙ ap (λ (x : ℕ). bit_xor x (combined_guards (drop (m + 1) walked))) is))

  pub guards-passed : (guards m : ℕ) → m < n → m ≡ skip → bit_xor guards (combined_guards (drop (m + 1) walked)) ≡ bit_xor guards (combined_guards (drop m walked))
  guards-passed guards m h e =
      let is : get_or walked m 0 ≡ 0 = ap (λ (k : ℕ). get_or walked k 0) e ∙ get_or-set_same (stored_guards F n bytes) skip 0 0 (rw length-table (rw e at h)) in
      ap (bit_xor guards) (sym (next-walked m h ∙ ap (λ (x : ℕ). bit_xor x (combined_guards (drop (m + 1) walked))) is ∙ xor_zero_l (combined_guards (drop (m + 1) walked))))

  pub guards-done : (guards m : ℕ) → n ≤ m → guards ≡ bit_xor guards (combined_guards (drop m walked))
  guards-done guards m h = sym (ap (λ (l : List ℕ). bit_xor guards (combined_guards l)) (drop_of_length-le walked {i = m} (rw length-walked h)) ∙ xor_zero_r guards)

-- the others' guards do not depend on what stands in the one's place
pub others-guards_ext : (F : Format) (n m : ℕ) (x y : List ℕ) → ((k : ℕ) → k < n → k ≢ m → block_of F x k ≡ block_of F y k) → others_guards F n m x ≡ others_guards F n m y
unfolding others_guards
others-guards_ext F n m x y h =
    ap combined_guards
    (sym (others-set (stored_guards F n x) m 0)
    ∙ ap (others m) (ext_get_or 0 (set (stored_guards F n x) m 0) (set (stored_guards F n y) m 0) (long x ∙ sym (long y)) (λ k l. at k (rw long at l) (ℕ_discrete k m)))
    ∙ others-set (stored_guards F n y) m 0)
  where
    long : (z : List ℕ) → length (set (stored_guards F n z) m 0) ≡ n
    long z = length-set (stored_guards F n z) m 0 ∙ length-table n (stored_at F n m z)

    at : (k : ℕ) → k < n → Dec (k ≡ m) → get_or (set (stored_guards F n x) m 0) k 0 ≡ get_or (set (stored_guards F n y) m 0) k 0
    at k l (yes e) = rw (e, get_or-set_same (stored_guards F n x) m 0 0 (rw length-table (rw e at l)), get_or-set_same (stored_guards F n y) m 0 0 (rw length-table (rw e at l)))
    at k l (no e) =
        get_or-set_other (stored_guards F n x) m k 0 0 e ∙ get_or-table n (stored_at F n m x) 0 k l ∙ ap (stored_guard F) (h k l e)
        ∙ sym (get_or-table n (stored_at F n m y) 0 k l) ∙ sym (get_or-set_other (stored_guards F n y) m k 0 0 e)

-- ---- of good members

module _ (a : Array) (stripe m : ℕ) (bytes : List ℕ) where
  -- a guard that is not carried is that of the data
  pub stored-own : carried a stripe m ≡ false → good a stripe m (block_of (format_at a) bytes m) ≡ true
      → stored_guard (format_at a) (block_of (format_at a) bytes m) ≡ guard (format_at a) (data_of (format_at a) (block_of (format_at a) bytes m))
  stored-own own h = good-guard a stripe m (block_of (format_at a) bytes m) own h

  -- what the others than the parity combine to has no more than a guard's bytes
  pub others_small : others_good a stripe m bytes ≡ true → m < a.members → m ≡ parity_member a stripe → others_guards (format_at a) a.members m bytes < 256 ^ (format_at a).quarter
  unfolding others_guards
  others_small others-good here p =
      let stored = stored_guards (format_at a) a.members bytes in
      rw (others_by_zero stored m) (combined_small (format_at a).quarter (set stored m 0) each)
    where
      at : (i : ℕ) → i < a.members → Dec (i ≡ m) → get_or (set (stored_guards (format_at a) a.members bytes) m 0) i 0 < 256 ^ (format_at a).quarter
      at i h (yes e) = rw (e, get_or-set_same (stored_guards (format_at a) a.members bytes) m 0 0 (rw length-table here)) (one-le-pow (format_at a).quarter 256 (lit< tt))
      at i h (no ne) =
          rw (
            get_or-set_other (stored_guards (format_at a) a.members bytes) m i 0 0 ne,
            get_or-table a.members (λ k. stored_guard (format_at a) (block_of (format_at a) bytes k)) 0 i h,
            good-guard a stripe i (block_of (format_at a) bytes i) (own_data a stripe i (λ e. ne (e ∙ sym p))) (others_are_good a stripe m bytes others-good i h ne),
          )
          (guard-fits (format_at a) (data_of (format_at a) (block_of (format_at a) bytes i)))

      each : (i : ℕ) → i < length (set (stored_guards (format_at a) a.members bytes) m 0) → get_or (set (stored_guards (format_at a) a.members bytes) m 0) i 0 < 256 ^ (format_at a).quarter
      each i l = at i (omega (arith, l, length-set (stored_guards (format_at a) a.members bytes) m 0, length-table a.members (λ k. stored_guard (format_at a) (block_of (format_at a) bytes k)))) (ℕ_discrete i m)

-- ---- whether guards fit

module _ (a : Array) (stripe member : ℕ) (bytes : List ℕ) (own : ℕ) where
  pub fit_plain : (format_at a).carries ≡ false → guards_fit a stripe member bytes own ≡ true
  unfolding guards_fit
  fit_plain e = rw e

  pub fit-parity : member ≡ parity_member a stripe → guards_fit a stripe member bytes own ≡ true
  unfolding guards_fit
  fit-parity e = rw (eq-eqb member (parity_member a stripe) e) (either (not (format_at a).carries) (eqb (others_guards (format_at a) a.members member bytes) own))
    where
      either : (x y : Bool) → (x || true || y) ≡ true
      either true y = refl
      either false y = refl

  pub fit_data : (format_at a).carries ≡ true → member ≢ parity_member a stripe → guards_fit a stripe member bytes own ≡ eqb (others_guards (format_at a) a.members member bytes) own
  unfolding guards_fit
  fit_data e p = rw (e, ne_eqb member (parity_member a stripe) p)

  -- they fit where the others leave this guard
  pub fit_same : others_guards (format_at a) a.members member bytes ≡ own → guards_fit a stripe member bytes own ≡ true
  unfolding guards_fit
  fit_same e = rw (eq-eqb (others_guards (format_at a) a.members member bytes) own e) (or_true (not (format_at a).carries || eqb member (parity_member a stripe)))
    where
      or_true : (x : Bool) → (x || true) ≡ true
      or_true true = refl
      or_true false = refl
