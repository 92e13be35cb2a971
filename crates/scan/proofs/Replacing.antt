-- What a fold or a test over the numbers of a state tells of each of them, and sixteen of them with another at one place. Assumes nothing.
use mathlib.Core.Path.{◌≡◌, refl, sym, ap, subst, ◌∙◌}
use mathlib.Core.Bool.{Bool, true, false, cond, ◌&&◌}
use mathlib.Core.List.{List, [], ◌∷◌, map}
use Prim.Native.Nat.{ℕ, zero, suc, ◌+◌, ◌≤◌, ◌<◌}
use native.Mathlib.Nat.{le_trans, le_of_suc-le-suc, not-suc-le-zero}
use native.Mathlib.Decide.{ℕ_discrete}
use native.Mathlib.Omega.{arith}
use borrow.Author.Tests.{eq-eqb, ne_eqb}
use denote.Param.Members.{Mut, Called}
use lib.Dec.{eqb}
use lib.ListN.{length, get_or, set, length-set}
use lib.Bits.{bit_xor, bit_or, or_add_and, and_le_l, and_le_r, xor_zero_r}
use lib.Seq.{get_or-set_same, get_or-set_other}
use Rattle.std.specs.Array.{IsFromFnResult, IsFromFnResultFrom}
use Rattle.std.specs.List.{fold, list_all, range_with_len}
use Rattle.std.proofs.lemmas.List.FromFn.{fill_by_all}
use Rattle.xor.proofs.Bits.{xor_assoc}
use Rattle.stripe.specs.Tables.{table, all}
use Rattle.stripe.proofs.Tables.{length-table, get_or-table}
use Rattle.verdict.specs.Verdicts.{combined_guards}

-- a flag that stays as long as a test holds
pub fold_flag : (p : ℕ → Bool) (flag : Bool) (l : List ℕ) → fold (λ a x. a && p x) flag l ≡ (flag && list_all p l)
fold_flag p true [] = refl
fold_flag p false [] = refl
fold_flag p true (x ∷ l) = fold_flag p (p x) l
fold_flag p false (x ∷ l) = fold_flag p false l

-- none is above the bits of all
bits-kept : (l : List ℕ) (bits : ℕ) → bits ≤ fold (λ a x. bit_or a x) bits l
bits-kept [] bits = omega arith
bits-kept (x ∷ l) bits =
    let more : bits ≤ bit_or bits x = omega (arith, or_add_and bits x, and_le_r bits x) in
    le_trans more (bits-kept l (bit_or bits x))

pub fold_bits : (l : List ℕ) (bits i : ℕ) → i < length l → get_or l i 0 ≤ fold (λ a x. bit_or a x) bits l
fold_bits [] bits i h = absurd (not-suc-le-zero h)
fold_bits (x ∷ l) bits zero h =
    let more : x ≤ bit_or bits x = omega (arith, or_add_and bits x, and_le_l bits x) in
    le_trans more (bits-kept l (bit_or bits x))
fold_bits (x ∷ l) bits (suc i) h = fold_bits l (bit_or bits x) i (le_of_suc-le-suc h)

-- guards combined one after the other
pub fold-guards : (guards : List ℕ) (left : ℕ) → fold (λ a x. bit_xor a x) left guards ≡ bit_xor left (combined_guards guards)
fold-guards [] left = sym (xor_zero_r left)
fold-guards (g ∷ guards) left = fold-guards guards (bit_xor left g) ∙ xor_assoc left g (combined_guards guards)

-- a test of each is the test of all, and a table goes through the numbers below its length
pub list_all_flags : {A : Type 0} (p : A → Bool) (l : List A) → list_all p l ≡ all (map p l)
list_all_flags p [] = refl
list_all_flags p (x ∷ l) = ap (λ (b : Bool). p x && b) (list_all_flags p l)

pub table-range : {A : Type 0} (f : ℕ → A) (n : ℕ) → table n f ≡ map f (range_with_len 0 n)
table-range f n = fill_by_all f (table n f) n (f 0) (length-table n f) (λ k h. get_or-table n f (f 0) k h)

-- what calls at the numbers from 0 on gave, where each gives h of its number
module _ {F B : Type 0} (g : Mut F (ℕ × Unit {0}) B) (f : F) (h : ℕ → B) (size : ℕ)
    (step : (i : ℕ) (y : B) (q : F) → i < size → Called g f (i, tt) y q → (y ≡ h i) × (q ≡ f)) (ys : List B) where
  made-at : (n i : ℕ) → i + n ≤ size → IsFromFnResultFrom g f ys i n → (k : ℕ) (d : B) → i ≤ k → k < i + n → get_or ys k d ≡ h k
  made-at zero i room w k d a b = absurd (omega arith)
  made-at (suc n) i room w k d a b =
      let one = step i w.1 w.0 (omega arith) w.3 in
      go (ℕ_discrete i k) (w.2.1 d ∙ one.0)
      (λ l. made-at n (i + 1) (omega arith) (subst (λ (r : F). IsFromFnResultFrom g r ys (i + 1) n) one.1 w.4) k d l (omega arith))
    where
      go : Dec (i ≡ k) → get_or ys i d ≡ h i → (i + 1 ≤ k → get_or ys k d ≡ h k) → get_or ys k d ≡ h k
      go (yes e) here later = subst (λ (j : ℕ). get_or ys j d ≡ h j) e here
      go (no e) here later = later (omega arith)

  pub made_by : IsFromFnResult g f ys size → (d : B) → ys ≡ map h (range_with_len 0 size)
  made_by w d = fill_by_all h ys size d w.long (λ k l. made-at size 0 (omega arith) w.each k d (omega arith) (omega arith))

-- what is chosen at each place is what lies there once the value is set
pub chosen-set : {A : Type 0} (l : List A) (m : ℕ) (v : A) (n : ℕ) → length l ≡ n
    → set l m v ≡ map (λ i. cond (eqb i m) v (get_or l i v)) (range_with_len 0 n)
chosen-set l m v n long = fill_by_all (λ i. cond (eqb i m) v (get_or l i v)) (set l m v) n v (length-set l m v ∙ long) (λ k h. sym (there k (omega arith)))
  where
    there : (i : ℕ) → i < length l → cond (eqb i m) v (get_or l i v) ≡ get_or (set l m v) i v
    there i h = go (ℕ_discrete i m)
      where
        go : Dec (i ≡ m) → cond (eqb i m) v (get_or l i v) ≡ get_or (set l m v) i v
        go (yes q) = rw (eq-eqb i m q) (sym (get_or-set_same l i v v h) ∙ ap (λ (k : ℕ). get_or (set l k v) i v) q)
        go (no q) = rw (ne_eqb i m q) (sym (get_or-set_other l m i v v q))

-- a number put where it stands already changes nothing
pub set_as_it_is : (l : List ℕ) (i v : ℕ) → i < length l → get_or l i 0 ≡ v → l ≡ set l i v
set_as_it_is [] i v h e = absurd (not-suc-le-zero h)
set_as_it_is (x ∷ l) zero v h e = ap (λ (y : ℕ). y ∷ l) e
set_as_it_is (x ∷ l) (suc i) v h e = ap (λ (m : List ℕ). x ∷ m) (set_as_it_is l i v (le_of_suc-le-suc h) e)
