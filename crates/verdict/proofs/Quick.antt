-- The quick scrub: what the guards combine to, one after another, and the answer from their number and their combination. Assumes nothing.
use mathlib.Core.Path.{◌≡◌, refl, sym, ap, ◌∙◌}
use mathlib.Core.Bool.{Bool, true, false, not, cond, ◌&&◌}
use mathlib.Core.List.{List, [], ◌∷◌}
use mathlib.Core.Logic.{◌≢◌}
use Prim.Native.Nat.{ℕ, ◌≤◌, ◌<◌}
use borrow.Author.Tests.{eq-eqb, ne_eqb, eqb-true, lt-leb}
use lib.Bits.{bit_xor, xor_zero_r, xor_zero_l}
use Rattle.std.specs.Prelude.{Ok, Err}
use Rattle.std.specs.List.{FoldsTo}
use Rattle.std.proofs.lemmas.Bool.{false≢true}
use Rattle.refusal.specs.Refusals.{number}
use Rattle.refusal.specs.declared.Refusal.{Refusal}
use lib.Dec.{leb, eqb}
use lib.ListN.{length}
use Rattle.xor.proofs.Bits.{xor_assoc}
use Rattle.layout.specs.Answers.{refuse, answer}
use Rattle.layout.specs.Arrays.{within}
use Rattle.layout.proofs.Answers.{answer_refused, refuse-none}
use Rattle.layout.proofs.Ranges.{within_range, range_within}
use Rattle.verdict.specs.Verdicts.{combined_guards, quick_refusal, compared_with, quick_numbers, compared_numbers}
use Rattle.verdict.specs.declared.Compared.{Compared}
use Rattle.verdict.specs.declared.Compared.TheVariants.{Fits, Differs}
use Rattle.refusal.proofs.Passing.{number-some}

-- ---- guards that are combined one after another

guards-fold : (guards : List ℕ) (c r : ℕ) → FoldsTo (λ a g q. q ≡ bit_xor a g) c guards r → r ≡ bit_xor c (combined_guards guards)
guards-fold [] c r h = sym h ∙ sym (xor_zero_r c)
guards-fold (g ∷ guards) c r h =
    guards-fold guards h.0 r h.2 ∙ ap (λ (n : ℕ). bit_xor n (combined_guards guards)) h.1 ∙ xor_assoc c g (combined_guards guards)

pub guards_folded : (guards : List ℕ) (c r : ℕ) → c ≡ 0 → FoldsTo (λ a g q. q ≡ bit_xor a g) c guards r → r ≡ combined_guards guards
guards_folded guards c r e h = guards-fold guards c r h ∙ ap (λ (n : ℕ). bit_xor n (combined_guards guards)) e ∙ xor_zero_l (combined_guards guards)

-- ---- the answer, from the combination of the guards

-- refused exactly where their number is not 3 to 16
pub sound_quick : (n : ℕ) → 3 ≤ n → n ≤ 16 → quick_refusal n ≡ 0
unfolding quick_refusal
sound_quick n few many = rw (range_within 3 16 n few many)

pub quick_sound : (n : ℕ) → quick_refusal n ≡ 0 → (3 ≤ n) × (n ≤ 16)
unfolding quick_refusal
quick_sound n e = within_range 3 16 n (refuse-none (within 3 16 n) 0 0 e).0

pub quick-demanded : (n : ℕ) (holds : Bool) (told : ℕ) → holds ≡ within 3 16 n → told ≡ cond holds 0 1 → told ≡ quick_refusal n
unfolding quick_refusal
quick-demanded n holds told e t = t ∙ by_test holds ∙ ap (λ (b : Bool). refuse (not b) 1 0) e
  where
    by_test : (b : Bool) → cond b 0 1 ≡ refuse (not b) 1 0
    by_test true = refl
    by_test false = refl

pub few_refused : (n : ℕ) → n < 3 → quick_refusal n ≡ 1
unfolding quick_refusal
few_refused n h = rw (lt-leb 3 n h)

pub many_refused : (n : ℕ) → 16 < n → quick_refusal n ≡ 1
unfolding quick_refusal
many_refused n h = rw (lt-leb n 16 h) (by_test (leb 3 n))
  where
    by_test : (t : Bool) → refuse (not (t && false)) 1 0 ≡ 1
    by_test true = refl
    by_test false = refl

-- what guards are compared with
module _ (due : ℕ) (guards : List ℕ) where
  pub compared_refused : quick_refusal (length guards) ≢ 0 → compared_with due guards ≡ 0 ∷ quick_refusal (length guards) ∷ 0 ∷ 0 ∷ []
  unfolding compared_with
  compared_refused h = by_test (eqb (combined_guards guards) due)
    where
      by_test : (t : Bool) → answer (quick_refusal (length guards)) (cond t (0 ∷ 0 ∷ []) (1 ∷ combined_guards guards ∷ [])) ≡ 0 ∷ quick_refusal (length guards) ∷ 0 ∷ 0 ∷ []
      by_test true = answer_refused (quick_refusal (length guards)) (0 ∷ 0 ∷ []) h
      by_test false = answer_refused (quick_refusal (length guards)) (1 ∷ combined_guards guards ∷ []) h

  pub compared_fits : quick_refusal (length guards) ≡ 0 → combined_guards guards ≡ due → compared_with due guards ≡ 1 ∷ 0 ∷ 0 ∷ 0 ∷ []
  unfolding compared_with
  compared_fits sound e = rw (sound, eq-eqb (combined_guards guards) due e)

  pub compared_differs : quick_refusal (length guards) ≡ 0 → combined_guards guards ≢ due → compared_with due guards ≡ 1 ∷ 0 ∷ 1 ∷ combined_guards guards ∷ []
  unfolding compared_with
  compared_differs sound h = rw (sound, ne_eqb (combined_guards guards) due h)

-- what an answer says: a reason, or how what the guards combine to compares with what is due
module _ (due : ℕ) (guards : List ℕ) where
  pub compared_reason : (refusal : Refusal) → number refusal ≡ quick_refusal (length guards) → compared_numbers (Err refusal) ≡ compared_with due guards
  compared_reason refusal e = ap (λ (n : ℕ). 0 ∷ n ∷ 0 ∷ 0 ∷ []) e ∙ sym (compared_refused due guards (λ z. number-some refusal (e ∙ z)))

  pub compared-said : (all : ℕ) (said : Compared ℕ) → 0 ≡ quick_refusal (length guards) → all ≡ combined_guards guards
      → said ≡ cond (eqb all due) Fits (Differs all) → compared_numbers (Ok said) ≡ compared_with due guards
  compared-said all said e combined s = ap (λ (c : Compared ℕ). compared_numbers (Ok c)) s ∙ by_test (eqb all due) refl
    where
      by_test : (t : Bool) → eqb all due ≡ t → compared_numbers (Ok (cond t Fits (Differs all))) ≡ compared_with due guards
      by_test true q = sym (compared_fits due guards (sym e) (sym combined ∙ eqb-true all due q))
      by_test false q =
          ap (λ (g : ℕ). 1 ∷ 0 ∷ 1 ∷ g ∷ []) combined
          ∙ sym (compared_differs due guards (sym e) (λ same. false≢true (sym q ∙ eq-eqb all due (combined ∙ same))))

module _ (guards : List ℕ) where
  pub quick_refused : quick_refusal (length guards) ≢ 0 → quick_numbers guards ≡ 0 ∷ quick_refusal (length guards) ∷ 0 ∷ 0 ∷ []
  unfolding quick_numbers
  quick_refused = compared_refused 0 guards

  pub quick_fits : quick_refusal (length guards) ≡ 0 → combined_guards guards ≡ 0 → quick_numbers guards ≡ 1 ∷ 0 ∷ 0 ∷ 0 ∷ []
  unfolding quick_numbers
  quick_fits = compared_fits 0 guards

  pub quick_differs : quick_refusal (length guards) ≡ 0 → combined_guards guards ≢ 0 → quick_numbers guards ≡ 1 ∷ 0 ∷ 1 ∷ combined_guards guards ∷ []
  unfolding quick_numbers
  quick_differs = compared_differs 0 guards

  -- their combination is told where they fit too, as it is zero there
  pub quick_combination : quick_numbers guards ≡ answer (quick_refusal (length guards)) (cond (eqb (combined_guards guards) 0) 0 1 ∷ combined_guards guards ∷ [])
  unfolding quick_numbers compared_with
  quick_combination = ap (answer (quick_refusal (length guards))) (by_test (eqb (combined_guards guards) 0) refl)
    where
      by_test : (t : Bool) → eqb (combined_guards guards) 0 ≡ t → cond t (0 ∷ 0 ∷ []) (1 ∷ combined_guards guards ∷ []) ≡ cond t 0 1 ∷ combined_guards guards ∷ []
      by_test true e = ap (λ (c : ℕ). 0 ∷ c ∷ []) (sym (eqb-true (combined_guards guards) 0 e))
      by_test false e = refl
