-- A register put in front of a buffer of zeros.
-- Assumes nothing.
use mathlib.Core.Path.{◌≡◌, refl, sym, subst, ◌∙◌}
use mathlib.Core.List.{List, [], ◌∷◌}
use Prim.Native.Nat.{ℕ, zero, suc, ◌/◌, ◌%◌, ◌≤◌}
use native.Mathlib.Omega.{arith}
use borrow.Rule.Slice.PartMut.{put_mid, mid_len, same_len_mid}
use lib.ListN.{length, get_or, get_or-eq_default}
use Rattle.castagnoli_rows.specs.Folds.{Ready}
use Rattle.castagnoli_fold.specs.Heads.{head_of}

-- its bytes, the lowest first
abbrev bytes_of : ℕ → List ℕ
bytes_of r = r % 256 ∷ r / 256 % 256 ∷ r / 65536 % 256 ∷ r / 16777216 % 256 ∷ []

held : (r : ℕ) (w : List ℕ) → 8 ≤ length w → ((j : ℕ) → get_or w j 0 ≡ 0) → (j : ℕ) → get_or (put_mid 4 4 w (bytes_of r)) j 0 ≡ get_or (head_of r) j 0
held r [] h e j = absurd (omega arith)
held r (a ∷ []) h e j = absurd (omega arith)
held r (a ∷ b ∷ []) h e j = absurd (omega arith)
held r (a ∷ b ∷ c ∷ []) h e j = absurd (omega arith)
held r (a ∷ b ∷ c ∷ d ∷ []) h e j = absurd (omega arith)
held r (a ∷ b ∷ c ∷ d ∷ x ∷ []) h e j = absurd (omega arith)
held r (a ∷ b ∷ c ∷ d ∷ x ∷ y ∷ []) h e j = absurd (omega arith)
held r (a ∷ b ∷ c ∷ d ∷ x ∷ y ∷ z ∷ []) h e j = absurd (omega arith)
held r (a ∷ b ∷ c ∷ d ∷ x ∷ y ∷ z ∷ u ∷ w) h e zero = e 0
held r (a ∷ b ∷ c ∷ d ∷ x ∷ y ∷ z ∷ u ∷ w) h e (suc zero) = e 1
held r (a ∷ b ∷ c ∷ d ∷ x ∷ y ∷ z ∷ u ∷ w) h e (suc (suc zero)) = e 2
held r (a ∷ b ∷ c ∷ d ∷ x ∷ y ∷ z ∷ u ∷ w) h e (suc (suc (suc zero))) = e 3
held r (a ∷ b ∷ c ∷ d ∷ x ∷ y ∷ z ∷ u ∷ w) h e (suc (suc (suc (suc zero)))) = refl
held r (a ∷ b ∷ c ∷ d ∷ x ∷ y ∷ z ∷ u ∷ w) h e (suc (suc (suc (suc (suc zero))))) = refl
held r (a ∷ b ∷ c ∷ d ∷ x ∷ y ∷ z ∷ u ∷ w) h e (suc (suc (suc (suc (suc (suc zero)))))) = refl
held r (a ∷ b ∷ c ∷ d ∷ x ∷ y ∷ z ∷ u ∷ w) h e (suc (suc (suc (suc (suc (suc (suc zero))))))) = omega arith
held r (a ∷ b ∷ c ∷ d ∷ x ∷ y ∷ z ∷ u ∷ w) h e (suc (suc (suc (suc (suc (suc (suc (suc j)))))))) = e (suc (suc (suc (suc (suc (suc (suc (suc j))))))))

pub led : (r : ℕ) (w bytes : List ℕ) → length w ≡ 4544 → ((j : ℕ) → get_or w j 0 ≡ 0) → bytes ≡ bytes_of r → Ready 448 3648 (head_of r) (put_mid 4 4 w bytes)
led r w bytes long blank e =
    subst (λ (l : List ℕ). Ready 448 3648 (head_of r) (put_mid 4 4 w l)) (sym e)
    record {
      long = same_len_mid 4 4 w (bytes_of r) (sym (mid_len 4 8 w (omega arith))) ∙ long;
      front = λ j l. held r w (omega arith) blank j;
      back = λ j l. held r w (omega arith) blank j ∙ get_or-eq_default (head_of r) 0 {n = j} (omega arith);
    }
