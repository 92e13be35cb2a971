-- Laws of `add_all` and `combination`: many runs added one after the other.
-- Assumes nothing.
use mathlib.Core.Path.{◌≡◌, refl, sym, ap, ◌∙◌}
use mathlib.Core.List.{List, [], ◌∷◌, ◌++◌}
use Prim.Native.Nat.{ℕ, zero, suc, ◌<◌}
use native.Mathlib.Nat.{not-suc-le-zero, le_of_suc-le-suc}
use lib.ListN.{length, get_or, set, replicate, length-replicate}
use Rattle.xor.specs.Xors.{xors, add_all, combination}
use Rattle.xor.proofs.Lists.{length-xors, xors_swap, xors-twice, bytes-xors}

pub length-add_all : (a : List ℕ) (runs : List (List ℕ)) → length (add_all a runs) ≡ length a
unfolding add_all
length-add_all a [] = refl
length-add_all a (b ∷ runs) = length-add_all (xors a b) runs ∙ length-xors a b

pub length-combination : (n : ℕ) (runs : List (List ℕ)) → length (combination n runs) ≡ n
length-combination n runs = length-add_all (replicate n 0) runs ∙ length-replicate {A = ℕ} n 0

-- one run more, added before the others or after them
pub add_all_swap : (a b : List ℕ) (runs : List (List ℕ)) → add_all (xors a b) runs ≡ xors (add_all a runs) b
unfolding add_all
add_all_swap a b [] = refl
add_all_swap a b (c ∷ runs) = ap (λ (x : List ℕ). add_all x runs) (xors_swap a b c) ∙ add_all_swap (xors a c) b runs

pub add_all-append : (a : List ℕ) (runs more : List (List ℕ)) → add_all a (runs ++ more) ≡ add_all (add_all a runs) more
unfolding add_all
add_all-append a [] more = refl
add_all-append a (b ∷ runs) more = add_all-append (xors a b) runs more

-- a run replaced: the old one goes out, the new one comes in
pub add_all-set : (a : List ℕ) (runs : List (List ℕ)) (m : ℕ) (new : List ℕ) → m < length runs
    → add_all a (set runs m new) ≡ xors (xors (add_all a runs) (get_or runs m [])) new
unfolding add_all
add_all-set a [] m new h = absurd (not-suc-le-zero h)
add_all-set a (b ∷ runs) zero new h =
    add_all_swap a new runs ∙ ap (λ (x : List ℕ). xors x new) (sym (xors-twice (add_all a runs) b) ∙ ap (λ (x : List ℕ). xors x b) (sym (add_all_swap a b runs)))
add_all-set a (b ∷ runs) (suc m) new h = add_all-set (xors a b) runs m new (le_of_suc-le-suc h)

-- bytes added to bytes give bytes
pub bytes-add_all : (a : List ℕ) (runs : List (List ℕ)) → ((k : ℕ) → get_or a k 0 < 256) → ((i k : ℕ) → get_or (get_or runs i []) k 0 < 256)
    → (k : ℕ) → get_or (add_all a runs) k 0 < 256
unfolding add_all
bytes-add_all a [] ha h k = ha k
bytes-add_all a (b ∷ runs) ha h k = bytes-add_all (xors a b) runs (bytes-xors a b ha (h 0)) (λ i. h (suc i)) k
