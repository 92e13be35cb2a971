-- A column keeps what it comes to where its first register is moved on and added further down: so in any order of the places.
-- Assumes nothing.
use mathlib.Core.Path.{◌≡◌, refl, sym, ap, ap₂, subst, ◌∙◌}
use mathlib.Core.List.{List, [], ◌∷◌}
use Prim.Native.Nat.{ℕ, zero, suc, ◌+◌, ◌-◌, ◌*◌, ◌<◌}
use native.Mathlib.Nat.{not-suc-le-zero, le_of_suc-le-suc}
use native.Mathlib.Omega.{arith}
use lib.ListN.{length}
use lib.Bits.{bit_xor, xor_comm, xor_zero_r}
use Rattle.xor.proofs.Bits.{xor_assoc}
use Rattle.crc.specs.Crc.{feed}
use Rattle.words.specs.Words.{on}
use Rattle.fold.specs.Columns.{column}
use Rattle.words.proofs.Linear.{on_linear, on-on}

-- l with x added at the place a
unfoldable pub add_at : ℕ → ℕ → List ℕ → List ℕ
add_at a x [] = []
add_at zero x (y ∷ l) = bit_xor x y ∷ l
add_at (suc a) x (y ∷ l) = y ∷ add_at a x l

-- the first of a column is taken away and added at a place further on: place after place
unfoldable pub folds : List ℕ → List ℕ → List ℕ
folds [] l = l
folds (k ∷ ks) [] = []
folds (k ∷ ks) (x ∷ l) = folds ks (add_at k (on (256 * suc k) x) l)

length_at : (k z : ℕ) (l : List ℕ) → length (add_at k z l) ≡ length l
unfolding add_at
length_at k z [] = refl
length_at zero z (y ∷ l) = refl
length_at (suc k) z (y ∷ l) = ap suc (length_at k z l)

added : (k z : ℕ) (l : List ℕ) → k < length l → column (add_at k z l) ≡ bit_xor (on (256 * (length l - suc k)) z) (column l)
unfolding add_at column
added k z [] h = absurd (not-suc-le-zero h)
added zero z (y ∷ l) h =
    let e : length l ≡ suc (length l) - 1 = omega arith in
    ap (λ (x : ℕ). bit_xor x (column l)) (on_linear (256 * length l) z y)
    ∙ xor_assoc (on (256 * length l) z) (on (256 * length l) y) (column l)
    ∙ ap (λ (n : ℕ). bit_xor (on (256 * n) z) (column (y ∷ l))) e
added (suc k) z (y ∷ l) h =
    let e : length l - suc k ≡ suc (length l) - suc (suc k) = omega arith in
    let a = on (256 * length l) y in
    let m = on (256 * (length l - suc k)) z in
    ap₂ (λ (n x : ℕ). bit_xor (on (256 * n) y) x) (length_at k z l) (added k z l (le_of_suc-le-suc h))
    ∙ sym (xor_assoc a m (column l)) ∙ ap (λ (x : ℕ). bit_xor x (column l)) (xor_comm a m) ∙ xor_assoc m a (column l)
    ∙ ap (λ (n : ℕ). bit_xor (on (256 * n) z) (column (y ∷ l))) e

taken : (k x : ℕ) (l : List ℕ) → k < length l → column (x ∷ l) ≡ column (add_at k (on (256 * suc k) x) l)
unfolding column
taken k x l h =
    let e : 256 * suc k + 256 * (length l - suc k) ≡ 256 * length l = omega arith in
    sym (added k (on (256 * suc k) x) l h ∙ ap (λ (y : ℕ). bit_xor y (column l)) (on-on (256 * suc k) (256 * (length l - suc k)) x ∙ ap (λ (s : ℕ). on s x) e))

-- each place is within what is left of a column of n
abbrev pub Within : List ℕ → ℕ → Type 0
Within [] n = Unit {0}
Within (k ∷ ks) zero = Unit {0}
Within (k ∷ ks) (suc n) = (k < n) × Within ks n

same-within : (ks : List ℕ) (m n : ℕ) → m ≡ n → Within ks m → Within ks n
same-within ks m n e w = subst (λ (x : ℕ). Within ks x) e w

pub folded : (ks l : List ℕ) → Within ks (length l) → column l ≡ column (folds ks l)
unfolding folds
folded [] l w = refl
folded (k ∷ ks) [] w = refl
folded (k ∷ ks) (x ∷ l) w =
    taken k x l w.0
    ∙ folded ks (add_at k (on (256 * suc k) x) l) (same-within ks (length l) (length (add_at k (on (256 * suc k) x) l)) (sym (length_at k (on (256 * suc k) x) l)) w.1)

-- a column of one
pub single : (x : ℕ) → column (x ∷ []) ≡ x
unfolding column on feed
single x = xor_zero_r x
