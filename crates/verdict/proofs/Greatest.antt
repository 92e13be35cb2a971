-- The greatest of some numbers, which is zero exactly where all are. Assumes nothing.
use mathlib.Core.Path.{◌≡◌, refl, sym, ap, ◌∙◌}
use mathlib.Core.Bool.{Bool, true, not}
use mathlib.Core.List.{List, [], ◌∷◌}
use Prim.Native.Nat.{ℕ, zero, suc, max}
use native.Mathlib.Omega.{arith}
use borrow.Author.Tests.{ne_eqb}
use lib.Dec.{eqb}
use Rattle.std.specs.List.{fold}
use Rattle.verdict.specs.Verdicts.{count, nonzero}

unfoldable pub greatest : List ℕ → ℕ
greatest [] = 0
greatest (x ∷ xs) = max x (greatest xs)

-- it is zero where no number differs from zero
pub greatest-zero : (bytes : List ℕ) → eqb (greatest bytes) 0 ≡ eqb (count (nonzero bytes)) 0
unfolding nonzero greatest
greatest-zero [] = refl
greatest-zero (zero ∷ bytes) = let e : max 0 (greatest bytes) ≡ greatest bytes = omega arith in ap (λ (n : ℕ). eqb n 0) e ∙ greatest-zero bytes
greatest-zero (suc x ∷ bytes) =
    let differs : not (eqb (suc x) 0) ≡ true = ap not (ne_eqb (suc x) 0 (λ e. omega arith)) in
    let some : count (nonzero (suc x ∷ bytes)) ≡ suc (count (nonzero bytes)) = ap (λ (f : Bool). count (f ∷ nonzero bytes)) differs in
    ne_eqb (max (suc x) (greatest bytes)) 0 (λ e. omega arith) ∙ sym (ne_eqb (count (nonzero (suc x ∷ bytes))) 0 (λ e. omega (arith, some, e)))

-- as it is found, from the first number on
pub greatest-fold : (bytes : List ℕ) (g : ℕ) → fold max g bytes ≡ max g (greatest bytes)
unfolding greatest
greatest-fold [] g = omega arith
greatest-fold (x ∷ bytes) g = greatest-fold bytes (max g x) ∙ omega arith

pub none-greater : (bytes : List ℕ) → eqb (fold max 0 bytes) 0 ≡ eqb (count (nonzero bytes)) 0
none-greater bytes =
    let e : fold max 0 bytes ≡ greatest bytes = greatest-fold bytes 0 ∙ omega arith in
    ap (λ (n : ℕ). eqb n 0) e ∙ greatest-zero bytes
