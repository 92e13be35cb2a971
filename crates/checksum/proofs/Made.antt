-- What a closure that stays as it is gives of each number: what `array::from_fn` made of it. Assumes nothing.
use mathlib.Core.Path.{◌≡◌, sym, subst}
use mathlib.Core.List.{List}
use Prim.Native.Nat.{ℕ, zero, suc, ◌+◌, ◌<◌}
use native.Mathlib.Nat.{not-suc-le-zero}
use native.Mathlib.Omega.{arith}
use lib.ListN.{get_or}
use denote.Param.Members.{Mut, Called}
use Rattle.std.specs.Array.{IsFromFnResultFrom}

pub each-made : {F : Type 0} (g : Mut F (ℕ × Unit {0}) ℕ) (Same : F → Type 0) (P : ℕ → ℕ → Type 0)
    → ((p : F) (i y : ℕ) (q : F) → Same p → Called g p (i, tt) y q → Same q × P i y)
    → (ys : List ℕ) (f : F) (i n : ℕ) → Same f → IsFromFnResultFrom g f ys i n → (k : ℕ) → k < n → P (i + k) (get_or ys (i + k) 0)
each-made g Same P step ys f i zero same made k h = absurd (not-suc-le-zero h)
each-made g Same P step ys f i (suc n) same made zero h =
    let (q, y, at, called, more) = made in
    let here : i ≡ i + 0 = omega arith in
    subst (λ (j : ℕ). P j (get_or ys j 0)) here (subst (P i) (sym (at.1 0)) (step f i y q same called).1)
each-made g Same P step ys f i (suc n) same made (suc k) h =
    let (q, y, at, called, more) = made in
    let there : i + 1 + k ≡ i + suc k = omega arith in
    subst (λ (j : ℕ). P j (get_or ys j 0)) there (each-made g Same P step ys q (i + 1) n (step f i y q same called).0 more k (omega arith))

pub all-made : {F : Type 0} (g : Mut F (ℕ × Unit {0}) ℕ) (Same : F → Type 0) (P : ℕ → ℕ → Type 0)
    → ((p : F) (i y : ℕ) (q : F) → Same p → Called g p (i, tt) y q → Same q × P i y)
    → (ys : List ℕ) (f : F) (n : ℕ) → Same f → IsFromFnResultFrom g f ys 0 n → (k : ℕ) → k < n → P k (get_or ys k 0)
all-made g Same P step ys f n same made k h =
    let here : 0 + k ≡ k = omega arith in
    subst (λ (j : ℕ). P j (get_or ys j 0)) here (each-made g Same P step ys f 0 n same made k h)
