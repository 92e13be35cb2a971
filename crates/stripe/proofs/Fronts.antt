-- The front of a lent list. Assumes nothing.
use mathlib.Core.Path.{◌≡◌, ap, ◌∙◌}
use mathlib.Core.List.{List}
use Prim.Native.Nat.{ℕ, ◌-◌}
use native.Mathlib.Omega.{arith}
use lib.ListN.{take}

-- the front of a list, lent as l[0..k]
pub lent-front : (whole l : List ℕ) (k n : ℕ) → k ≡ n → take n l ≡ whole → take (k - 0) l ≡ whole
lent-front whole l k n same e = let first : k - 0 ≡ n = omega arith in ap (λ (j : ℕ). take j l) first ∙ e
