-- Bytes stored behind those that an array already holds. Assumes nothing.
use mathlib.Core.Path.{◌≡◌, refl}
use mathlib.Core.List.{List, ◌++◌}
use Prim.Native.Nat.{ℕ, ◌+◌, ◌≤◌}
use native.Mathlib.Omega.{arith}
use lib.ListN.{length, take, drop}
use lib.Seq.{sets, sets-eq, take_at}

module _ (size : ℕ) (l h x : List ℕ) (long : length l ≡ size) (held : take (length h) l ≡ h) (room : length h + length x ≤ size) where
  pub stored : take (length (h ++ x)) (sets l (length h) x) ≡ h ++ x
  stored =
      let fits : length h + length x ≤ length l = omega arith in
      rw (sets-eq x l (length h) fits, held) (take_at (h ++ x) (drop (length h + length x) l) (length (h ++ x)) refl)

-- what was written at the start of a buffer can be read there
pub written-there : (out line : List ℕ) → length line ≤ length out → take (length line) (sets out 0 line) ≡ line
written-there out line h = rw (sets-eq line out 0 (omega arith)) (take_at line (drop (0 + length line) out) (length line) refl)
