-- Numbers that a reference tag cannot tell apart. Assumes nothing.
use Rattle.std.specs.Prelude.{◌≡◌, ◌⊎◌, ℕ, ◌+◌, ◌*◌}

-- two numbers that are the same or differ by a multiple of n
pub record Apart (n x y : ℕ) : Type 0 where
  pub times : ℕ
  pub either : (x ≡ y + times * n) ⊎ (y ≡ x + times * n)
