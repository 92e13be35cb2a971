-- No flag holds; the first that does; the first byte that is not zero: what a verdict is proved to tell. Assumes nothing.
use Rattle.std.specs.Prelude.{◌≡◌, Bool, true, false, List, ◌≢◌, ℕ, ◌<◌, length, get_or}

-- no flag holds
abbrev pub NoFlag : List Bool → Type 0
NoFlag flags = (i : ℕ) → get_or flags i false ≡ false

-- the flag at a place holds, and none below it does
pub record First (flags : List Bool) (at : ℕ) : Type 0 where
  pub inside : at < length flags
  pub holds : get_or flags at false ≡ true
  pub none_below : (i : ℕ) → i < at → get_or flags i false ≡ false

-- the byte at a place is not zero, and each below it is
pub record FirstNonzero (bytes : List ℕ) (place : ℕ) : Type 0 where
  pub inside : place < length bytes
  pub not-zero : get_or bytes place 0 ≢ 0
  pub zero-below : (k : ℕ) → k < place → get_or bytes k 0 ≡ 0
