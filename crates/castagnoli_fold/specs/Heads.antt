-- A register in front of a block that is folded: for the contracts of private functions. Assumes nothing.
use Rattle.std.specs.Prelude.{List, [], ◌∷◌, ℕ, ◌/◌, ◌%◌}

-- a register where only the first four bytes of the wide fold meet it, its low byte first
abbrev pub head_of : ℕ → List ℕ
head_of r = 0 ∷ 0 ∷ 0 ∷ 0 ∷ r % 256 ∷ r / 256 % 256 ∷ r / 65536 % 256 ∷ r / 65536 / 256 % 256 ∷ []
