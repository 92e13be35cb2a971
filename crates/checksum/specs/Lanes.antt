-- The lanes in which the bytes of a block are added up: sixteen doublings are none modulo 65,535, so bytes 32 places apart weigh the same.
-- Assumes nothing.
use Rattle.std.specs.Prelude.{List, [], ◌∷◌, ℕ, zero, suc, ◌+◌, ◌*◌, get_or}

-- two numbers after one another, as two bytes would be, of any size
abbrev pub pair : ℕ → ℕ → ℕ
pair a b = a * 256 + b

-- a list of numbers in pairs; a last one by itself is in none
unfoldable pub pairs : List ℕ → List ℕ
pairs [] = []
pairs (a ∷ []) = []
pairs (a ∷ b ∷ l) = pair a b ∷ pairs l

-- n numbers of a lane, from a place on: each 32 places after the one before
unfoldable pub stack : ℕ → List ℕ → ℕ → ℕ
stack zero l k = 0
stack (suc n) l k = get_or l k 0 + stack n l (k + 32)

-- the lanes of a block, from lane k on
unfoldable pub lanes_of : ℕ → List ℕ → ℕ → List ℕ
lanes_of zero l k = []
lanes_of (suc n) l k = stack 16 l k ∷ lanes_of n l (suc k)
