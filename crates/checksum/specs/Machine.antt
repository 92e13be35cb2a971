-- The checksum as a machine that takes a run of bytes in pieces, cut anywhere. Its register: the sum of the words so far, and the byte that
-- waits for its pair, zero where none waits. Assumes nothing.
use Rattle.std.specs.Prelude.{List, [], ◌∷◌, ◌++◌, ℕ, zero, suc, ◌+◌, ◌%◌, length}
use Rattle.checksum.specs.Checksum.{taken, word, first}
use Rattle.checksum.specs.declared.Register.{Register}

abbrev pub register_of : ℕ → ℕ → Register
register_of value waiting = record { value = value; waiting = waiting }

abbrev pub start : Register
start = register_of first 0

-- one byte, at a position's remainder by 2: at 0 it waits, whatever waited before; at 1 it is the pair of the one that waits
unfoldable pub byte_step : ℕ → Register → ℕ → Register
byte_step zero r b = register_of r.value (b % 256)
byte_step (suc odd) r b = register_of (taken r.value (word r.waiting b)) 0

-- some bytes, from a position on
unfoldable pub advance : ℕ → Register → List ℕ → Register
advance at r [] = r
advance at r (b ∷ bytes) = advance (suc at) (byte_step (at % 2) r b) bytes

-- the guard that a register gives: a byte that still waits does not count
abbrev pub guard_of : Register → ℕ
guard_of r = r.value

-- pieces, each from the position where the one before ended
unfoldable pub in_pieces : ℕ → Register → List (List ℕ) → Register
in_pieces at r [] = r
in_pieces at r (piece ∷ pieces) = in_pieces (at + length piece) (advance at r piece) pieces

-- lists as one
unfoldable pub joined : List (List ℕ) → List ℕ
joined [] = []
joined (l ∷ ls) = l ++ joined ls
