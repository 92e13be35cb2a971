-- The end of a division: a word made 40 bits, and ten tables of sixteen entries, one for each four bits. Assumes nothing.
use Rattle.std.specs.Prelude.{List, ℕ, zero, suc, ◌+◌, ◌*◌, ◌/◌, ◌%◌, ◌^◌, get_or}
use Rattle.std.specs.Int.Bits.{bit_xor}
use Rattle.table.specs.Tables.{entries}
use Rattle.words.specs.Words.{rest, Map, up, plus}
use Rattle.words.specs.Steps.{upper, lower}

-- a word whose bits from the 40th on are added further down, by x ^ 40 = x ^ 16 + x ^ 11 + x ^ 8 + x
abbrev pub nearer : Map
nearer = plus (plus (plus (plus (lower 40) (up 1 (upper 40))) (up 8 (upper 40))) (up 11 (upper 40))) (up 16 (upper 40))

-- what the four bits k % 16 leave at the place k / 16
unfoldable pub nibble : ℕ → ℕ
nibble k = rest (k % 16 * 2 ^ (4 * (k / 16)))

-- all of them
unfoldable pub nibbles : List ℕ
nibbles = entries nibble 0 160

-- the first n times four bits of u looked up, each in its sixteen entries of a table
unfoldable pub looked : ℕ → List ℕ → ℕ → ℕ
looked zero entries u = 0
looked (suc n) entries u = bit_xor (looked n entries u) (get_or entries (16 * n + u / 2 ^ (4 * n) % 16) 0)
