-- The lanes of a block. Its first 224 bytes are carried 226, 230 and 248 places on, so that its guard is that of the other 288: nine rows of
-- four words. A lane is a column of nine, each 256 bits before the next. Assumes nothing.
use Rattle.std.specs.Prelude.{◌≡◌, List, [], ◌∷◌, ◌++◌, ℕ, zero, suc, ◌+◌, ◌-◌, ◌*◌, ◌<◌, length, get_or, take, drop, replicate}
use Rattle.std.specs.Int.Bits.{bit_xor}
use Rattle.crc.specs.Guard.{run}
use Rattle.words.specs.Words.{rest, on}
use Rattle.words.specs.Steps.{quad}
use Rattle.fold.specs.Reading.{piece}

-- what a column comes to
unfoldable pub column : List ℕ → ℕ
column [] = 0
column (x ∷ l) = bit_xor (on (256 * length l) x) (column l)

-- the first 224 bytes of b, from the place d of 288 on
unfoldable pub carry : ℕ → List ℕ → List ℕ
carry d b = replicate d 0 ++ (take 224 b ++ replicate (64 - d) 0)

-- what a register adds to the first word of lane l
abbrev pub firstly : ℕ → ℕ → ℕ
firstly r zero = bit_xor (on 16 r) (on 48 r)
firstly r (suc zero) = 0
firstly r (suc (suc zero)) = 0
firstly r (suc (suc (suc l))) = on 64 r

-- what is carried to the word at the place q of 288
abbrev pub brought : List ℕ → ℕ → ℕ
brought b q = bit_xor (bit_xor (piece (carry 24 b) q) (piece (carry 6 b) q)) (piece (carry 2 b) q)

-- the word of b at i, and the three that are carried there, the first of them from q
abbrev pub four : List ℕ → ℕ → ℕ → ℕ
four b i q = bit_xor (bit_xor (bit_xor (piece b i) (piece b q)) (piece b (q + 18))) (piece b (q + 22))

-- the nine words of a lane
unfoldable pub nine : ℕ → ℕ → List ℕ → ℕ → List ℕ
nine first last b p =
    bit_xor (piece b (p + 224)) first ∷ four b (p + 256) (p + 8) ∷ four b (p + 288) (p + 40) ∷ four b (p + 320) (p + 72) ∷ four b (p + 352) (p + 104)
    ∷ four b (p + 384) (p + 136) ∷ four b (p + 416) (p + 168) ∷ bit_xor (piece b (p + 448)) last ∷ piece b (p + 480) ∷ []

-- out has the first n of the four lanes of a block
abbrev pub Laned : ℕ → List ℕ → List ℕ → ℕ → Type 0
Laned r b out n = (l : ℕ) → l < n → rest (get_or out l 0) ≡ column (nine (bit_xor (brought b (8 * l)) (firstly r l)) (brought b (224 + 8 * l)) b (8 * l))

-- of the runs a stride apart in b, the first n: out has their lanes, four words each, which come to their registers
abbrev pub Come : ℕ → ℕ → List ℕ → List (List ℕ) → ℕ → Type 0
Come r stride b out n =
    (k : ℕ) → k < n
    → quad (rest (get_or (get_or out k []) 0 0)) (rest (get_or (get_or out k []) 1 0)) (rest (get_or (get_or out k []) 2 0)) (rest (get_or (get_or out k []) 3 0)) ≡ run r (take 512 (drop (k * stride) b))
