-- Steps of the code, for the contracts of the fold that castagnoli_fold uses too: no promise of `advance`, `crc32c` or `guards` rests on these
-- definitions.
-- A fold takes the first m of m + n bytes away. As they are when they are taken they stand in a buffer, n places on; and each byte of the m + n is
-- met by those that stand at some places of the buffer, counted from its own. Before them stands a head, and after them zeros. Assumes nothing.
use Rattle.std.specs.Prelude.{◌≡◌, Bool, true, ◌&&◌, leb, ltb, List, [], ◌∷◌, ℕ, ◌+◌, ◌-◌, ◌%◌, ◌≤◌, ◌<◌, length, get_or}
use Rattle.std.specs.Int.Bits.{bit_xor}

-- x, and what w holds at each of the places from k on, added
abbrev pub mix : List ℕ → ℕ → List ℕ → ℕ → ℕ
mix [] x w k = x
mix (e ∷ es) x w k = mix es (bit_xor x (get_or w (k + e) 0)) w k

-- no place is past z
abbrev pub no_further : ℕ → List ℕ → Bool
no_further z [] = true
no_further z (e ∷ es) = leb e z && no_further z es

-- each place is below r
abbrev pub all_below : ℕ → List ℕ → Bool
all_below r [] = true
all_below r (e ∷ es) = ltb e r && all_below r es

-- the sizes of a fold of places below r: chunks of c bytes, which meet none of each other, come to m, and b and w are as long as they are to be
pub record Fit (r c n m : ℕ) (b w : List ℕ) : Type 0 where
  pub some : 0 < c
  pub whole : m % c ≡ 0
  pub apart : r - 1 + c ≤ n
  pub bytes : length b ≡ m + n
  pub buffer : length w ≡ n + m + n

-- b has n bytes after its first m, and w has all that meets them
pub record Room (r n m : ℕ) (b w : List ℕ) : Type 0 where
  pub bytes : m + n ≤ length b
  pub buffer : m + n + (r - 1) ≤ length w

-- a buffer with the head in front, filled up with zeros, and zeros at the end
pub record Ready (n m : ℕ) (head w : List ℕ) : Type 0 where
  pub long : length w ≡ n + m + n
  pub front : (j : ℕ) → j < n → get_or w j 0 ≡ get_or head j 0
  pub back : (j : ℕ) → n + m ≤ j → get_or w j 0 ≡ 0

-- c bytes of b, from i on, were taken away: w is u now, which has them n places on
pub record Chunk (es : List ℕ) (c n : ℕ) (b : List ℕ) (i : ℕ) (w u : List ℕ) : Type 0 where
  pub long : length u ≡ length w
  pub before : (j : ℕ) → j < i + n → get_or u j 0 ≡ get_or w j 0
  pub after : (j : ℕ) → i + n + c ≤ j → get_or u j 0 ≡ get_or w j 0
  pub made : (k : ℕ) → k < c → get_or u (i + n + k) 0 ≡ mix es (get_or b (i + k) 0) w (i + k)

-- the first i bytes of b were taken away
pub record Taken (es : List ℕ) (n m : ℕ) (head b w : List ℕ) (i : ℕ) : Type 0 where
  pub ready : Ready n m head w
  pub made : (k : ℕ) → k < i → get_or w (n + k) 0 ≡ mix es (get_or b k 0) w k

-- the n bytes of b after the first m, with what meets them
abbrev pub Tail : List ℕ → ℕ → ℕ → List ℕ → List ℕ → List ℕ → Type 0
Tail es n m b w t = (k : ℕ) → k < n → get_or t k 0 ≡ mix es (get_or b (m + k) 0) w (m + k)
