-- Figures computed from the definitions: single words, blocks, pieces cut anywhere, and a stripe whose parity was not written. Assumes nothing.
use mathlib.Core.Path.{◌≡◌, refl}
use mathlib.Core.List.{List, [], ◌∷◌}
use Prim.Native.Nat.{ℕ, zero, suc, ◌+◌, ◌*◌, ◌/◌, ◌%◌}
use lib.ListN.{length, replicate}
use lib.Bits.{bit_xor}
use Rattle.xor.specs.Xors.{add_all, combination, xors}
use Rattle.checksum.specs.Checksum.{rotated, wrapped, taken, word, words, sums, checksum}
use Rattle.checksum.specs.Machine.{register_of, start, byte_step, advance}
use Rattle.checksum.specs.Many.{checksums_of}
use Rattle.checksum.specs.Weights.{weighted}

-- ---- one word and two: the bit that leaves at the top comes in at the bottom, and so does the carry

pub first-words : (checksum [] ≡ 0xFFFF) × (checksum (0x00 ∷ 0x00 ∷ []) ≡ 0xFFFF) × (checksum (0x00 ∷ 0x01 ∷ []) ≡ 0x0001)
    × (checksum (0x80 ∷ 0x00 ∷ []) ≡ 0x8000) × (checksum (0xFF ∷ 0xFF ∷ []) ≡ 0xFFFF) × (checksum (0xFF ∷ 0xFE ∷ []) ≡ 0xFFFE)
unfolding checksum sums words word taken rotated wrapped
first-words = (refl, refl, refl, refl, refl, refl)

pub two_words : (checksum (0x80 ∷ 0x00 ∷ 0x00 ∷ 0x00 ∷ []) ≡ 0x0001) × (checksum (0x00 ∷ 0x01 ∷ 0x00 ∷ 0x01 ∷ []) ≡ 0x0003)
    × (checksum (0x80 ∷ 0x00 ∷ 0x80 ∷ 0x00 ∷ []) ≡ 0x8001) × (checksum (0x12 ∷ 0x34 ∷ 0x56 ∷ 0x78 ∷ []) ≡ 0x7AE0)
unfolding checksum sums words word taken rotated wrapped
two_words = (refl, refl, refl, refl)

pub two_words-weighted : weighted (0x1234 ∷ 0x5678 ∷ []) ≡ 0x7AE0
unfolding weighted
two_words-weighted = refl

-- the digits from 1 to 8, and to 9, whose last byte has no pair
pub digits : (checksum (0x31 ∷ 0x32 ∷ 0x33 ∷ 0x34 ∷ 0x35 ∷ 0x36 ∷ 0x37 ∷ 0x38 ∷ []) ≡ 0xF806)
    × (checksum (0x31 ∷ 0x32 ∷ 0x33 ∷ 0x34 ∷ 0x35 ∷ 0x36 ∷ 0x37 ∷ 0x38 ∷ 0x39 ∷ []) ≡ 0xF806)
unfolding checksum sums words word taken rotated wrapped
digits = (refl, refl)

-- ---- blocks of 512 bytes: zeros, ones, and two that count

-- n bytes, from a place on: the byte at each place k
pub bytes_by : (ℕ → ℕ) → ℕ → ℕ → List ℕ
bytes_by f zero k = []
bytes_by f (suc n) k = f k ∷ bytes_by f n (suc k)

pub blocks : (checksum (replicate 512 0x00) ≡ 0xFFFF) × (checksum (replicate 512 0xFF) ≡ 0xFFFF)
    × (checksum (bytes_by (λ k. (k * 7 + 3) % 256) 512 0) ≡ 0x5830) × (checksum (bytes_by (λ k. k * k % 251) 512 0) ≡ 0xE354)
unfolding checksum sums words word taken rotated wrapped bytes_by
blocks = (refl, refl, refl, refl)

-- ---- pieces: the bytes of two words, cut after one and after three; a byte that waits is replaced where the position is even

pub pieces : (advance 0 start (0x12 ∷ []) ≡ register_of 0xFFFF 0x12) × (advance 1 (register_of 0xFFFF 0x12) (0x34 ∷ 0x56 ∷ []) ≡ register_of 0x1234 0x56)
    × (advance 3 (register_of 0x1234 0x56) (0x78 ∷ []) ≡ register_of 0x7AE0 0) × (advance 4 (register_of 0x7AE0 0x99) (0x11 ∷ []) ≡ register_of 0x7AE0 0x11)
unfolding advance byte_step word taken rotated wrapped
pieces = (refl, refl, refl, refl)

-- ---- runs: the second begins two bytes on, the third has none

pub runs : checksums_of 3 2 (0x12 ∷ 0x34 ∷ 0x56 ∷ 0x78 ∷ []) ≡ 0x7AE0 ∷ 0x5678 ∷ 0xFFFF ∷ []
unfolding checksums_of checksum sums words word taken rotated wrapped
runs = refl

-- ---- a stripe of four blocks and their parity, five four-bit words each, summed without rotation

-- Four-bit words as bytes whose checksum is that sum four times over: each word stands four times in sixteen bits, after it was rotated back by
-- as many bits as words follow it.
pub back : ℕ → ℕ → ℕ
back zero n = n
back (suc k) n = back k (n % 2 * 8 + n / 2)

pub spread : List ℕ → List ℕ
spread [] = []
spread (n ∷ ns) = 0x11 * back (length ns) n ∷ 0x11 * back (length ns) n ∷ spread ns

abbrev first : List ℕ
first = spread (0x9 ∷ 0x0 ∷ 0x8 ∷ 0x6 ∷ 0x1 ∷ [])

abbrev second : List ℕ
second = spread (0x4 ∷ 0xF ∷ 0xF ∷ 0x1 ∷ 0x5 ∷ [])

abbrev third : List ℕ
third = spread (0x8 ∷ 0xA ∷ 0xB ∷ 0x0 ∷ 0xD ∷ [])

abbrev fourth : List ℕ
fourth = spread (0xC ∷ 0x3 ∷ 0x2 ∷ 0x7 ∷ 0x4 ∷ [])

abbrev parity : List ℕ
parity = spread (0x9 ∷ 0x6 ∷ 0xE ∷ 0x0 ∷ 0xD ∷ [])

pub stripe-parity : combination 10 (first ∷ second ∷ third ∷ fourth ∷ []) ≡ parity
unfolding add_all xors spread back
stripe-parity = refl

pub stripe-sums : (checksum first ≡ 0x9999) × (checksum second ≡ 0xAAAA) × (checksum third ≡ 0xCCCC) × (checksum fourth ≡ 0xDDDD)
    × (checksum parity ≡ 0xCCCC)
unfolding checksum sums words word taken rotated wrapped spread back
stripe-sums = (refl, refl, refl, refl, refl)

-- the guard that the parity's tag holds is not the parity's own
pub stripe-guards : bit_xor (bit_xor (bit_xor 0x9999 0xAAAA) 0xCCCC) 0xDDDD ≡ 0x2222
stripe-guards = refl

-- the first block written anew, and the parity that goes with it
abbrev first_anew : List ℕ
first_anew = spread (0x4 ∷ 0xA ∷ 0x8 ∷ 0x7 ∷ 0x3 ∷ [])

abbrev parity_anew : List ℕ
parity_anew = spread (0x4 ∷ 0xC ∷ 0xE ∷ 0x1 ∷ 0xF ∷ [])

pub anew_sums : (checksum first_anew ≡ 0x2222) × (checksum parity_anew ≡ 0x1111) × (bit_xor (bit_xor (bit_xor 0x2222 0xAAAA) 0xCCCC) 0xDDDD ≡ 0x9999)
unfolding checksum sums words word taken rotated wrapped spread back
anew_sums = (refl, refl, refl)

-- one of the two was written and not the other: the second block, rebuilt, is the same wrong block, and its checksum is not what the guards tell
abbrev wrong : List ℕ
wrong = spread (0x9 ∷ 0x5 ∷ 0xF ∷ 0x0 ∷ 0x7 ∷ [])

pub block_without_parity : (combination 10 (first_anew ∷ third ∷ fourth ∷ parity ∷ []) ≡ wrong)
    × (bit_xor (bit_xor (bit_xor 0x2222 0xCCCC) 0xDDDD) 0x2222 ≡ 0x1111) × (checksum wrong ≡ 0x6666)
unfolding add_all xors checksum sums words word taken rotated wrapped spread back
block_without_parity = (refl, refl, refl)

pub parity_without_block : (combination 10 (first ∷ third ∷ fourth ∷ parity_anew ∷ []) ≡ wrong)
    × (bit_xor (bit_xor (bit_xor 0x9999 0xCCCC) 0xDDDD) 0x9999 ≡ 0x1111)
unfolding add_all xors spread back
parity_without_block = (refl, refl)
