-- Each step of the code is sparse: the two sums of powers of x are computed, and the law of Sparse.antt does the rest.
-- Assumes nothing.
use mathlib.Core.Path.{◌≡◌, refl}
use Prim.Native.Nat.{ℕ, ◌^◌, ◌<◌}
use lib.Dec.{lit≤}
use lib.Bits.{bit_xor}
use Rattle.crc.specs.Crc.{feed, bit_step}
use Rattle.words.specs.Words.{rest, on, after, act}
use Rattle.words.specs.Steps.{by_word, by_two_words, by_row, by_two_rows, by_four_rows, by_six_rows}
use Rattle.words.proofs.Sparse.{sparse}

pub word_on : (v w : ℕ) → v < 2 ^ 64 → rest (bit_xor (act by_word v) w) ≡ after 64 (rest v) (rest w)
unfolding on feed bit_step
word_on = sparse by_word 37 64 (lit≤ tt) refl refl refl

pub two_words-on : (v w : ℕ) → v < 2 ^ 64 → rest (bit_xor (act by_two_words v) w) ≡ after 128 (rest v) (rest w)
unfolding on feed bit_step
two_words-on = sparse by_two_words 47 128 (lit≤ tt) refl refl refl

pub row_on : (v w : ℕ) → v < 2 ^ 64 → rest (bit_xor (act by_row v) w) ≡ after 256 (rest v) (rest w)
unfolding on feed bit_step
row_on = sparse by_row 34 256 (lit≤ tt) refl refl refl

pub two_rows_on : (v w : ℕ) → v < 2 ^ 64 → rest (bit_xor (act by_two_rows v) w) ≡ after 512 (rest v) (rest w)
unfolding on feed bit_step
two_rows_on = sparse by_two_rows 23 512 (lit≤ tt) refl refl refl

pub four_rows_on : (v w : ℕ) → v < 2 ^ 64 → rest (bit_xor (act by_four_rows v) w) ≡ after 1024 (rest v) (rest w)
unfolding on feed bit_step
four_rows_on = sparse by_four_rows 36 1024 (lit≤ tt) refl refl refl

pub six_rows_on : (v w : ℕ) → v < 2 ^ 64 → rest (bit_xor (act by_six_rows v) w) ≡ after 1536 (rest v) (rest w)
unfolding on feed bit_step
six_rows_on = sparse by_six_rows 43 1536 (lit≤ tt) refl refl refl

-- all of them, by which the check proves the steps of the code
pub ruleset steps = (word_on, two_words-on, row_on, two_rows_on, four_rows_on, six_rows_on)
