-- Each step of the code is sparse: its two sums of powers of x are computed, and the law of Sparse.antt does the rest.
-- Assumes nothing.
use mathlib.Core.Path.{◌≡◌, refl}
use mathlib.Core.List.{List, [], ◌∷◌}
use Prim.Native.Nat.{ℕ, ◌*◌, ◌/◌, ◌%◌, ◌^◌, ◌<◌}
use lib.Dec.{lit≤}
use lib.Bits.{bit_xor}
use Rattle.castagnoli.specs.Reflected.{feed_down, step_down}
use Rattle.castagnoli_words.specs.Words.{rest, on, after, ons, downs}
use Rattle.castagnoli_words.proofs.Sparse.{sparse}

-- the words that a step adds up: both parts of a word cut at i + j = 64, then the low part, then the high one
abbrev summed : ℕ → ℕ → List ℕ → List ℕ → List ℕ → ℕ → ℕ → ℕ
summed i j us hs ls v w =
    let h = v * 2 ^ j % 2 ^ 64 in
    let l = v / 2 ^ i * 2 ^ i % 2 ^ 64 in
    downs (downs (downs w us (bit_xor h l)) hs h) ls l

abbrev pub by_word : ℕ → ℕ → ℕ
by_word =
    summed 29 35 (2 ∷ 5 ∷ 10 ∷ 14 ∷ 17 ∷ 23 ∷ 28 ∷ 29 ∷ []) (12 ∷ 13 ∷ 20 ∷ 33 ∷ 35 ∷ [])
    (1 ∷ 4 ∷ 6 ∷ 8 ∷ 16 ∷ 19 ∷ 21 ∷ 25 ∷ 27 ∷ [])

abbrev pub by_two_words : ℕ → ℕ → ℕ
by_two_words =
    summed 29 35 (4 ∷ 11 ∷ 17 ∷ 18 ∷ 20 ∷ []) (0 ∷ 1 ∷ 2 ∷ 5 ∷ 24 ∷ 25 ∷ 29 ∷ 31 ∷ [])
    (3 ∷ 8 ∷ 10 ∷ 12 ∷ 16 ∷ 22 ∷ 27 ∷ 28 ∷ [])

abbrev pub by_row : ℕ → ℕ → ℕ
by_row =
    summed 31 33 (1 ∷ 14 ∷ 16 ∷ 23 ∷ 24 ∷ 28 ∷ 30 ∷ []) (4 ∷ 5 ∷ 6 ∷ 11 ∷ 18 ∷ 20 ∷ 29 ∷ 32 ∷ [])
    (3 ∷ 7 ∷ 12 ∷ 17 ∷ 21 ∷ 27 ∷ [])

pub word_on : (v w : ℕ) → v < 2 ^ 64 → rest (by_word v w) ≡ after 64 (rest v) (rest w)
unfolding on ons feed_down step_down
word_on v w h =
    sparse 29 35 refl v h 29 64 (2 ∷ 5 ∷ 10 ∷ 14 ∷ 17 ∷ 23 ∷ 28 ∷ 29 ∷ []) (12 ∷ 13 ∷ 20 ∷ 33 ∷ 35 ∷ [])
    (1 ∷ 4 ∷ 6 ∷ 8 ∷ 16 ∷ 19 ∷ 21 ∷ 25 ∷ 27 ∷ []) (lit≤ tt) (lit≤ tt) refl refl refl refl refl w

pub two_words-on : (v w : ℕ) → v < 2 ^ 64 → rest (by_two_words v w) ≡ after 128 (rest v) (rest w)
unfolding on ons feed_down step_down
two_words-on v w h =
    sparse 29 35 refl v h 29 128 (4 ∷ 11 ∷ 17 ∷ 18 ∷ 20 ∷ []) (0 ∷ 1 ∷ 2 ∷ 5 ∷ 24 ∷ 25 ∷ 29 ∷ 31 ∷ [])
    (3 ∷ 8 ∷ 10 ∷ 12 ∷ 16 ∷ 22 ∷ 27 ∷ 28 ∷ []) (lit≤ tt) (lit≤ tt) refl refl refl refl refl w

pub row_on : (v w : ℕ) → v < 2 ^ 64 → rest (by_row v w) ≡ after 256 (rest v) (rest w)
unfolding on ons feed_down step_down
row_on v w h =
    sparse 31 33 refl v h 31 256 (1 ∷ 14 ∷ 16 ∷ 23 ∷ 24 ∷ 28 ∷ 30 ∷ []) (4 ∷ 5 ∷ 6 ∷ 11 ∷ 18 ∷ 20 ∷ 29 ∷ 32 ∷ [])
    (3 ∷ 7 ∷ 12 ∷ 17 ∷ 21 ∷ 27 ∷ []) (lit≤ tt) (lit≤ tt) refl refl refl refl refl w

-- all of them, by which the check proves the steps of the code
pub ruleset steps = (word_on, two_words-on, row_on)
