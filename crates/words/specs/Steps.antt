-- The maps that the code applies to words. Each step moves a word on by some bits and keeps it within 64: v is high * x ^ k + low, and x ^ k
-- moved on and 1 moved on are sums of few low powers of x. Assumes nothing.
use Rattle.std.specs.Prelude.{ℕ}
use Rattle.words.specs.Words.{Map, same, up, down, low, plus, after}

-- the bits from the k-th on, those below it, and both added
abbrev pub upper : ℕ → Map
upper k = down k same

abbrev pub lower : ℕ → Map
lower k = low k same

abbrev pub both : ℕ → Map
both k = plus (upper k) (lower k)

-- by 64 bits
abbrev pub by_word : Map
by_word = plus (plus (plus (plus (plus (up 12 (both 37)) (up 26 (both 37))) (up 27 (both 37))) (up 33 (upper 37))) (up 35 (upper 37))) (up 3 (lower 37))

-- by 128 bits
abbrev pub by_two_words : Map
by_two_words = plus (plus (plus (plus (up 13 (both 47)) (up 15 (both 47))) (up 12 (upper 47))) (up 42 (upper 47))) (up 4 (lower 47))

-- by a row of four words, 256 bits
abbrev pub by_row : Map
by_row = plus (plus (plus (plus (plus (up 30 (both 34)) (up 2 (upper 34))) (up 25 (upper 34))) (up 34 (upper 34))) (up 8 (lower 34))) (up 26 (lower 34))

-- by two rows, 512 bits
abbrev pub by_two_rows : Map
by_two_rows =
    plus (plus (plus (plus (plus (plus (both 23) (up 16 (both 23))) (up 19 (both 23))) (up 14 (upper 23))) (up 23 (upper 23))) (up 8 (lower 23))) (up 24 (lower 23))

-- by four rows, 1024 bits
abbrev pub by_four_rows : Map
by_four_rows = plus (plus (plus (plus (plus (plus (upper 36) (up 1 (upper 36))) (up 35 (upper 36))) (up 4 (lower 36))) (up 6 (lower 36))) (up 16 (lower 36))) (up 25 (lower 36))

-- by six rows, 1536 bits
abbrev pub by_six_rows : Map
by_six_rows = plus (plus (plus (plus (up 3 (both 43)) (up 6 (both 43))) (upper 43)) (up 12 (lower 43))) (up 21 (lower 43))

-- a word with its bytes in the other order
abbrev pub turning : Map
turning =
    plus
    (plus
    (plus
    (plus (plus (plus (plus (down 56 same) (up 8 (low 8 (down 48 same)))) (up 16 (low 8 (down 40 same)))) (up 24 (low 8 (down 32 same)))) (up 32 (low 8 (down 24 same))))
    (up 40 (low 8 (down 16 same))))
    (up 48 (low 8 (down 8 same))))
    (up 56 (low 8 same))

-- what four words come to that stand 64 bits apart
abbrev pub quad : ℕ → ℕ → ℕ → ℕ → ℕ
quad x y z w = after 64 (after 128 x z) (after 128 y w)
