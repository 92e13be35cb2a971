-- The end of a division without a table: a word is moved on by 16 bits and made 40, and as often as the generator goes into it, so often it is
-- taken away. The sums of powers of x by which that multiplies are written as products of short ones. Assumes nothing.
use Rattle.words.specs.Words.{Map, same, up, down, low, plus}
use Rattle.words.specs.Steps.{upper}

-- by 16 bits, within 64: x ^ 64 = x ^ 40 + x ^ 35 + x ^ 32 + x ^ 25
abbrev pub moving : Map
moving = plus (plus (plus (plus (up 16 same) (up 25 (upper 48))) (up 32 (upper 48))) (up 35 (upper 48))) (up 40 (upper 48))

-- the bits from the 16th on times (1 + x) (1 + x ^ 5)
abbrev raised : Map
raised = plus (plus (upper 16) (up 1 (upper 16))) (up 5 (plus (upper 16) (up 1 (upper 16))))

-- how often the generator goes into 40 bits: x ^ 40 divided by it is (1 + x) (1 + x ^ 5) times a sum of nine powers, x ^ 18 the highest
abbrev pub quotient : Map
quotient =
    low 16
    (plus
    (plus (plus (plus (plus (plus (plus (plus (down 24 raised) (down 22 raised)) (down 21 raised)) (down 19 raised)) (down 18 raised)) (down 14 raised)) (down 10 raised)) (down 8 raised))
    (down 6 raised))

-- times 1 + x ^ 7
abbrev some : Map
some = plus same (up 7 same)

-- times the generator, as far as its lowest 16 bits go
abbrev pub multiple : Map
multiple = plus (plus (plus (plus (plus (plus some (up 1 some)) (up 2 some)) (up 4 some)) (up 5 some)) (up 12 some)) (up 15 some)
