-- Worked figures of the record: how an entry stands in it, which entries fit, and the order of the refusals. Assumes nothing.
use mathlib.Core.Path.{◌≡◌, refl}
use mathlib.Core.Bool.{true, false}
use mathlib.Core.List.{List, [], ◌∷◌}
use Prim.Native.Nat.{ℕ}
use lib.ListN.{take, replicate}
use Rattle.tag.specs.Numbers.{number_of, bytes_of}
use Rattle.stripe.specs.Tables.{span}
use Rattle.intent.specs.Records.{entries, written, entered, struck, entries_fit}

-- stripe 0 is entered as one, in eight bytes, the highest first; stripe 513 beside it
pub entry_stands : (bytes_of 8 1 ≡ 0 ∷ 0 ∷ 0 ∷ 0 ∷ 0 ∷ 0 ∷ 0 ∷ 1 ∷ []) × (bytes_of 8 514 ≡ 0 ∷ 0 ∷ 0 ∷ 0 ∷ 0 ∷ 0 ∷ 2 ∷ 2 ∷ [])
    × (number_of (0 ∷ 0 ∷ 0 ∷ 0 ∷ 0 ∷ 0 ∷ 2 ∷ 2 ∷ []) ≡ 514)
unfolding bytes_of number_of
entry_stands = (refl, refl, refl)

-- of two stripes: free entries, each named once; named twice; one past the end
pub which_fit : (entries_fit 2 (0 ∷ 2 ∷ 0 ∷ 1 ∷ []) ≡ true) × (entries_fit 2 (2 ∷ 0 ∷ 2 ∷ []) ≡ false) × (entries_fit 2 (0 ∷ 3 ∷ []) ≡ false)
unfolding entries_fit
which_fit = (refl, refl, refl)

-- an empty record; stripe 6 entered in it and then stripe 0, which go to the first places; stripe 6 struck out, and stripe 4 in its place
unfoldable pub empty : List ℕ
empty = replicate 512 0

pub first_free : take 16 (entered 0 (entered 6 empty)) ≡ 0 ∷ 0 ∷ 0 ∷ 0 ∷ 0 ∷ 0 ∷ 0 ∷ 7 ∷ 0 ∷ 0 ∷ 0 ∷ 0 ∷ 0 ∷ 0 ∷ 0 ∷ 1 ∷ []
unfolding empty entries written bytes_of number_of span
first_free = refl

pub used_again : take 16 (entered 4 (struck 6 (entered 0 (entered 6 empty)))) ≡ 0 ∷ 0 ∷ 0 ∷ 0 ∷ 0 ∷ 0 ∷ 0 ∷ 5 ∷ 0 ∷ 0 ∷ 0 ∷ 0 ∷ 0 ∷ 0 ∷ 0 ∷ 1 ∷ []
unfolding empty entries written bytes_of number_of span
used_again = refl
