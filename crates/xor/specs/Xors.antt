-- The exclusive-or of byte runs, place by place. Assumes nothing.
use Rattle.std.specs.Prelude.{ℕ, List, [], ◌∷◌, replicate}
use Rattle.std.specs.Int.Bits.{bit_xor}

-- each element of b onto the element of a at its place; what of a has no partner stays, what of b has none is left out
unfoldable pub xors : List ℕ → List ℕ → List ℕ
xors [] b = []
xors (x ∷ a) [] = x ∷ a
xors (x ∷ a) (y ∷ b) = bit_xor x y ∷ xors a b

-- a with every run of the list added to it, one after the other
unfoldable pub add_all : List ℕ → List (List ℕ) → List ℕ
add_all a [] = a
add_all a (b ∷ bs) = add_all (xors a b) bs

-- the combination of runs, over n places: a run that ends early counts as zero from there on
abbrev pub combination : ℕ → List (List ℕ) → List ℕ
combination n runs = add_all (replicate n 0) runs
