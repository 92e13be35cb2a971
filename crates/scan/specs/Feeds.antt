-- The calls that feed a stripe of whole blocks: in one piece a member, or in two, cut anywhere; and a finish. Assumes nothing.
use Rattle.std.specs.Prelude.{List, [], ◌∷◌, ◌++◌, ℕ, suc, take, drop}
use Rattle.scan.specs.History.{Call, piece, finish}

-- from a member on, one piece for each
abbrev pub fed : ℕ → List (List ℕ) → List Call
fed m [] = []
fed m (bytes ∷ pieces) = piece m bytes ∷ fed (suc m) pieces

-- each block up to its member's cut, and from there on
abbrev pub firsts : (ℕ → ℕ) → List (List ℕ) → List (List ℕ)
firsts cut [] = []
firsts cut (b ∷ blocks) = take (cut 0) b ∷ firsts (λ i. cut (suc i)) blocks

abbrev pub seconds : (ℕ → ℕ) → List (List ℕ) → List (List ℕ)
seconds cut [] = []
seconds cut (b ∷ blocks) = drop (cut 0) b ∷ seconds (λ i. cut (suc i)) blocks

-- the calls: whole blocks in member order, or all first parts and then all second parts; and a finish
abbrev pub wholes : List (List ℕ) → List Call
wholes blocks = fed 0 blocks ++ (finish ∷ [])

abbrev pub halves : (ℕ → ℕ) → List (List ℕ) → List Call
halves cut blocks = fed 0 (firsts cut blocks) ++ (fed 0 (seconds cut blocks) ++ (finish ∷ []))
