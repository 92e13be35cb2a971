-- The order in which a lane joins its nine words keeps what they come to.
-- Assumes nothing.
use mathlib.Core.Path.{◌≡◌, sym, ◌∙◌}
use mathlib.Core.List.{List, [], ◌∷◌}
use Prim.Native.Nat.{ℕ}
use lib.Dec.{lit<}
use Rattle.words.specs.Words.{after}
use Rattle.fold.specs.Columns.{column}
use Rattle.fold.proofs.Folding.{add_at, folds, Within, folded, single}

-- each word in turn, and how many it passes over
order : List ℕ
order = 5 ∷ 5 ∷ 5 ∷ 3 ∷ 3 ∷ 0 ∷ 1 ∷ 0 ∷ []

within : Within order 9
unfolding order
within = (lit< tt, (lit< tt, (lit< tt, (lit< tt, (lit< tt, (lit< tt, (lit< tt, (lit< tt, tt))))))))

pub ordered : (a b c d e f g h i : ℕ)
    → after 256 (after 1024 d (after 1536 b h)) (after 512 (after 256 f (after 1536 a g)) (after 1024 e (after 1536 c i)))
    ≡ column (a ∷ b ∷ c ∷ d ∷ e ∷ f ∷ g ∷ h ∷ i ∷ [])
unfolding order folds add_at
ordered a b c d e f g h i =
    sym
    (folded order (a ∷ b ∷ c ∷ d ∷ e ∷ f ∷ g ∷ h ∷ i ∷ []) within
    ∙ single (after 256 (after 1024 d (after 1536 b h)) (after 512 (after 256 f (after 1536 a g)) (after 1024 e (after 1536 c i)))))
