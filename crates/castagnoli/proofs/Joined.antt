-- The register after two runs, one after the other.
-- Assumes nothing.
use mathlib.Core.Path.{◌≡◌, refl, sym, ap, ◌∙◌}
use mathlib.Core.List.{List, [], ◌∷◌, ◌++◌, append_assoc}
use Prim.Native.Nat.{ℕ}
use Rattle.castagnoli.specs.Reflected.{bits_up, bits_up_of, step_down, feed_down}
use Rattle.castagnoli.specs.Castagnoli.{generator, advance}

pub feed-append : (g r : ℕ) (a b : List ℕ) → feed_down g r (a ++ b) ≡ feed_down g (feed_down g r a) b
unfolding feed_down
feed-append g r [] b = refl
feed-append g r (x ∷ a) b = feed-append g (step_down g r x) a b

bits_up_of-append : (a b : List ℕ) → bits_up_of (a ++ b) ≡ bits_up_of a ++ bits_up_of b
unfolding bits_up_of
bits_up_of-append [] b = refl
bits_up_of-append (x ∷ a) b = ap (λ (l : List ℕ). bits_up 8 x ++ l) (bits_up_of-append a b) ∙ sym (append_assoc (bits_up 8 x) (bits_up_of a) (bits_up_of b))

pub advance-joined : (r : ℕ) (a b : List ℕ) → advance r (a ++ b) ≡ advance (advance r a) b
unfolding advance
advance-joined r a b = ap (feed_down generator r) (bits_up_of-append a b) ∙ feed-append generator r (bits_up_of a) (bits_up_of b)

pub advance-nil : (r : ℕ) → advance r [] ≡ r
unfolding advance feed_down bits_up_of
advance-nil r = refl
