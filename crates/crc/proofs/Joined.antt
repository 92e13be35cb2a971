-- The register after two runs, one after the other.
-- Assumes nothing.
use mathlib.Core.Path.{◌≡◌, refl, sym, ap, ◌∙◌}
use mathlib.Core.List.{List, [], ◌∷◌, ◌++◌, append_assoc}
use Prim.Native.Nat.{ℕ}
use Rattle.crc.specs.Crc.{feed, bits, bits_of, bit_step}
use Rattle.crc.specs.Guard.{generator, run}

pub feed-append : (w g r : ℕ) (a b : List ℕ) → feed w g r (a ++ b) ≡ feed w g (feed w g r a) b
unfolding feed
feed-append w g r [] b = refl
feed-append w g r (x ∷ a) b = feed-append w g (bit_step w g r x) a b

pub bits_of-append : (a b : List ℕ) → bits_of (a ++ b) ≡ bits_of a ++ bits_of b
unfolding bits_of
bits_of-append [] b = refl
bits_of-append (x ∷ a) b = ap (λ (l : List ℕ). bits 8 x ++ l) (bits_of-append a b) ∙ sym (append_assoc (bits 8 x) (bits_of a) (bits_of b))

-- over any width and generator
pub feed-joined : (w g r : ℕ) (a b : List ℕ) → feed w g r (bits_of (a ++ b)) ≡ feed w g (feed w g r (bits_of a)) (bits_of b)
feed-joined w g r a b = ap (feed w g r) (bits_of-append a b) ∙ feed-append w g r (bits_of a) (bits_of b)

pub run-joined : (r : ℕ) (a b : List ℕ) → run r (a ++ b) ≡ run (run r a) b
unfolding run
run-joined r a b = feed-joined 16 generator r a b

pub run-nil : (r : ℕ) → run r [] ≡ r
unfolding run feed bits_of
run-nil r = refl
