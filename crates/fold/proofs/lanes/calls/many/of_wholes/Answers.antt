-- `fold::lanes::calls::many::of_wholes` meets its contract.
-- Assumes nothing.
use mathlib.Core.Path.{◌≡◌, refl, ap, ◌∙◌}
use mathlib.Core.List.{List, [], ◌∷◌}
use Prim.Native.Nat.{ℕ}
use native.Mathlib.Omega.{arith}
use lib.ListN.{get_or}
use Rattle.crc.specs.Crc.{feed, bits, bit_step}
use Rattle.crc.specs.Guard.{guard}
use Rattle.words.specs.Words.{rest}
use Rattle.words.specs.Steps.{quad}
use Rattle.fold.proofs.Quads.{quad-none}
use Rattle.fold.proofs.lanes.calls.many.of_wholes.Goals as goal

-- nothing leaves nothing
rest_none : rest 0 ≡ 0
unfolding rest feed bits bit_step
rest_none = refl

-- where no lanes were stored, they come to nothing
none_behind : (v : List ℕ) → v ≡ 0 ∷ 0 ∷ 0 ∷ 0 ∷ [] → quad (rest (get_or v 0 0)) (rest (get_or v 1 0)) (rest (get_or v 2 0)) (rest (get_or v 3 0)) ≡ 0
none_behind v e =
    ap (λ (u : List ℕ). quad (rest (get_or u 0 0)) (rest (get_or u 1 0)) (rest (get_or u 2 0)) (rest (get_or u 3 0))) e
    ∙ ap (λ (x : ℕ). quad x x x x) rest_none ∙ quad-none

pub returns : goal.returns
unfolding guard
returns c =
    let few = c.requires.few in
    let lanes = c.columns.ensures in record {
      known = λ l h. c.ends.ensures l (omega arith) ∙ c.joins.ensures l (omega arith) ∙ lanes.come l h;
      behind = λ k h below. c.ends.ensures k below ∙ c.joins.ensures k below ∙ none_behind (get_or c.columns.result k []) (lanes.behind k h below);
    }
