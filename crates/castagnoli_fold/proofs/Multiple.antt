-- The sum of powers that the fold rests on, computed.
-- Assumes nothing.
use mathlib.Core.Path.{◌≡◌, refl}
use mathlib.Core.List.{[], ◌∷◌}
use Prim.Native.Nat.{◌*◌}
use Rattle.castagnoli.specs.Reflected.{feed_down, step_down}
use Rattle.castagnoli_words.specs.Words.{on, ons}
use Rattle.castagnoli_words.proofs.Moves.{one, powers, last_power}
use Rattle.castagnoli_rows.proofs.Folding.{eights}

-- x ^ 3584 = x ^ 1840 + x ^ 1648 + x ^ 1288 + x ^ 160 + x ^ 32; by the distances of the exponents
sum : powers (32 ∷ 128 ∷ 1128 ∷ 360 ∷ 192 ∷ 1744 ∷ []) ≡ 0
unfolding powers on feed_down step_down
sum = refl

pub wide : on (8 * 448) one ≡ ons (eights (4 ∷ 20 ∷ 161 ∷ 206 ∷ 230 ∷ [])) one
wide = last_power (32 ∷ 128 ∷ 1128 ∷ 360 ∷ 192 ∷ 1744 ∷ []) (eights (4 ∷ 20 ∷ 161 ∷ 206 ∷ 230 ∷ [])) (8 * 448) refl sum
