-- The sum of powers that the fold rests on, computed.
-- Assumes nothing.
use mathlib.Core.Path.{◌≡◌, refl}
use mathlib.Core.List.{[], ◌∷◌}
use Prim.Native.Nat.{◌*◌}
use Rattle.castagnoli.specs.Reflected.{feed_down, step_down}
use Rattle.castagnoli_words.specs.Words.{on, ons}
use Rattle.castagnoli_words.proofs.Moves.{one, powers, last_power}
use Rattle.castagnoli_rows.proofs.Folding.{eights}

-- x ^ 1024 = x ^ 448 + x ^ 416 + x ^ 384 + x ^ 336 + x ^ 296 + x ^ 264 + x ^ 184 + x ^ 176 + x ^ 104; by the distances of the exponents
sum : powers (104 ∷ 72 ∷ 8 ∷ 80 ∷ 32 ∷ 40 ∷ 48 ∷ 32 ∷ 32 ∷ 576 ∷ []) ≡ 0
unfolding powers on feed_down step_down
sum = refl

pub near : on (8 * 128) one ≡ ons (eights (13 ∷ 22 ∷ 23 ∷ 33 ∷ 37 ∷ 42 ∷ 48 ∷ 52 ∷ 56 ∷ [])) one
near = last_power (104 ∷ 72 ∷ 8 ∷ 80 ∷ 32 ∷ 40 ∷ 48 ∷ 32 ∷ 32 ∷ 576 ∷ []) (eights (13 ∷ 22 ∷ 23 ∷ 33 ∷ 37 ∷ 42 ∷ 48 ∷ 52 ∷ 56 ∷ [])) (8 * 128) refl sum
