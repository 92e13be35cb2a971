-- Noticing is sharp: a change of thirty-three successive bits, the generator itself, is not noticed.
-- Assumes nothing.
use mathlib.Core.Path.{◌≡◌, refl, sym, ◌∙◌}
use mathlib.Core.Logic.{◌≢◌}
use mathlib.Core.List.{List, [], ◌∷◌}
use Prim.Native.Nat.{ℕ, zero, suc, ◌+◌, ◌≤◌, ◌<◌}
use native.Mathlib.Omega.{arith}
use lib.ListN.{get_or, get_or-eq_default}
use Rattle.crc.specs.Crc.{Within}
use Rattle.castagnoli.specs.Reflected.{bits_up, bits_up_of, step_down, feed_down}
use Rattle.castagnoli.specs.Castagnoli.{advance, crc32c}

-- the generator with its highest term, as the last thirty-three bits of five bytes; and zeros
pub changed : List ℕ
changed = 0x80 ∷ 0x78 ∷ 0x3B ∷ 0xF6 ∷ 0x82 ∷ []

pub unchanged : List ℕ
unchanged = 0 ∷ 0 ∷ 0 ∷ 0 ∷ 0 ∷ []

pub thirty_three-within : Within 33 (bits_up_of changed) (bits_up_of unchanged)
unfolding changed unchanged bits_up_of bits_up
thirty_three-within = record { from = 7; before = front; after = past }
  where
    front : (k : ℕ) → k < 7 → get_or (bits_up_of changed) k 0 ≡ get_or (bits_up_of unchanged) k 0
    front zero h = refl
    front (suc zero) h = refl
    front (suc (suc zero)) h = refl
    front (suc (suc (suc zero))) h = refl
    front (suc (suc (suc (suc zero)))) h = refl
    front (suc (suc (suc (suc (suc zero))))) h = refl
    front (suc (suc (suc (suc (suc (suc zero)))))) h = refl
    front (suc (suc (suc (suc (suc (suc (suc k))))))) h = absurd (omega arith)

    past : (k : ℕ) → 7 + 33 ≤ k → get_or (bits_up_of changed) k 0 ≡ get_or (bits_up_of unchanged) k 0
    past k h = get_or-eq_default (bits_up_of changed) 0 {n = k} h ∙ sym (get_or-eq_default (bits_up_of unchanged) 0 {n = k} h)

pub thirty_three_differ : changed ≢ unchanged
unfolding changed unchanged
thirty_three_differ e = let z : ◌≡◌ {A = ℕ} 0x80 0 = cc in omega arith

pub thirty_three_unnoticed : crc32c changed ≡ crc32c unchanged
unfolding changed unchanged crc32c advance feed_down bits_up_of bits_up step_down
thirty_three_unnoticed = refl
