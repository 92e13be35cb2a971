-- Noticing is sharp: a change of seventeen successive bits, the generator itself, is not noticed.
-- Assumes nothing.
use mathlib.Core.Path.{◌≡◌, refl, sym, ◌∙◌}
use mathlib.Core.Logic.{◌≢◌}
use mathlib.Core.List.{List, [], ◌∷◌}
use Prim.Native.Nat.{ℕ, zero, suc, ◌+◌, ◌≤◌, ◌<◌}
use native.Mathlib.Omega.{arith}
use lib.ListN.{get_or, get_or-eq_default}
use Rattle.crc.specs.Crc.{feed, bits, bits_of, bit_step, Within}
use Rattle.crc.specs.Guard.{run, guard}

-- the generator with its highest term, as the last seventeen bits of three bytes; and zeros
pub changed : List ℕ
changed = 0x01 ∷ 0x8B ∷ 0xB7 ∷ []

pub unchanged : List ℕ
unchanged = 0 ∷ 0 ∷ 0 ∷ []

pub seventeen_within : Within 17 (bits_of changed) (bits_of unchanged)
unfolding changed unchanged bits_of bits
seventeen_within = record { from = 7; before = front; after = past }
  where
    front : (k : ℕ) → k < 7 → get_or (bits_of changed) k 0 ≡ get_or (bits_of unchanged) k 0
    front zero h = refl
    front (suc zero) h = refl
    front (suc (suc zero)) h = refl
    front (suc (suc (suc zero))) h = refl
    front (suc (suc (suc (suc zero)))) h = refl
    front (suc (suc (suc (suc (suc zero))))) h = refl
    front (suc (suc (suc (suc (suc (suc zero)))))) h = refl
    front (suc (suc (suc (suc (suc (suc (suc k))))))) h = absurd (omega arith)

    past : (k : ℕ) → 7 + 17 ≤ k → get_or (bits_of changed) k 0 ≡ get_or (bits_of unchanged) k 0
    past k h = get_or-eq_default (bits_of changed) 0 {n = k} h ∙ sym (get_or-eq_default (bits_of unchanged) 0 {n = k} h)

pub seventeen_differ : changed ≢ unchanged
unfolding changed unchanged
seventeen_differ e = let z : ◌≡◌ {A = ℕ} 1 0 = cc in omega arith

pub seventeen_unnoticed : guard changed ≡ guard unchanged
unfolding changed unchanged guard run feed bits_of bits bit_step
seventeen_unnoticed = refl
