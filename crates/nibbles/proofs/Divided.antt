-- A word divided without a table: every step goes through exclusive-or, so that the 64 single bits, computed, speak for all words.
-- Assumes nothing.
use mathlib.Core.Path.{◌≡◌, refl}
use Prim.Native.Nat.{ℕ, ◌%◌, ◌^◌, ◌<◌}
use lib.Bits.{bit_xor}
use Rattle.crc.specs.Crc.{feed, bits, bit_step}
use Rattle.words.specs.Words.{rest, act, same, low}
use Rattle.words.proofs.Linear.{Through, sum_through, next_through, act_linear, rest_linear, agree}
use Rattle.nibbles.specs.Nibbles.{nearer}
use Rattle.nibbles.specs.Quotients.{moving, quotient, multiple}

-- what is taken away from 40 bits, and what stays
abbrev away : ℕ → ℕ
away z = act multiple (act quotient z)

abbrev pub divided : ℕ → ℕ
divided z = bit_xor z (away z) % 2 ^ 16

divided_through : Through divided
divided_through =
    next_through (λ z. bit_xor z (away z)) (act (low 16 same))
    (sum_through (act same) away (act_linear same) (next_through (act quotient) (act multiple) (act_linear quotient) (act_linear multiple)))
    (act_linear (low 16 same))

pub leaves : (v : ℕ) → v < 2 ^ 64 → divided (act nearer (act moving v)) ≡ rest v
unfolding rest feed bits bit_step
leaves =
    agree (λ v. divided (act nearer (act moving v))) rest
    (next_through (λ v. act nearer (act moving v)) divided (next_through (act moving) (act nearer) (act_linear moving) (act_linear nearer)) divided_through)
    rest_linear 64 refl
