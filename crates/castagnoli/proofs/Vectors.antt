-- The published vectors, those of RFC 3720 and the nine digits, computed from the definition.
-- Assumes nothing.
use mathlib.Core.Path.{◌≡◌, refl}
use mathlib.Core.List.{List, [], ◌∷◌}
use Prim.Native.Nat.{ℕ, zero, suc}
use lib.ListN.{replicate}
use Rattle.castagnoli.specs.Reflected.{bits_up, bits_up_of, step_down, feed_down}
use Rattle.castagnoli.specs.Castagnoli.{advance, crc32c}

-- n numbers upwards from x
pub rising : ℕ → ℕ → List ℕ
rising x zero = []
rising x (suc n) = x ∷ rising (suc x) n

-- n numbers downwards to 0
pub falling : ℕ → List ℕ
falling zero = []
falling (suc n) = n ∷ falling n

-- an iSCSI read command
pub command : List ℕ
command =
    0x01 ∷ 0xC0 ∷ 0x00 ∷ 0x00 ∷ 0x00 ∷ 0x00 ∷ 0x00 ∷ 0x00 ∷ 0x00 ∷ 0x00 ∷ 0x00 ∷ 0x00 ∷ 0x00 ∷ 0x00 ∷ 0x00 ∷ 0x00
    ∷ 0x14 ∷ 0x00 ∷ 0x00 ∷ 0x00 ∷ 0x00 ∷ 0x00 ∷ 0x04 ∷ 0x00 ∷ 0x00 ∷ 0x00 ∷ 0x00 ∷ 0x14 ∷ 0x00 ∷ 0x00 ∷ 0x00 ∷ 0x18
    ∷ 0x28 ∷ 0x00 ∷ 0x00 ∷ 0x00 ∷ 0x00 ∷ 0x00 ∷ 0x00 ∷ 0x00 ∷ 0x02 ∷ 0x00 ∷ 0x00 ∷ 0x00 ∷ 0x00 ∷ 0x00 ∷ 0x00 ∷ 0x00 ∷ []

pub nine-digits : crc32c (0x31 ∷ 0x32 ∷ 0x33 ∷ 0x34 ∷ 0x35 ∷ 0x36 ∷ 0x37 ∷ 0x38 ∷ 0x39 ∷ []) ≡ 0xE3069283
unfolding crc32c advance feed_down step_down bits_up bits_up_of
nine-digits = refl

pub zeros : crc32c (replicate 32 0) ≡ 0x8A9136AA
unfolding crc32c advance feed_down step_down bits_up bits_up_of
zeros = refl

pub all_ones : crc32c (replicate 32 0xFF) ≡ 0x62A8AB43
unfolding crc32c advance feed_down step_down bits_up bits_up_of
all_ones = refl

pub rising_bytes : crc32c (rising 0 32) ≡ 0x46DD794E
unfolding crc32c advance feed_down step_down bits_up bits_up_of rising
rising_bytes = refl

pub falling_bytes : crc32c (falling 32) ≡ 0x113FDB5C
unfolding crc32c advance feed_down step_down bits_up bits_up_of falling
falling_bytes = refl

pub read_command : crc32c command ≡ 0xD9963A56
unfolding crc32c advance feed_down step_down bits_up bits_up_of command
read_command = refl
