-- Figures of the methods, computed: the lengths of all three; of method 3 a register and a guard; of method 2 guards of blocks, a register in
-- pieces, and two blocks whose guards do not combine. Assumes nothing.
use mathlib.Core.Path.{◌≡◌, refl, sym, ap₂, ◌∙◌}
use mathlib.Core.Bool.{true, false}
use mathlib.Core.List.{List, [], ◌∷◌, ◌++◌}
use Prim.Native.Nat.{ℕ, ◌+◌, ◌*◌, ◌%◌}
use native.Mathlib.Omega.{arith}
use lib.Bits.{bit_xor}
use lib.ListN.{replicate}
use Rattle.xor.specs.Xors.{xors}
use Rattle.castagnoli.specs.Reflected.{bits_up, bits_up_of, step_down, feed_down}
use Rattle.castagnoli.specs.Castagnoli as wide
use Rattle.checksum.specs.Checksum.{rotated, wrapped, taken, word}
use Rattle.checksum.specs.Machine.{byte_step, advance}
use Rattle.checksum.proofs.Figures.{bytes_by, blocks}
use Rattle.format.specs.Formats.{guard, Combines}
use Rattle.format.specs.Packed.{packed, unpacked, packed_advance, may_wait}
use Rattle.format.specs.Methods.{format_of}
use Rattle.format.proofs.Laws.{checksum-guard}

-- any number but 2 and 3 means method 1
pub others : (format_of 0 ≡ format_of 1) × (format_of 4 ≡ format_of 1) × (format_of 255 ≡ format_of 1)
unfolding format_of
others = (refl, refl, refl)

-- bytes of data, of tag, of both, and of a guard
abbrev lengths : ℕ → List ℕ
lengths method = (format_of method).data_length ∷ (format_of method).tag_length ∷ (format_of method).block_length ∷ (format_of method).quarter ∷ []

pub lengths_are : (lengths 1 ≡ 512 ∷ 8 ∷ 520 ∷ 2 ∷ []) × (lengths 2 ≡ 512 ∷ 8 ∷ 520 ∷ 2 ∷ []) × (lengths 3 ≡ 4096 ∷ 16 ∷ 4112 ∷ 4 ∷ [])
unfolding format_of
lengths_are = (refl, refl, refl)

-- of large blocks the register starts at all ones and holds what is there before the end step; the nine characters 123456789
pub large_figures : ((format_of 3).start ≡ 0xFFFFFFFF) × ((format_of 3).guard_of 0xFFFFFFFF ≡ 0) × ((format_of 3).reach ≡ 32)
    × ((format_of 3).advance 0 0xFFFFFFFF (0x31 ∷ 0x32 ∷ 0x33 ∷ 0x34 ∷ 0x35 ∷ 0x36 ∷ 0x37 ∷ 0x38 ∷ 0x39 ∷ []) ≡ 0x1CF96D7C)
    × ((format_of 3).guard_of 0x1CF96D7C ≡ 0xE3069283)
unfolding format_of wide.advance feed_down step_down bits_up bits_up_of
large_figures = (refl, refl, refl, refl, refl)

-- the parity's guard is its own in method 1, and carried in method 2; there a byte waits at odd positions among the data
pub carried : ((format_of 1).carries ≡ false) × ((format_of 2).carries ≡ true) × ((format_of 3).carries ≡ false)
unfolding format_of
carried = (refl, refl, refl)

pub waiting : ((format_of 2).waits 0 ≡ false) × ((format_of 2).waits 1 ≡ true) × ((format_of 2).waits 510 ≡ false) × ((format_of 2).waits 511 ≡ true)
    × ((format_of 2).waits 512 ≡ false) × ((format_of 2).waits 513 ≡ false) × ((format_of 1).waits 1 ≡ false)
unfolding format_of may_wait
waiting = (refl, refl, refl, refl, refl, refl, refl)

-- zeros, ones, and two blocks that count
pub guards : (guard (format_of 2) (replicate 512 0x00) ≡ 0xFFFF) × (guard (format_of 2) (replicate 512 0xFF) ≡ 0xFFFF)
    × (guard (format_of 2) (bytes_by (λ k. (k * 7 + 3) % 256) 512 0) ≡ 0x5830) × (guard (format_of 2) (bytes_by (λ k. k * k % 251) 512 0) ≡ 0xE354)
guards = (
  checksum-guard (replicate 512 0x00) ∙ blocks.0,
  checksum-guard (replicate 512 0xFF) ∙ blocks.1,
  checksum-guard (bytes_by (λ k. (k * 7 + 3) % 256) 512 0) ∙ blocks.2,
  checksum-guard (bytes_by (λ k. k * k % 251) 512 0) ∙ blocks.3,
)

-- the bytes of two words, cut after one and after three: the byte that waits stands above the sum, and is not in the guard
pub pieces : ((format_of 2).advance 0 (format_of 2).start (0x12 ∷ []) ≡ 0x12FFFF) × ((format_of 2).advance 1 0x12FFFF (0x34 ∷ 0x56 ∷ []) ≡ 0x561234)
    × ((format_of 2).guard_of 0x561234 ≡ 0x1234) × ((format_of 2).advance 3 0x561234 (0x78 ∷ []) ≡ 0x7AE0)
unfolding format_of packed_advance packed unpacked advance byte_step word taken rotated wrapped
pieces = (refl, refl, refl, refl)

-- a block of zeros but for its last byte has that byte for its guard
abbrev pub ends : ℕ → List ℕ
ends b = replicate 511 0 ++ (b ∷ [])

pub end_guards : (guard (format_of 2) (ends 1) ≡ 1) × (guard (format_of 2) (ends 2) ≡ 2) × (guard (format_of 2) (ends 3) ≡ 3)
unfolding format_of guard packed_advance packed unpacked advance byte_step word taken rotated wrapped
end_guards = (refl, refl, refl)

-- so 1, 3 and their combination 2 there have guards 1, 3 and 2; with that of a block of zeros 1 and 3 would give FFFDh
pub not-combined : ¬ Combines (format_of 2)
unfolding format_of xors
not-combined combines =
    let e : ◌≡◌ {A = ℕ} 2 0xFFFD = sym end_guards.1 ∙ combines (ends 1) (ends 3) refl refl ∙ ap₂ bit_xor (ap₂ bit_xor end_guards.0 end_guards.2) guards.0 in omega arith
