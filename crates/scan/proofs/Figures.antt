-- Worked figures of the calls on any state: states written out, numbers computed from the definitions. Assumes nothing.
use mathlib.Core.Path.{◌≡◌, refl}
use mathlib.Core.Bool.{true, false}
use mathlib.Core.List.{List, [], ◌∷◌, ◌++◌}
use Prim.Native.Nat.{ℕ}
use lib.ListN.{replicate}
use Rattle.xor.specs.Xors.{xors}
use Rattle.crc.specs.Crc.{bits, bits_of, bit_step, feed}
use Rattle.crc.specs.Guard.{run}
use Rattle.checksum.specs.Checksum.{taken, word, rotated, wrapped}
use Rattle.checksum.specs.Machine.{byte_step, advance}
use Rattle.format.specs.Packed.{packed, unpacked, packed_advance, may_wait}
use Rattle.format.specs.Methods.{format_of}
use Rattle.layout.specs.Arrays.{array_of, array_refusal, stripe_refusal}
use Rattle.layout.specs.declared.Array.{Array}
use Rattle.scan.specs.declared.Scan.{Scan}
use Rattle.scan.specs.Scans.{
  data_of_piece,
  tag_of_piece,
  positions,
  tags,
  buffer,
  start_refusal,
  empty_scan,
  start_state,
  start_work,
  fit,
  piece_refusal,
  advanced,
  piece_state,
  piece_work,
  finish_refusal,
}

-- two stripes of three members
abbrev three : Array
three = array_of 3 2 7 1 1

abbrev zeros : List ℕ
zeros = 0 ∷ 0 ∷ 0 ∷ 0 ∷ 0 ∷ 0 ∷ 0 ∷ 0 ∷ 0 ∷ 0 ∷ 0 ∷ 0 ∷ 0 ∷ 0 ∷ 0 ∷ 0 ∷ []

-- stripe 1, with the positions of members 0, 1, 2, and what stands at the place of a fourth
abbrev standing : ℕ → ℕ → ℕ → ℕ → Scan
standing first second third fourth =
    record {
      array = three;
      stripe = 1;
      at = first ∷ second ∷ third ∷ fourth ∷ 0 ∷ 0 ∷ 0 ∷ 0 ∷ 0 ∷ 0 ∷ 0 ∷ 0 ∷ 0 ∷ 0 ∷ 0 ∷ 0 ∷ [];
      register = zeros;
      waiting = zeros;
      tag = replicate 256 0;
    }

-- ---- start

-- a refused start gives zeros throughout and changes no byte: stripe 2 of two; a buffer of another length
abbrev nothing : Scan
nothing = record { array = array_of 0 0 0 0 0; stripe = 0; at = zeros; register = zeros; waiting = zeros; tag = replicate 256 0 }

pub refused_start : (start_state three 2 512 ≡ nothing) × (start_state three 1 2 ≡ nothing) × (start_work three 1 (8 ∷ 9 ∷ []) ≡ 8 ∷ 9 ∷ [])
unfolding format_of start_state start_work start_refusal empty_scan stripe_refusal array_refusal
refused_start = (refl, refl, refl)

-- 3 goes before 6
pub start_order : (start_refusal three 2 0 ≡ 3) × (start_refusal three 1 511 ≡ 6) × (start_refusal three 1 513 ≡ 6) × (start_refusal three 1 512 ≡ 0)
unfolding format_of start_refusal stripe_refusal array_refusal
start_order = (refl, refl, refl, refl)

-- ---- fit: a position of 520 is fit and 521 is not, and what stands past the members does not matter

pub fit-positions : (fit (standing 520 520 520 521) ≡ true) × (fit (standing 0 0 521 0) ≡ false) × (fit (standing 521 0 0 0) ≡ false)
unfolding format_of fit stripe_refusal array_refusal
fit-positions = (refl, refl, refl)

-- a state by method 2: member 1 stands at a position, with a byte that waits
abbrev pairing : ℕ → ℕ → ℕ → Scan
pairing position register byte =
    record {
      array = array_of 3 2 7 2 1;
      stripe = 1;
      at = 3 ∷ position ∷ 0 ∷ 4 ∷ 0 ∷ 0 ∷ 0 ∷ 0 ∷ 0 ∷ 0 ∷ 0 ∷ 0 ∷ 0 ∷ 0 ∷ 0 ∷ 0 ∷ [];
      register = 5 ∷ register ∷ 6 ∷ 7 ∷ 0 ∷ 0 ∷ 0 ∷ 0 ∷ 0 ∷ 0 ∷ 0 ∷ 0 ∷ 0 ∷ 0 ∷ 0 ∷ 0 ∷ [];
      waiting = 8 ∷ byte ∷ 0 ∷ 9 ∷ 0 ∷ 0 ∷ 0 ∷ 0 ∷ 0 ∷ 0 ∷ 0 ∷ 0 ∷ 0 ∷ 0 ∷ 0 ∷ 0 ∷ [];
      tag = replicate 256 0;
    }

-- a byte waits after an odd number of bytes of data, and nowhere else; what stands past the members does not matter
pub fit_waiting : (fit (pairing 1 5 0x56) ≡ true) × (fit (pairing 511 5 1) ≡ true) × (fit (pairing 2 5 0) ≡ true)
    × (fit (pairing 0 5 1) ≡ false) × (fit (pairing 2 5 1) ≡ false) × (fit (pairing 513 5 1) ≡ false)
unfolding format_of fit stripe_refusal array_refusal may_wait
fit_waiting = (refl, refl, refl, refl, refl, refl)

-- a register has sixteen bits; what stands past the members does not matter
abbrev kept : ℕ → ℕ → Scan
kept last past = record { array = three; stripe = 1; at = replicate 16 0; register = 0 ∷ 1 ∷ last ∷ past ∷ replicate 12 0; waiting = replicate 16 0; tag = replicate 256 0 }

pub fit-registers : (fit (kept 0xFFFF 0xFFFFFFFF) ≡ true) × (fit (kept 0x10000 0) ≡ false) × (fit (kept 0xFFFFFFFF 0) ≡ false)
unfolding format_of fit stripe_refusal array_refusal
fit-registers = (refl, refl, refl)

-- ---- piece: 4 goes before 5, 5 before 6 and 7, 6 before 7

pub piece_order : (piece_refusal (standing 521 0 0 0) 3 521 511 ≡ 4) × (piece_refusal (standing 0 0 0 0) 3 521 511 ≡ 5)
    × (piece_refusal (standing 0 0 0 0) 3 521 512 ≡ 5) × (piece_refusal (standing 0 0 0 0) 2 521 511 ≡ 6)
    × (piece_refusal (standing 0 0 0 0) 2 521 512 ≡ 7) × (piece_refusal (standing 0 0 0 0) 2 520 512 ≡ 0)
unfolding format_of piece_refusal fit stripe_refusal array_refusal
piece_order = (refl, refl, refl, refl, refl, refl)

-- at the end of its block a member takes no byte more, and an empty piece
pub piece-at_the_end : (piece_refusal (standing 0 520 0 0) 1 1 512 ≡ 7) × (piece_refusal (standing 0 520 0 0) 1 0 512 ≡ 0)
unfolding format_of piece_refusal fit stripe_refusal array_refusal
piece-at_the_end = (refl, refl)

-- a refused piece changes nothing
pub refused_piece : (piece_state (standing 0 0 0 0) 3 (9 ∷ []) 512 ≡ standing 0 0 0 0) × (piece_work (standing 0 0 0 0) 0 (9 ∷ []) (8 ∷ 9 ∷ []) ≡ 8 ∷ 9 ∷ [])
unfolding format_of piece_state piece_work piece_refusal fit stripe_refusal array_refusal
refused_piece = (refl, refl)

-- on a state that no start gives a piece goes on from what it finds, and nothing else moves: for member 1, on register 1234h, a first byte
-- of data; the last byte of its data and the first of its tag
abbrev found_state : ℕ → ℕ → ℕ → Scan
found_state position register byte =
    record {
      array = three;
      stripe = 1;
      at = 3 ∷ position ∷ 0 ∷ 4 ∷ 0 ∷ 0 ∷ 0 ∷ 0 ∷ 0 ∷ 0 ∷ 0 ∷ 0 ∷ 0 ∷ 0 ∷ 0 ∷ 0 ∷ [];
      register = 5 ∷ register ∷ 6 ∷ 7 ∷ 0 ∷ 0 ∷ 0 ∷ 0 ∷ 0 ∷ 0 ∷ 0 ∷ 0 ∷ 0 ∷ 0 ∷ 0 ∷ 0 ∷ [];
      waiting = zeros;
      tag = replicate 8 10 ++ (byte ∷ replicate 119 11);
    }

pub piece_goes_on : (piece_state (found_state 0 0x1234 11) 1 (1 ∷ []) 512 ≡ found_state 1 0x77a3 11)
    × (piece_work (found_state 0 0x1234 11) 1 (1 ∷ []) (9 ∷ replicate 511 5) ≡ 8 ∷ replicate 511 5)
    × (piece_state (found_state 511 0x1234 11) 1 (1 ∷ 12 ∷ []) 512 ≡ found_state 513 0x77a3 12)
    × (piece_work (found_state 511 0x1234 11) 1 (1 ∷ 12 ∷ []) (replicate 511 5 ++ (9 ∷ [])) ≡ replicate 511 5 ++ (8 ∷ []))
unfolding format_of piece_state piece_work piece_refusal fit stripe_refusal array_refusal advanced positions tags buffer data_of_piece tag_of_piece xors run feed bits_of bits bit_step
piece_goes_on = (refl, refl, refl, refl)

-- by method 2 a first byte waits; its pair, the lower byte of the word, takes it in: 1234h rotated is 2468h, and 5601h more
pub pairs-up : (piece_state (pairing 0 0x1234 0) 1 (0x56 ∷ []) 512 ≡ pairing 1 0x1234 0x56)
    × (piece_state (pairing 1 0x1234 0x56) 1 (1 ∷ []) 512 ≡ pairing 2 0x7A69 0)
    × (piece_state (pairing 1 0x1234 0x56) 1 (1 ∷ 0x78 ∷ []) 512 ≡ pairing 3 0x7A69 0x78)
unfolding format_of piece_state piece_refusal fit stripe_refusal array_refusal may_wait advanced positions tags data_of_piece tag_of_piece packed_advance packed unpacked advance byte_step taken word rotated wrapped
pairs-up = (refl, refl, refl)

-- ---- finish: 4 goes before 6, 6 before 8; what stands past the members does not matter

pub finish_order : (finish_refusal (standing 521 0 0 0) 511 ≡ 4) × (finish_refusal (standing 519 520 520 0) 511 ≡ 6)
    × (finish_refusal (standing 520 520 519 520) 512 ≡ 8) × (finish_refusal (standing 520 520 520 0) 512 ≡ 0)
    × (finish_refusal (standing 520 520 520 521) 512 ≡ 0)
unfolding format_of finish_refusal fit stripe_refusal array_refusal
finish_order = (refl, refl, refl, refl, refl)
