-- What the guard's own two tables make of a register and bytes is what the bytes make of it.
-- Assumes nothing.
use mathlib.Core.Path.{◌≡◌, refl, sym, ap, ap₂, ◌∙◌}
use mathlib.Core.List.{List, [], ◌∷◌}
use Prim.Native.Nat.{ℕ, suc, ◌+◌, ◌*◌, ◌/◌, ◌%◌, ◌^◌, ◌≤◌, ◌<◌}
use native.Mathlib.Numerals.{add-one, add-two}
use native.Mathlib.Omega.{arith}
use lib.ListN.{length, get_or, drop, drop_of_length-le}
use lib.Seq.{drop-cons}
use lib.Bits.{bit_xor, xor_lt}
use Rattle.crc.specs.Crc.{bits_of, Bytes}
use Rattle.crc.specs.Guard.{generator, run}
use Rattle.crc.proofs.Joined.{run-joined, run-nil}
use Rattle.crc.proofs.Noticed.{feed-lt}
use Rattle.crc.proofs.Shifted.{by_byte, by_two}
use Rattle.table.specs.Tables.{lows, highs, look_one, look_two, look_run}
use Rattle.table.proofs.Entries.{low_entry, high_entry}

-- ---- the loop over the bytes of a run, through any two tables: two more, and a last one

pub look_turn : (high low : List ℕ) (r : ℕ) (bytes : List ℕ) (i : ℕ) → i + 1 < length bytes
    → look_run high low (look_two high low r (get_or bytes i 0) (get_or bytes (i + 1) 0)) (drop (i + 2) bytes) ≡ look_run high low r (drop i bytes)
unfolding look_run
look_turn high low r bytes i h =
    let here : i < length bytes = omega arith in
    let next : suc i < length bytes = omega arith in
    rw (add-one, add-two, drop-cons bytes i 0 here, drop-cons bytes (suc i) 0 next)

pub look_last : (high low : List ℕ) (r : ℕ) (bytes : List ℕ) (i : ℕ) → i + 1 ≡ length bytes → look_one low r (get_or bytes i 0) ≡ look_run high low r (drop i bytes)
unfolding look_run
look_last high low r bytes i h =
    let here : i < length bytes = omega arith in
    let none : length bytes ≤ suc i = omega arith in
    sym (ap (look_run high low r) (drop-cons bytes i 0 here ∙ ap (λ (l : List ℕ). get_or bytes i 0 ∷ l) (drop_of_length-le bytes none)))

pub look_none : (high low : List ℕ) (r : ℕ) → look_run high low r [] ≡ r
unfolding look_run
look_none high low r = refl

-- ---- the guard's own tables

run-lt : (r : ℕ) (bytes : List ℕ) → r < 2 ^ 16 → run r bytes < 2 ^ 16
unfolding run
run-lt r bytes h = feed-lt 16 generator refl (omega arith) (omega arith) r (bits_of bytes) h

pub one_by_table : (r a : ℕ) → r < 2 ^ 16 → a < 256 → look_one lows r a ≡ run r (a ∷ [])
unfolding look_one
one_by_table r a h ha = ap (bit_xor (r % 256 * 256)) (low_entry (bit_xor (r / 256) a) (xor_lt 8 (r / 256) a (omega arith) ha)) ∙ sym (by_byte r a h)

pub two_by_tables : (r a b : ℕ) → r < 2 ^ 16 → a < 256 → b < 256 → look_two highs lows r a b ≡ run r (a ∷ b ∷ [])
unfolding look_two
two_by_tables r a b h ha hb =
    ap₂ bit_xor (high_entry (bit_xor (r / 256) a) (xor_lt 8 (r / 256) a (omega arith) ha)) (low_entry (bit_xor (r % 256) b) (xor_lt 8 (r % 256) b (omega arith) hb))
    ∙ sym (by_two r a b h)

pub run_by_tables : (r : ℕ) (bytes : List ℕ) → r < 2 ^ 16 → Bytes bytes → look_run highs lows r bytes ≡ run r bytes
unfolding look_run
run_by_tables r [] h small = sym (run-nil r)
run_by_tables r (a ∷ []) h small = one_by_table r a h (small 0)
run_by_tables r (a ∷ b ∷ bytes) h small =
    ap (λ (x : ℕ). look_run highs lows x bytes) (two_by_tables r a b h (small 0) (small 1))
    ∙ run_by_tables (run r (a ∷ b ∷ [])) bytes (run-lt r (a ∷ b ∷ []) h) (λ k. small (suc (suc k)))
    ∙ sym (run-joined r (a ∷ b ∷ []) bytes)
