-- What the tables make of a register and bytes is what the bytes make of it.
-- Assumes nothing.
use mathlib.Core.Path.{◌≡◌, refl, sym, ap, ap₂, ◌∙◌}
use mathlib.Core.List.{List, [], ◌∷◌}
use Prim.Native.Nat.{ℕ, suc, ◌+◌, ◌/◌, ◌%◌, ◌≤◌, ◌<◌}
use native.Mathlib.Numerals.{add-one, add-two}
use native.Mathlib.Omega.{arith}
use lib.ListN.{length, get_or, drop, drop_of_length-le}
use lib.Seq.{drop-cons}
use lib.Bits.{bit_xor, xor_lt}
use Rattle.crc.specs.Crc.{Bytes}
use Rattle.table.proofs.Entries.{entry}
use Rattle.castagnoli.specs.Castagnoli.{advance}
use Rattle.castagnoli.specs.Tables.{lasts, firsts, look_one, look_two, look_run}
use Rattle.castagnoli.proofs.Joined.{advance-joined, advance-nil}
use Rattle.castagnoli.proofs.Shifted.{by_byte, by_two}

last_entry : (i : ℕ) → i < 256 → get_or lasts i 0 ≡ advance 0 (i ∷ [])
unfolding lasts
last_entry i h = entry (λ (i : ℕ). advance 0 (i ∷ [])) 256 i h

first_entry : (i : ℕ) → i < 256 → get_or firsts i 0 ≡ advance 0 (i ∷ 0 ∷ [])
unfolding firsts
first_entry i h = entry (λ (i : ℕ). advance 0 (i ∷ 0 ∷ [])) 256 i h

-- ---- the loop over the bytes of a advance, through any two tables: two more, and a last one

pub look_turn : (first last : List ℕ) (r : ℕ) (bytes : List ℕ) (i : ℕ) → i + 1 < length bytes
    → look_run first last (look_two first last r (get_or bytes i 0) (get_or bytes (i + 1) 0)) (drop (i + 2) bytes) ≡ look_run first last r (drop i bytes)
unfolding look_run
look_turn first last r bytes i h =
    let here : i < length bytes = omega arith in
    let next : suc i < length bytes = omega arith in
    rw (add-one, add-two, drop-cons bytes i 0 here, drop-cons bytes (suc i) 0 next)

pub look_last : (first last : List ℕ) (r : ℕ) (bytes : List ℕ) (i : ℕ) → i + 1 ≡ length bytes → look_one last r (get_or bytes i 0) ≡ look_run first last r (drop i bytes)
unfolding look_run
look_last first last r bytes i h =
    let here : i < length bytes = omega arith in
    let none : length bytes ≤ suc i = omega arith in
    sym (ap (look_run first last r) (drop-cons bytes i 0 here ∙ ap (λ (l : List ℕ). get_or bytes i 0 ∷ l) (drop_of_length-le bytes none)))

pub look_none : (first last : List ℕ) (r : ℕ) → look_run first last r [] ≡ r
unfolding look_run
look_none first last r = refl

-- ---- the check's own two

one_by_table : (r a : ℕ) → a < 256 → look_one lasts r a ≡ advance r (a ∷ [])
unfolding look_one
one_by_table r a ha = ap (bit_xor (r / 256)) (last_entry (bit_xor (r % 256) a) (xor_lt 8 (r % 256) a (omega arith) ha)) ∙ sym (by_byte r a)

pub two_by_tables : (r a b : ℕ) → a < 256 → b < 256 → look_two firsts lasts r a b ≡ advance r (a ∷ b ∷ [])
unfolding look_two
two_by_tables r a b ha hb =
    ap (bit_xor (r / 65536))
    (ap₂ bit_xor (first_entry (bit_xor (r % 256) a) (xor_lt 8 (r % 256) a (omega arith) ha)) (last_entry (bit_xor (r / 256 % 256) b) (xor_lt 8 (r / 256 % 256) b (omega arith) hb)))
    ∙ sym (by_two r a b)

pub advance_by_tables : (r : ℕ) (bytes : List ℕ) → Bytes bytes → look_run firsts lasts r bytes ≡ advance r bytes
unfolding look_run
advance_by_tables r [] small = sym (advance-nil r)
advance_by_tables r (a ∷ []) small = one_by_table r a (small 0)
advance_by_tables r (a ∷ b ∷ bytes) small =
    ap (λ (x : ℕ). look_run firsts lasts x bytes) (two_by_tables r a b (small 0) (small 1))
    ∙ advance_by_tables (advance r (a ∷ b ∷ [])) bytes (λ k. small (suc (suc k)))
    ∙ sym (advance-joined r (a ∷ b ∷ []) bytes)
