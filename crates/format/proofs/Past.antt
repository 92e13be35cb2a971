-- A register past its method's limit: no bytes leave it as it is, and of what is past it some bytes see nothing. Assumes nothing.
use mathlib.Core.Path.{◌≡◌, refl, sym, ap, ap₂, ◌∙◌}
use mathlib.Core.List.{List, [], ◌∷◌, ◌++◌}
use Prim.Native.Nat.{ℕ, zero, suc, ◌+◌, ◌*◌, ◌/◌, ◌%◌, ◌^◌}
use native.Mathlib.Nat.{mod-mod}
use native.Mathlib.Omega.{arith}
use lib.Bits.{bit_xor, xor_mod}
use lib.ListN.{length}
use Rattle.crc.specs.Crc.{bits, bits_of, bit_step, feed}
use Rattle.crc.specs.Guard.{generator, run}
use Rattle.checksum.specs.Checksum.{taken, word}
use Rattle.checksum.specs.Machine.{register_of, byte_step, advance}
use Rattle.checksum.specs.declared.Register.{Register}
use Rattle.format.specs.Formats.{Format}
use Rattle.format.specs.Packed.{packed, unpacked, packed_advance}

pub stays : (F : Format) (at r : ℕ) (bytes : List ℕ) → length bytes ≡ 0 → r ≡ F.advance at r bytes
stays F at r [] none = sym (F.advance-nil at r)
stays F at r (b ∷ bytes) none = absurd (omega arith)

-- ---- the CRC: a bit moves all of them up

parity : (x q t : ℕ) → x ≡ 2 * q + t → x % 2 ≡ t % 2
parity x q t e = omega arith

bit_cut : (r b : ℕ) → bit_step 16 generator r b ≡ bit_step 16 generator (r % 65536) b
unfolding bit_step
bit_cut r b =
    let low : r * 2 % 65536 ≡ r % 65536 * 2 % 65536 = omega arith in
    let high = parity (r * 2 / 65536) (r / 65536) (r % 65536 * 2 / 65536) (omega arith) in
    ap₂ (λ (x y : ℕ). bit_xor x (generator * y)) low
    (xor_mod (r * 2 / 65536) b 1 ∙ ap (λ (x : ℕ). bit_xor x (b % 2)) high ∙ sym (xor_mod (r % 65536 * 2 / 65536) b 1))

feed-cut : (r b : ℕ) (bs : List ℕ) → feed 16 generator r (b ∷ bs) ≡ feed 16 generator (r % 65536) (b ∷ bs)
unfolding feed
feed-cut r b bs = ap (λ (s : ℕ). feed 16 generator s bs) (bit_cut r b)

pub run-cut : (r : ℕ) (bytes : List ℕ) → ¬ (length bytes ≡ 0) → run (r % 65536) bytes ≡ run r bytes
unfolding run bits_of bits
run-cut r [] some = absurd (some refl)
run-cut r (b ∷ bytes) some = sym (feed-cut r (b / 2 ^ 7 % 2) (bits 7 b ++ bits_of bytes))

-- ---- the checksum: a byte comes instead of the one that waits, or makes a word with its low eight bits

step_cut : (p v w b : ℕ) → byte_step p (register_of v w) b ≡ byte_step p (register_of v (w % 256)) b
unfolding byte_step word
step_cut zero v w b = refl
step_cut (suc p) v w b = ap (λ (x : ℕ). register_of (taken v (x * 256 + b % 256)) 0) (sym (mod-mod w 256))

pub packed-cut : (at r : ℕ) (bytes : List ℕ) → ¬ (length bytes ≡ 0)
    → packed (advance at (register_of (r % 65536) (r / 65536 % 256)) bytes) ≡ packed_advance at r bytes
unfolding packed_advance unpacked advance
packed-cut at r [] some = absurd (some refl)
packed-cut at r (b ∷ bytes) some =
    ap (λ (s : Register). packed (advance (suc at) s bytes)) (sym (step_cut (at % 2) (r % 65536) (r / 65536) b))
