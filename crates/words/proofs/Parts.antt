-- Bytes 0 move a register on; so the guard of a run in two parts is the guard of the first, moved on, and that of the second.
-- Assumes nothing.
use mathlib.Core.Path.{◌≡◌, refl, sym, ap, ap₂, ◌∙◌}
use mathlib.Core.List.{List, ◌++◌}
use Prim.Native.Nat.{ℕ, zero, suc, ◌+◌, ◌*◌}
use native.Mathlib.Omega.{arith}
use lib.ListN.{length, replicate-append-replicate, length-replicate}
use lib.Bits.{bit_xor, xor_zero_r}
use Rattle.xor.proofs.Lists.{zeros-xors}
use Rattle.crc.specs.Crc.{bits, bits_of, feed}
use Rattle.crc.specs.Guard.{generator, run, guard}
use Rattle.crc.proofs.Joined.{run-joined}
use Rattle.crc.proofs.Linear.{run_linear}
use Rattle.words.specs.Words.{on}
use Rattle.words.proofs.Linear.{zeros}

zero_bits : (n : ℕ) → bits_of (zeros n) ≡ zeros (8 * n)
unfolding bits_of bits
zero_bits zero = refl
zero_bits (suc n) =
    let e : 8 + 8 * n ≡ 8 * suc n = omega arith in
    ap (λ (l : List ℕ). zeros 8 ++ l) (zero_bits n) ∙ replicate-append-replicate 8 (8 * n) 0 ∙ ap zeros e

-- n zero bytes move a register on
pub zeros-on : (n r : ℕ) → run r (zeros n) ≡ on (8 * n) r
unfolding run on
zeros-on n r = ap (feed 16 generator r) (zero_bits n)

-- the register after some bytes: it is moved on, and their guard is added
pub run_parts : (r : ℕ) (y : List ℕ) → run r y ≡ bit_xor (on (8 * length y) r) (guard y)
unfolding guard
run_parts r y =
    ap₂ run (sym (xor_zero_r r)) (sym (zeros-xors y)) ∙ run_linear r 0 (zeros (length y)) y (length-replicate (length y) 0)
    ∙ ap (λ (q : ℕ). bit_xor q (run 0 y)) (zeros-on (length y) r)

pub guard_parts : (x y : List ℕ) → guard (x ++ y) ≡ bit_xor (on (8 * length y) (guard x)) (guard y)
unfolding guard
guard_parts x y = run-joined 0 x y ∙ run_parts (run 0 x) y
