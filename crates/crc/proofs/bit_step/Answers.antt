-- `crc::bit_step` meets its contract. The bit that decides is 0 or 1, so the product with the generator fits.
-- Assumes nothing.
use mathlib.Core.Path.{◌≡◌, sym, ap, ap₂, ◌∙◌}
use Prim.Native.Nat.{ℕ, ◌*◌, ◌/◌, ◌%◌, ◌^◌, ◌<◌}
use native.Mathlib.Nat.{mod-eq_of_lt}
use native.Mathlib.Omega.{arith}
use lib.Bits.{bit_xor, xor_lt}
use Rattle.crc.specs.Crc.{bit_step}
use Rattle.crc.specs.Guard.{generator}
use Rattle.crc.proofs.bit_step.Goals as goal

pub returns : goal.returns
unfolding bit_step
returns c =
    let r = c.args.register in
    let b = c.args.bit in
    let few : bit_xor (r / 32768) b < 2 = xor_lt 1 (r / 32768) b (omega arith) c.requires in
    let moved : r % 32768 * 2 ≡ r * 2 % 2 ^ 16 = omega arith in
    let top : r / 32768 ≡ r * 2 / 2 ^ 16 = omega arith in
    ap₂ bit_xor moved (ap (λ (x : ℕ). generator * x) (sym (mod-eq_of_lt few) ∙ ap (λ (x : ℕ). bit_xor x b % 2) top))
