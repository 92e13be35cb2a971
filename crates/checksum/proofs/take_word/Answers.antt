-- `checksum::take_word` meets its contract. Assumes nothing.
use mathlib.Core.Path.{◌≡◌, sym, ap, ap₂, ◌∙◌}
use mathlib.Core.Bool.{Bool, true, false}
use Prim.Native.Nat.{ℕ, ◌+◌, ◌*◌, ◌/◌, ◌%◌, ◌<◌}
use native.Mathlib.Omega.{arith}
use lib.Bits.{bit_or, or_shifted}
use mir.Syntax.{w16}
use mir.Val.{bool_byte}
use Rattle.std.specs.Bool.{FalseIff}
use Rattle.std.specs.Int.{rotate_left}
use Rattle.checksum.specs.Checksum.{rotated, wrapped, taken}
use Rattle.checksum.proofs.Words.{word-pair}
use Rattle.checksum.proofs.take_word.Goals as goal

-- a sum in sixteen bits, and its carry
carried : (x : ℕ) (carry : Bool) → x < 131072 → FalseIff carry (x < 65536) → bool_byte carry ≡ x / 65536
carried x false small h = grind (arith, h)
carried x true small h = grind (arith, h)

-- sixteen bits turned left by one
turned : (s : ℕ) → s < 65536 → rotate_left w16 s 1 ≡ rotated s
unfolding rotated
turned s small =
    let low : s * 2 % 65536 ≡ s % 32768 * 2 = omega arith in
    ap (λ (x : ℕ). bit_or x (s / 32768)) low ∙ or_shifted (s % 32768) 1 (s / 32768) (omega arith)

pub overflow_add-result : goal.overflow_add-result
overflow_add-result c =
    let sum = c.overflowing_add-total.ensures in
    let x = c.rotate_left-rotated.result + c.from_be_bytes.result in
    let carry = c.from.ensures ∙ carried x c.overflowing_add-total.result.1 (omega arith) sum.overflow in
    omega (arith, sum.value, carry)

pub returns : goal.returns
unfolding taken wrapped
returns c =
    let a = c.args in
    let sum = c.overflowing_add-total.ensures in
    let x = c.rotate_left-rotated.result + c.from_be_bytes.result in
    let carry = c.from.ensures ∙ carried x c.overflowing_add-total.result.1 (omega arith) sum.overflow in
    let turn = c.rotate_left-rotated.ensures ∙ turned a.sum (omega arith) in
    let both = c.from_be_bytes.ensures ∙ sym (word-pair a.high a.low (omega arith) (omega arith)) in
    ap₂ (λ (t k : ℕ). t + k) sum.value carry ∙ ap₂ (λ (r w : ℕ). wrapped (r + w)) turn both
