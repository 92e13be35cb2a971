-- The check of a block of zeros. A register is a sum of moves of 1, one for each of its bits; so a move as long again is a square.
-- Assumes nothing.
use mathlib.Core.Path.{◌≡◌, refl, sym, ap, ap₂, ◌∙◌}
use mathlib.Core.List.{List, [], ◌∷◌}
use Prim.Native.Nat.{ℕ, ◌+◌, ◌*◌, ◌%◌}
use native.Mathlib.Nat.{mul-zero, mul-one}
use lib.Bits.{bit_xor}
use Rattle.xor.proofs.Bits.{bit_elim, odd-lt}
use Rattle.crc.specs.Crc.{bits}
use Rattle.castagnoli.specs.Reflected.{feed_down, step_down}
use Rattle.castagnoli.specs.Castagnoli.{ones, crc32c}
use Rattle.castagnoli.proofs.Combined.{blank}
use Rattle.castagnoli_words.specs.Words.{on}
use Rattle.castagnoli_words.proofs.Moves.{one, on_linear, on_none, on-on, on_swap, zeros-on}

-- a register times the polynomial with the coefficients bs, the lowest power first
times : List ℕ → ℕ → ℕ
times [] x = 0
times (b ∷ bs) x = bit_xor (x * (b % 2)) (on 1 (times bs x))

times-on : (bs : List ℕ) (s x : ℕ) → times bs (on s x) ≡ on s (times bs x)
unfolding times
times-on [] s x = sym (on_none s)
times-on (b ∷ bs) s x =
    ap₂ bit_xor
    (bit_elim (λ (t : ℕ). on s x * t ≡ on s (x * t)) (mul-zero (on s x) ∙ sym (ap (on s) (mul-zero x) ∙ on_none s)) (mul-one (on s x) ∙ sym (ap (on s) (mul-one x))) (b % 2) (odd-lt b))
    (ap (on 1) (times-on bs s x) ∙ on_swap s 1 (times bs x))
    ∙ sym (on_linear s (x * (b % 2)) (on 1 (times bs x)))

double : (s c d : ℕ) → on s one ≡ c → times (bits 32 c) one ≡ c → times (bits 32 c) c ≡ d → on (s + s) one ≡ d
double s c d e f g = sym (on-on s s one) ∙ ap (on s) (e ∙ sym f) ∙ sym (times-on (bits 32 c) s one) ∙ ap (times (bits 32 c)) e ∙ g

on_32 : on 32 one ≡ 0x82F63B78
unfolding on feed_down step_down
on_32 = refl

on_64 : on 64 one ≡ 0x6EA2D55C
unfolding times bits on feed_down step_down
on_64 = double 32 0x82F63B78 0x6EA2D55C on_32 refl refl

on_128 : on 128 one ≡ 0x18B8EA18
unfolding times bits on feed_down step_down
on_128 = double 64 0x6EA2D55C 0x18B8EA18 on_64 refl refl

on_256 : on 256 one ≡ 0x510AC59A
unfolding times bits on feed_down step_down
on_256 = double 128 0x18B8EA18 0x510AC59A on_128 refl refl

on_512 : on 512 one ≡ 0xB82BE955
unfolding times bits on feed_down step_down
on_512 = double 256 0x510AC59A 0xB82BE955 on_256 refl refl

on_1024 : on 1024 one ≡ 0xB8FDB1E7
unfolding times bits on feed_down step_down
on_1024 = double 512 0xB82BE955 0xB8FDB1E7 on_512 refl refl

on_2048 : on 2048 one ≡ 0x88E56F72
unfolding times bits on feed_down step_down
on_2048 = double 1024 0xB8FDB1E7 0x88E56F72 on_1024 refl refl

on_4096 : on 4096 one ≡ 0x74C360A4
unfolding times bits on feed_down step_down
on_4096 = double 2048 0x88E56F72 0x74C360A4 on_2048 refl refl

on_8192 : on 8192 one ≡ 0xE4172B16
unfolding times bits on feed_down step_down
on_8192 = double 4096 0x74C360A4 0xE4172B16 on_4096 refl refl

on_16384 : on 16384 one ≡ 0x0D65762A
unfolding times bits on feed_down step_down
on_16384 = double 8192 0xE4172B16 0x0D65762A on_8192 refl refl

on_32768 : on 32768 one ≡ 0x35D73A62
unfolding times bits on feed_down step_down
on_32768 = double 16384 0x0D65762A 0x35D73A62 on_16384 refl refl

on-ones : on 32768 ones ≡ 0x6706BE76
unfolding times bits on feed_down step_down
on-ones =
    let all : times (bits 32 ones) one ≡ ones = refl in
    let made : times (bits 32 ones) 0x35D73A62 ≡ 0x6706BE76 = refl in
    ap (on 32768) (sym all) ∙ sym (times-on (bits 32 ones) 32768 one) ∙ ap (times (bits 32 ones)) on_32768 ∙ made

pub blank-block : blank 4096 ≡ 0x98F94189
unfolding crc32c
blank-block = ap (λ (r : ℕ). bit_xor r ones) (zeros-on 4096 ones ∙ on-ones)
