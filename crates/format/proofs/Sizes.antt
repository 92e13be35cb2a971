-- The lengths of any format, as sums and bounds over plain numbers. Assumes nothing.
use mathlib.Core.Path.{◌≡◌, refl, sym, ap, ◌∙◌}
use Prim.Native.Nat.{ℕ, zero, suc, ◌+◌, ◌*◌, ◌/◌, ◌%◌, ◌^◌, ◌≤◌, ◌<◌}
use native.Mathlib.Nat.{mul-suc, mul_comm, mul-le-mul_left, mul-le-mul_right, mul-lt-mul_of_pos_right, pow-le-pow_right, pow-suc, add_comm, mod-eq_of_lt, div-add-mod', div-lt_iff_lt-mul}
use native.Mathlib.Omega.{arith}
use lib.Bits.{bit_xor, xor_lt}
use lib.Dec.{lit<}
use lib.Pow.{pow-add}
use mathlib.Core.List.{List}
use Rattle.format.specs.Formats.{Format, guard, value_in, waiting_in, register_from}

-- the place after k of equal parts is at most that of a later one
pub times-next : (size k m : ℕ) → k < m → size * k + size ≤ size * m
times-next size k m h = rw (← mul-suc size k) (mul-le-mul_left size h)

-- some bytes hold what two numbers of as many combine to
pow-bytes : (n : ℕ) → 256 ^ n ≡ 2 ^ (8 * n)
pow-bytes zero = refl
pow-bytes (suc n) =
    pow-suc 256 n ∙ ap (λ (x : ℕ). x * 256) (pow-bytes n) ∙ sym (pow-add 2 (8 * n) 8) ∙ ap (λ (k : ℕ). 2 ^ k) (sym (mul-suc 8 n))

pub xor_bytes : (n x y : ℕ) → x < 256 ^ n → y < 256 ^ n → bit_xor x y < 256 ^ n
xor_bytes n x y h k = rw (pow-bytes n) (xor_lt (8 * n) x y (rw (pow-bytes n) at h) (rw (pow-bytes n) at k))

module _ (F : Format) where
  pub block-most : F.block_length ≤ 4112
  block-most = omega arith

  -- where a member's block ends, at most
  pub block-times : (m : ℕ) → F.block_length * m ≤ 4112 * m
  block-times m = mul-le-mul_right m block-most

  pub data_times : (m : ℕ) → F.data_length * m ≤ 4096 * m
  data_times m = mul-le-mul_right m F.data_most

  pub power_some : 0 < 256 ^ F.quarter
  power_some = omega (arith, pow-le-pow_right {n = 256} (lit< tt) {i = 2} {j = F.quarter} F.quarter_least)

  power_most : 256 ^ F.quarter ≤ 4294967296
  power_most = pow-le-pow_right {n = 256} (lit< tt) {i = F.quarter} {j = 4} (omega arith)

  pub scale-some : 0 < F.scale
  scale-some = omega (arith, power_some, F.scaled)

  pub scale-most : F.scale ≤ 65536
  scale-most = omega (arith, power_most, F.scaled)

  pub application_small : (x : ℕ) → x < 65536 → x * F.scale < 256 ^ F.quarter
  application_small x h = rw (sym F.scaled) (mul-lt-mul_of_pos_right h scale-some)

  pub reference_room : 2 ^ 32 ≤ 256 ^ (2 * F.quarter)
  reference_room = pow-le-pow_right {n = 256} (lit< tt) {i = 4} {j = 2 * F.quarter} (omega arith)

  pub guard-fits : (bytes : List ℕ) → guard F bytes < 256 ^ F.quarter
  unfolding guard
  guard-fits bytes = F.guard_small bytes

  -- what a state keeps of a register gives it back
  pub register-kept : (r : ℕ) → r < F.limit → register_from F (value_in F r) (waiting_in F r) ≡ r
  register-kept r h =
      let w = 256 ^ F.quarter in
      let few : r / w < 256 = (div-lt_iff_lt-mul {k = w} power_some).1 (omega (arith, F.limit-most)) in
      let low : r / w % 256 ≡ r / w = mod-eq_of_lt few in
      ap (λ (x : ℕ). r % w + w * x) low ∙ add_comm (r % w) (w * (r / w)) ∙ ap (λ (x : ℕ). x + r % w) (mul_comm w (r / w)) ∙ div-add-mod' r w

  -- none waits where a register has no more than a guard's bits
  pub none_kept : (value waiting : ℕ) → register_from F value waiting < 256 ^ F.quarter → waiting ≡ 0
  none_kept value zero h = refl
  none_kept value (suc waiting) h = absurd (omega (arith, mul-suc (256 ^ F.quarter) waiting))
