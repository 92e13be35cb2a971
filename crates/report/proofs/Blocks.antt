-- Bytes that come block after block: so many bytes are whole blocks and the rest of one more, which ends within the stripe.
-- Assumes nothing.
use mathlib.Core.Path.{◌≡◌, sym}
use Prim.Native.Nat.{ℕ, ◌+◌, ◌*◌, ◌/◌, ◌%◌, ◌≤◌, ◌<◌}
use native.Mathlib.Nat.{mod-lt, div-add-mod, div-lt_iff_lt-mul, mul_comm}
use native.Mathlib.Omega.{arith}
use Rattle.format.specs.Formats.{Format, most_stripe}
use Rattle.format.proofs.Sizes.{times-next, block-times}

module _ (F : Format) where
  pub block-some : 0 < F.block_length
  block-some = omega arith

  pub stripe-some : (n : ℕ) → 0 < n → 0 < F.block_length * n
  stripe-some n h = omega (arith, times-next F.block_length 0 n h)

  -- sixteen blocks at most
  pub stripe-most : (n : ℕ) → n ≤ 16 → F.block_length * n ≤ most_stripe
  stripe-most n h = omega (arith, block-times F n)

  module _ (have : ℕ) where
    pub blocks-and-rest : have ≡ F.block_length * (have / F.block_length) + have % F.block_length
    blocks-and-rest = sym (div-add-mod have F.block_length)

    pub rest-short : have % F.block_length < F.block_length
    rest-short = mod-lt have block-some

    module _ (n : ℕ) (short : have < F.block_length * n) where
      pub block-there : have / F.block_length < n
      block-there = (div-lt_iff_lt-mul block-some).1 (rw (mul_comm n F.block_length) short)

      pub block-ends : F.block_length * (have / F.block_length) + F.block_length ≤ F.block_length * n
      block-ends = times-next F.block_length (have / F.block_length) n block-there
