-- Block numbers and pairs of a stripe and a data index: there, back, and the bounds. A block number has three digits,
-- (g * d + i) * c + k, of which the stripe g * c + k keeps the first and the last. Assumes nothing.
use Rattle.std.proofs.Common.{◌≡◌, ℕ, ◌+◌, ◌*◌, ◌/◌, ◌%◌, ◌^◌, ◌<◌, ◌≤◌, sym, ap, ◌∙◌, add-zero, mod-lt, add-mul, mul-le-mul, div-add-mod', zero-mul, mul-one, mul_right_comm, le-mul_of_pos_right, div-one, arith}
use native.Mathlib.Nat.{mod-one}
use Rattle.layout.specs.Arrays.{data_members, block_count}
use Rattle.layout.specs.Places.{parity_member, lowest_block, block_at, stripe_of, index_of}
use Rattle.layout.specs.declared.Array.{Array}
use Rattle.layout.specs.Ranges.{Sound, SoundStripe, SoundBlock}
use Rattle.layout.proofs.Rows.{digit_high, digit_low, digits-below, high_below, whole, three-digits}

module _ (a : Array) where
  -- ---- the digits

  block-digits : (stripe index : ℕ) → block_at a stripe index ≡ (stripe / a.row * data_members a + index) * a.row + stripe % a.row
  unfolding block_at lowest_block
  block-digits stripe index = rw (add-mul (stripe / a.row * data_members a) index a.row) (omega arith)

  pub lowest-first : (stripe : ℕ) → block_at a stripe 0 ≡ lowest_block a stripe
  unfolding block_at
  lowest-first stripe = rw (zero-mul, add-zero)

  block_high : (stripe index : ℕ) → 1 ≤ a.row → block_at a stripe index / a.row ≡ stripe / a.row * data_members a + index
  block_high stripe index c =
      rw (block-digits stripe index) (digit_high (stripe / a.row * data_members a + index) a.row (stripe % a.row) (mod-lt stripe c))

  block-low : (stripe index : ℕ) → 1 ≤ a.row → block_at a stripe index % a.row ≡ stripe % a.row
  block-low stripe index c =
      rw (block-digits stripe index) (digit_low (stripe / a.row * data_members a + index) a.row (stripe % a.row) (mod-lt stripe c))

  -- ---- there and back

  pub stripe_of_block : (stripe index : ℕ) → 1 ≤ a.row → index < data_members a → stripe_of a (block_at a stripe index) ≡ stripe
  unfolding stripe_of
  stripe_of_block stripe index c h =
      rw (block_high stripe index c, block-low stripe index c, digit_high (stripe / a.row) (data_members a) index h) (div-add-mod' stripe a.row)

  pub index_of_block : (stripe index : ℕ) → 1 ≤ a.row → index < data_members a → index_of a (block_at a stripe index) ≡ index
  unfolding index_of
  index_of_block stripe index c h = rw (block_high stripe index c) (digit_low (stripe / a.row) (data_members a) index h)

  pub block_of_parts : (block : ℕ) → block_at a (stripe_of a block) (index_of a block) ≡ block
  unfolding stripe_of index_of
  block_of_parts block = block-digits (stripe_of a block) (index_of a block) ∙ three-digits block a.row (data_members a)

  -- ---- the bounds

  pub index_in_stripe : (block : ℕ) → Sound a → index_of a block < data_members a
  unfolding index_of
  index_in_stripe block h = mod-lt (block / a.row) (omega arith)

  -- S x d is the number of rows of stripes times d x c
  count_by_rows : Sound a → block_count a ≡ a.stripes / a.row * data_members a * a.row
  count_by_rows h =
      ap (λ (s : ℕ). s * data_members a) (sym (whole a.stripes a.row h.row_whole)) ∙ mul_right_comm (a.stripes / a.row) a.row (data_members a)

  pub stripe_in_array : (block : ℕ) → SoundBlock a block → stripe_of a block < a.stripes
  unfolding stripe_of
  stripe_in_array block h =
      let s = h.array in
      let d : 0 < data_members a = omega arith in
      let rows = a.stripes / a.row in
      let line : block / a.row < rows * data_members a = high_below block (rows * data_members a) a.row s.row_some (rw (count_by_rows s) at h.here) in
      let row : block / a.row / data_members a < rows = high_below (block / a.row) rows (data_members a) d line in
      rw (whole a.stripes a.row s.row_whole) at
      (digits-below (block / a.row / data_members a) rows a.row (block % a.row) row (mod-lt block s.row_some))

  pub block_in_array : (stripe index : ℕ) → SoundStripe a stripe → index < data_members a → block_at a stripe index < block_count a
  block_in_array stripe index h i =
      let s = h.array in
      let rows = a.stripes / a.row in
      let row : stripe / a.row < rows = high_below stripe rows a.row s.row_some (rw (whole a.stripes a.row s.row_whole) h.here) in
      rw (block-digits stripe index, count_by_rows s)
      (digits-below (stripe / a.row * data_members a + index) (rows * data_members a) a.row (stripe % a.row)
      (digits-below (stripe / a.row) rows (data_members a) index row i)
      (mod-lt stripe s.row_some))

  pub lowest_sound : (stripe : ℕ) → SoundStripe a stripe → SoundBlock a (lowest_block a stripe)
  lowest_sound stripe h =
      let d : 0 < data_members a = omega arith in
      record { array = h.array; here = rw (lowest-first stripe) at (block_in_array stripe 0 h d) }

  pub stripe_by_lowest : (stripe next : ℕ) → Sound a → lowest_block a stripe ≡ lowest_block a next → stripe ≡ next
  stripe_by_lowest stripe next h e =
      let d : 0 < data_members a = omega arith in
      let back : (s : ℕ) → stripe_of a (lowest_block a s) ≡ s = λ s. rw (lowest-first s) at (stripe_of_block s 0 h.row_some d) in
      sym (back stripe) ∙ ap (stripe_of a) e ∙ back next

  pub block-count_small : Sound a → block_count a ≤ 1030792151040
  block-count_small h = let d : data_members a ≤ 15 = omega arith in mul-le-mul h.most d

  -- a block number has forty bits
  pub block_small : (block : ℕ) → SoundBlock a block → block < 2 ^ 40
  block_small block h = omega (arith, block-count_small h.array)

  -- ---- what the code computes fits

  pub lowest-fits : (stripe : ℕ) → SoundStripe a stripe → stripe / a.row * data_members a * a.row + stripe % a.row < 2 ^ 40
  unfolding lowest_block
  lowest-fits stripe h = block_small (lowest_block a stripe) (lowest_sound stripe h)

  pub rows_fit : (stripe : ℕ) → SoundStripe a stripe → stripe / a.row * data_members a < 2 ^ 40
  rows_fit stripe h = omega (arith, lowest-fits stripe h, le-mul_of_pos_right (stripe / a.row * data_members a) h.array.row_some)

  pub stripe-fits : (block : ℕ) → SoundBlock a block → block / a.row / data_members a * a.row + block % a.row < 2 ^ 40
  unfolding stripe_of
  stripe-fits block h = omega (arith, stripe_in_array block h, h.array.most)

  -- ---- at row length 1 it is the layout of outline 01

  module _ (one : a.row ≡ 1) where
    pub one-parity : (stripe : ℕ) → parity_member a stripe ≡ stripe % a.members
    unfolding parity_member
    one-parity stripe = rw (one, div-one)

    pub one-lowest : (stripe : ℕ) → lowest_block a stripe ≡ stripe * data_members a
    unfolding lowest_block
    one-lowest stripe = rw (one, div-one, mod-one, mul-one, add-zero)

    pub one_block : (stripe index : ℕ) → block_at a stripe index ≡ stripe * data_members a + index
    unfolding block_at
    one_block stripe index = rw (one-lowest stripe, one, mul-one)

    pub one-stripe : (block : ℕ) → stripe_of a block ≡ block / data_members a
    unfolding stripe_of
    one-stripe block = rw (one, div-one, mod-one, mul-one, add-zero)

    pub one_index : (block : ℕ) → index_of a block ≡ block % data_members a
    unfolding index_of
    one_index block = rw (one, div-one)

  -- ---- within a row: on every member, the next stripe of the row holds the next block

  module _ (stripe k : ℕ) (within : stripe % a.row + k < a.row) where
    same_row : (stripe + k) / a.row ≡ stripe / a.row
    same_row =
        let digits : stripe + k ≡ stripe / a.row * a.row + (stripe % a.row + k) = omega (arith, div-add-mod' stripe a.row) in
        rw digits (digit_high (stripe / a.row) a.row (stripe % a.row + k) within)

    further : (stripe + k) % a.row ≡ stripe % a.row + k
    further =
        let digits : stripe + k ≡ stripe / a.row * a.row + (stripe % a.row + k) = omega (arith, div-add-mod' stripe a.row) in
        rw digits (digit_low (stripe / a.row) a.row (stripe % a.row + k) within)

    pub row_parity : parity_member a (stripe + k) ≡ parity_member a stripe
    unfolding parity_member
    row_parity = rw same_row

    pub row_lowest : lowest_block a (stripe + k) ≡ lowest_block a stripe + k
    unfolding lowest_block
    row_lowest = rw (same_row, further) (omega arith)

    pub row_block : (index : ℕ) → block_at a (stripe + k) index ≡ block_at a stripe index + k
    unfolding block_at
    row_block index = rw row_lowest (omega arith)
