-- What a stripe is found by, once the stripe is one of the array's; and what lies beside it is then what lies there. Assumes nothing.
use Rattle.std.proofs.Common.{◌≡◌, ℕ, ◌+◌, ◌*◌, ◌/◌, ◌%◌, ◌^◌, ◌<◌, ◌≢◌, sym, ap, ◌∙◌, ap₂, mod-eq_of_lt, div-le_self, arith, eq-eqb, ne_eqb}
use native.Mathlib.Decide.{ℕ_discrete}
use Rattle.layout.specs.Arrays.{data_members}
use Rattle.layout.specs.Places.{parity_member, lowest_block, lowest_cut, block_at, seat_of, index_at, beside_numbers, owner_refusal, owner_numbers}
use Rattle.layout.specs.Ranges.{SoundStripe}
use Rattle.layout.specs.declared.Array.{Array}
use Rattle.layout.specs.declared.Seat.{Seat}
use Rattle.layout.proofs.Ranges.{place_sound}
use Rattle.layout.proofs.Members.{index_below}
use Rattle.layout.proofs.Numbers.{owner_of_parity, owner_of_data, index_right}
use Rattle.layout.proofs.Bijection.{owned_sound}
use Rattle.layout.proofs.Blocks.{block_small}

-- in a stripe of the array nothing is cut
pub lowest_uncut : (a : Array) (stripe : ℕ) → SoundStripe a stripe → lowest_cut a stripe ≡ lowest_block a stripe
unfolding lowest_cut lowest_block
lowest_uncut a stripe h =
    let rows : stripe / a.row < 1099511627776 = omega (arith, div-le_self stripe a.row, h.here, h.array.most) in
    let few : data_members a < 16 = omega (arith, h.array.many) in
    ap₂ (λ (g d : ℕ). g * d * a.row + stripe % a.row) (mod-eq_of_lt rows) (mod-eq_of_lt few)

-- with the row length and what the stripe is found by, on one of its members
module _ (a : Array) (stripe member : ℕ) (here : owner_refusal a stripe member ≡ 0) where
  -- the index is small, and so is the block number
  module _ (other : member ≢ parity_member a stripe) where
    index_small : index_at a stripe member < 256
    index_small =
        let s = place_sound a stripe member here in
        omega (arith, index_below a stripe member s.here other, s.stripe.array.many)

    block-there : (lowest_block a stripe + index_at a stripe member % 256 * a.row) % 2 ^ 64 ≡ block_at a stripe (index_at a stripe member)
    unfolding block_at
    block-there =
        ap (λ (i : ℕ). (lowest_block a stripe + i * a.row) % 2 ^ 64) (mod-eq_of_lt index_small)
        ∙ mod-eq_of_lt (omega (arith, block_small a (lowest_block a stripe + index_at a stripe member * a.row) (owned_sound a stripe member here other)))

  pub beside_owner : (seat : Seat) → seat ≡ seat_of a stripe → beside_numbers a.row seat member ≡ owner_numbers a stripe member
  unfolding beside_numbers
  beside_owner seat e = by_kind (ℕ_discrete member (parity_member a stripe))
    where
      parity : seat.parity ≡ parity_member a stripe
      parity = ap (λ (s : Seat). s.parity) e

      lowest : seat.lowest ≡ lowest_block a stripe
      lowest = ap (λ (s : Seat). s.lowest) e ∙ lowest_uncut a stripe (place_sound a stripe member here).stripe

      by_kind : Dec (member ≡ parity_member a stripe) → beside_numbers a.row seat member ≡ owner_numbers a stripe member
      by_kind (yes p) = rw (eq-eqb member seat.parity (p ∙ sym parity), lowest, owner_of_parity a stripe member here p)
      by_kind (no o) =
          rw (ne_eqb member seat.parity (λ p. o (p ∙ parity)), lowest, index_right a stripe seat.parity member parity, block-there o, owner_of_data a stripe member here o)
