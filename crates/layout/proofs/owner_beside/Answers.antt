-- `owner_beside` answers `beside_numbers`, on any numbers. Assumes nothing.
use Rattle.std.proofs.Common.{ℕ, ◌+◌, ◌*◌, ◌%◌, ◌^◌, ◌<◌, ◌≤◌, [], ◌∷◌, ap, ◌∙◌, mul-le-mul, arith, rules, eq-eqb, ne_eqb}
use Rattle.layout.specs.Places.{beside_numbers}
use Rattle.layout.proofs.owner_beside.Goals as goal

-- a byte times a byte
bytes_times : (index row : ℕ) → row < 256 → index % 256 * row ≤ 65025
bytes_times index row h = let few : index % 256 ≤ 255 = omega arith in let short : row ≤ 255 = omega arith in mul-le-mul few short

pub returns-then-member-parity : goal.returns-then-member-parity
unfolding beside_numbers
returns-then-member-parity c = let a = c.args in rw (eq-eqb a.member a.seat.parity c.if-member-parity.true)

pub overflow_mul-index : goal.overflow_mul-index
overflow_mul-index c =
    let a = c.args in
    let short : a.row < 256 = search rules in
    omega (arith, bytes_times c.index_beside-index.result a.row short)

pub returns : goal.returns
unfolding beside_numbers
returns c =
    let a = c.args in
    rw (ne_eqb a.member a.seat.parity c.if-member-parity.false)
    (ap (λ (b : ℕ). 1 ∷ 0 ∷ 0 ∷ b ∷ []) (c.wrapping_add_u64-block.ensures.value ∙ ap (λ (x : ℕ). (a.seat.lowest + x % 256 * a.row) % 2 ^ 64) c.index_beside-index.ensures))
