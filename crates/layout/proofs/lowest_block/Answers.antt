-- `lowest_block` is `lowest_cut`, on any numbers: the product fits, and where the row length is 0 it is 0. Assumes nothing.
use Rattle.std.proofs.Common.{ℕ, zero, suc, ◌+◌, ◌*◌, ◌%◌, ◌<◌, ◌≤◌, mod-lt, mul-le-mul, mul-zero, arith, rules}
use native.Mathlib.Nat.{mod-zero}
use Rattle.layout.specs.Places.{lowest_cut}
use Rattle.layout.proofs.lowest_block.Goals as goal

-- forty bits times four, times a byte, and what is left of a number by that byte
rows_small : (g d : ℕ) → g % 1099511627776 * (d % 16) ≤ 17592186044416
rows_small g d =
    let rows : g % 1099511627776 ≤ 1099511627776 = omega arith in
    let few : d % 16 ≤ 16 = omega arith in
    mul-le-mul rows few

blocks_small : (p row : ℕ) → p ≤ 17592186044416 → row < 256 → p * row ≤ 4503599627370496
blocks_small p row h short = let most : row ≤ 256 = omega arith in mul-le-mul h most

sum_small : (p row stripe : ℕ) → p ≤ 17592186044416 → row < 256 → stripe < 18446744073709551616 → p * row + stripe % row < 18446744073709551616
sum_small p zero stripe h short wide = rw (mul-zero, mod-zero) (omega arith)
sum_small p (suc row) stripe h short wide =
    let left : stripe % suc row < suc row = mod-lt stripe (omega arith) in
    omega (arith, blocks_small p (suc row) h short)

pub overflow_mul-result : goal.overflow_mul-result
overflow_mul-result c = omega (arith, rows_small c.over.result c.data_members.result)

pub overflow_mul-result-2 : goal.overflow_mul-result-2
overflow_mul-result-2 c =
    let g = c.over.result in
    let d = c.data_members.result in
    let a = c.args in
    let short : a.array.row < 256 = search rules in
    omega (arith, blocks_small (g % 1099511627776 * (d % 16)) a.array.row (rows_small g d) short)

pub overflow_add-result : goal.overflow_add-result
overflow_add-result c =
    let g = c.over.result in
    let d = c.data_members.result in
    let a = c.args in
    let short : a.array.row < 256 = search rules in
    let wide : a.stripe < 18446744073709551616 = search rules in
    omega (arith, c.rest.ensures, sum_small (g % 1099511627776 * (d % 16)) a.array.row a.stripe (rows_small g d) short wide)

pub returns : goal.returns
unfolding lowest_cut
returns c = rw (c.rest.ensures, c.data_members.ensures, c.over.ensures)
