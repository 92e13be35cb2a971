-- Each answer is the guard of the actual bytes. The idea: n zero bytes multiply a register by x ^ 8, n times over, and the factors that the
-- digits of n choose multiply to the same; a run after another is the first with zeros in its place, combined with it.
-- Assumes nothing.
use mathlib.Core.Path.{◌≡◌, sym, ap, ap₂, ◌∙◌}
use mathlib.Core.List.{List, [], ◌∷◌, ◌++◌, map, flatten, append-nil, append_assoc}
use Prim.Native.Nat.{ℕ, zero, suc, ◌^◌, ◌<◌}
use lib.Dec.{lit<}
use lib.ListN.{length, get_or, replicate, length-replicate}
use lib.Bits.{bit_xor, xor_zero_r}
use Rattle.xor.specs.Xors.{xors}
use Rattle.xor.proofs.Lists.{zeros-xors}
use Rattle.crc.specs.Crc.{bits, bits_of, feed}
use Rattle.crc.specs.Guard.{generator, run, guard}
use Rattle.join.specs.Remainders.{product, chosen, scaled}
use Rattle.join.specs.Joins.{byte_factor, byte_inverse, factors, inverses, add_zeros, remove_zeros, combine, join, Piece, join_all}
use Rattle.crc.proofs.Joined.{run-joined, run-nil}
use Rattle.crc.proofs.Linear.{run_linear, guard_linear}
use Rattle.crc.proofs.Noticed.{run-lt, guard-lt}
use Rattle.join.proofs.Products.{one_product, product-one, product_zeros, product_lt}
use Rattle.join.proofs.Scaling.{scaled-none, scaled-over, scaled_swap, scaled_undone, squares-at, squares-lt, times_over}
use Rattle.join.proofs.Factors.{length-factors, length-inverses, factors_undone, inverses_undone, one_round}

byte_lt : byte_factor < 2 ^ 16
byte_lt = run-lt 1 (0 ∷ []) (lit< tt)

-- one zero byte
one-zero : (r : ℕ) → r < 2 ^ 16 → product 16 generator r byte_factor ≡ run r (0 ∷ [])
unfolding run bits_of bits
one-zero r h =
    product_zeros 16 generator (lit< tt) 8 r 1 h (lit< tt)
    ∙ ap (λ (x : ℕ). feed 16 generator x (replicate 8 0)) (product-one 16 generator (lit< tt) r h (lit< tt))

-- n of them
many-zeros : (n r : ℕ) → r < 2 ^ 16 → times_over 16 generator byte_factor n r ≡ run r (replicate n 0)
unfolding times_over
many-zeros zero r h = sym (run-nil r)
many-zeros (suc n) r h =
    many-zeros n (product 16 generator r byte_factor) (product_lt 16 generator (lit< tt) r byte_factor h)
    ∙ ap (λ (x : ℕ). run x (replicate n 0)) (one-zero r h) ∙ sym (run-joined r (0 ∷ []) (replicate n 0))

-- each factor is what its number of zero bytes makes of 1: x ^ (8 * 2 ^ k)
pub factor_at : (k : ℕ) → k < 32 → get_or factors k 0 ≡ run 1 (replicate (2 ^ k) 0)
unfolding factors
factor_at k h =
    sym (one_product 16 generator (get_or factors k 0) (squares-lt 16 generator (lit< tt) 32 byte_factor byte_lt k))
    ∙ squares-at 16 generator (lit< tt) 32 byte_factor k 1 byte_lt (lit< tt) h ∙ many-zeros (2 ^ k) 1 (lit< tt)

-- zeros added to any register
pub add-zeros-run : (r n : ℕ) → r < 2 ^ 16 → n < 2 ^ 32 → add_zeros r n ≡ run r (replicate n 0)
unfolding add_zeros factors
add-zeros-run r n hr hn = scaled-over 16 generator (lit< tt) 32 byte_factor r n byte_lt hr hn ∙ many-zeros n r hr

-- a join of any two registers
pub join-run : (a b n : ℕ) → a < 2 ^ 16 → n < 2 ^ 32 → join a b n ≡ bit_xor (run a (replicate n 0)) b
unfolding join
join-run a b n ha hn = ap (λ (r : ℕ). bit_xor r b) (add-zeros-run a n ha hn)

-- ---- any registers, any number of zeros

factors-lt : (k : ℕ) → get_or factors k 0 < 2 ^ 16
unfolding factors
factors-lt = squares-lt 16 generator (lit< tt) 32 byte_factor byte_lt

inverses-lt : (k : ℕ) → get_or inverses k 0 < 2 ^ 16
unfolding inverses
inverses-lt = squares-lt 16 generator (lit< tt) 32 byte_inverse (lit< tt)

-- zeros added and taken off, and taken off and added
pub added_removed : (r n : ℕ) → r < 2 ^ 16 → remove_zeros (add_zeros r n) n ≡ r
unfolding add_zeros remove_zeros
added_removed r n h =
    scaled_undone 16 generator (lit< tt) factors inverses r n factors-lt inverses-lt (length-factors ∙ sym length-inverses)
    (factors_undone ∙ ap (λ (m : ℕ). replicate m 1) (sym length-factors)) h

pub removed_added : (r n : ℕ) → r < 2 ^ 16 → add_zeros (remove_zeros r n) n ≡ r
unfolding add_zeros remove_zeros
removed_added r n h =
    scaled_undone 16 generator (lit< tt) inverses factors r n inverses-lt factors-lt (length-inverses ∙ sym length-factors)
    (inverses_undone ∙ ap (λ (m : ℕ). replicate m 1) (sym length-inverses)) h

-- no zeros
pub add_none : (r : ℕ) → add_zeros r 0 ≡ r
unfolding add_zeros
add_none r = scaled-none 16 generator factors r

pub remove_none : (r : ℕ) → remove_zeros r 0 ≡ r
unfolding remove_zeros
remove_none r = scaled-none 16 generator inverses r

-- a run of no bytes joined
pub join-none : (a b : ℕ) → join a b 0 ≡ combine a b
unfolding join
join-none a b = ap (λ (r : ℕ). bit_xor r b) (add_none a)

-- ---- the four calls on the guards of runs

pub add-zeros-guard : (a : List ℕ) (n : ℕ) → n < 2 ^ 32 → add_zeros (guard a) n ≡ guard (a ++ replicate n 0)
unfolding guard
add-zeros-guard a n h = add-zeros-run (guard a) n (guard-lt a) h ∙ sym (run-joined 0 a (replicate n 0))

pub remove_zeros-guard : (a : List ℕ) (n : ℕ) → n < 2 ^ 32 → remove_zeros (guard (a ++ replicate n 0)) n ≡ guard a
remove_zeros-guard a n h = ap (λ (r : ℕ). remove_zeros r n) (sym (add-zeros-guard a n h)) ∙ added_removed (guard a) n (guard-lt a)

pub join-guard : (a b : List ℕ) → length b < 2 ^ 32 → join (guard a) (guard b) (length b) ≡ guard (a ++ b)
unfolding guard
join-guard a b h =
    join-run (guard a) (guard b) (length b) (guard-lt a) h
    ∙ sym (run_linear (guard a) 0 (replicate (length b) 0) b (length-replicate (length b) 0))
    ∙ ap₂ run (xor_zero_r (guard a)) (zeros-xors b) ∙ sym (run-joined 0 a b)

pub combine-guard : (a b : List ℕ) → length a ≡ length b → combine (guard a) (guard b) ≡ guard (xors a b)
combine-guard a b h = sym (guard_linear a b h)

-- ---- a record of many runs

-- what is kept of a run
pub piece_of : List ℕ → Piece
piece_of a = record { guard = guard a; length = length a }

-- after a first run
pub join-all-after : (a : List ℕ) (runs : List (List ℕ)) → ((k : ℕ) → length (get_or runs k []) < 2 ^ 32)
    → join_all (guard a) (map piece_of runs) ≡ guard (a ++ flatten runs)
unfolding join_all piece_of flatten
join-all-after a [] h = ap guard (sym (append-nil a))
join-all-after a (b ∷ runs) h =
    ap (λ (r : ℕ). join_all r (map piece_of runs)) (join-guard a b (h 0))
    ∙ join-all-after (a ++ b) runs (λ k. h (suc k)) ∙ ap guard (append_assoc a b (flatten runs))

-- the guard of a record is that of its pieces joined, each shorter than 2 ^ 32 bytes; together they may be longer
pub join-all-guard : (runs : List (List ℕ)) → ((k : ℕ) → length (get_or runs k []) < 2 ^ 32) → join_all 0 (map piece_of runs) ≡ guard (flatten runs)
unfolding guard
join-all-guard runs h = ap (λ (r : ℕ). join_all r (map piece_of runs)) (sym (run-nil 0)) ∙ join-all-after [] runs h

-- ---- what a guard does not tell

-- 65,535 zero bytes leave every guard as it was
pub unseen_zeros : (r : ℕ) → r < 2 ^ 16 → add_zeros r 65535 ≡ r
unfolding add_zeros chosen
unseen_zeros r h =
    ap (λ (x : ℕ). scaled 16 generator factors x 65535) (sym (one_product 16 generator r h))
    ∙ sym (scaled_swap 16 generator (lit< tt) factors 1 65535 r 1) ∙ ap (λ (x : ℕ). product 16 generator x r) one_round ∙ one_product 16 generator r h

-- so two runs of different lengths, both shorter than 2 ^ 32, can have one guard
pub unseen_zeros-guard : (a : List ℕ) → guard (a ++ replicate 65535 0) ≡ guard a
unseen_zeros-guard a = sym (add-zeros-guard a 65535 (lit< tt)) ∙ unseen_zeros (guard a) (guard-lt a)
