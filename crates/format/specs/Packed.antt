-- The register of the checksum as one number, and the laws that a format asks of it. Assumes nothing.
use Rattle.std.specs.Prelude.{◌≡◌, List, [], ◌++◌, Bool, true, false, ◌&&◌, ℕ, ◌+◌, ◌*◌, ◌/◌, ◌%◌, ◌^◌, ◌<◌, eqb, ltb, length, take}
use Rattle.std.proofs.Common.{sym, ap, ◌∙◌, arith, lt-ltb, eq-eqb, lit<, take_all, length-take-le}
use Rattle.std.proofs.Math.Decide.{ℕ_discrete, dec_lt}
use Rattle.checksum.specs.Checksum.{first}
use Rattle.checksum.specs.declared.Register.{Register}
use Rattle.checksum.specs.Machine.{register_of, advance}
use Rattle.checksum.proofs.Joined as machine

-- the sum, and 65,536 times the byte that waits
unfoldable pub packed : Register → ℕ
packed r = r.value + 65536 * r.waiting

unfoldable pub unpacked : ℕ → Register
unpacked r = register_of (r % 65536) (r / 65536)

-- some bytes, from a position on
unfoldable pub packed_advance : ℕ → ℕ → List ℕ → ℕ
packed_advance at r bytes = packed (advance at (unpacked r) bytes)

-- a byte waits where an odd number of bytes was taken, and not all
unfoldable pub may_wait : ℕ → ℕ → Bool
may_wait size at = eqb (at % 2) 1 && ltb at size

-- ---- nothing is lost

packed-unpacked : (r : ℕ) → packed (unpacked r) ≡ r
unfolding packed unpacked
packed-unpacked r = omega arith

unpacked-packed : (s : Register) → s.value < 65536 → unpacked (packed s) ≡ s
unfolding packed unpacked
unpacked-packed s h =
    let low : (s.value + 65536 * s.waiting) % 65536 ≡ s.value = omega arith in
    let high : (s.value + 65536 * s.waiting) / 65536 ≡ s.waiting = omega arith in
    rw (low, high)

-- a sum has sixteen bits
pub sum_small : (at r : ℕ) (bytes : List ℕ) → (advance at (unpacked r) bytes).value < 65536
unfolding unpacked
sum_small at r bytes = machine.advance_small at (unpacked r) bytes (omega arith)

-- ---- in any cut

pub packed-nil : (at r : ℕ) → packed_advance at r [] ≡ r
unfolding packed_advance
packed-nil at r = ap packed (machine.advance-nil at (unpacked r)) ∙ packed-unpacked r

pub packed-joined : (at r : ℕ) (a b : List ℕ) → packed_advance at r (a ++ b) ≡ packed_advance (at + length a) (packed_advance at r a) b
unfolding packed_advance
packed-joined at r a b =
    ap packed
    (machine.advance-joined at (unpacked r) a b
    ∙ ap (λ (s : Register). advance (at + length a) s b) (sym (unpacked-packed (advance at (unpacked r) a) (sum_small at r a))))

-- ---- three bytes hold it

pub packed_small : (at r : ℕ) (bytes : List ℕ) → r < 2 ^ 24 → packed_advance at r bytes < 2 ^ 24
unfolding packed_advance packed unpacked
packed_small at r bytes h = omega (arith, sum_small at r bytes, machine.waiting_small at (unpacked r) bytes (omega arith))

-- ---- and two, where none waits

even-alone : (r : ℕ) (bytes : List ℕ) → r < 65536 → length bytes % 2 ≡ 0 → packed_advance 0 r bytes < 65536
unfolding packed_advance packed unpacked
even-alone r bytes h even = omega (arith, sum_small 0 r bytes, machine.none-waits 0 (unpacked r) bytes (λ e. omega arith) (omega arith))

pub packed-alone : (half : ℕ) (bytes : List ℕ) → may_wait (2 * half) (length bytes) ≡ false → packed_advance 0 first (take (2 * half) bytes) < 65536
unfolding may_wait
packed-alone half bytes h = by_length (dec_lt (length bytes) (2 * half)) (ℕ_discrete (length bytes % 2) 1)
  where
    by_length : Dec (length bytes < 2 * half) → Dec (length bytes % 2 ≡ 1) → packed_advance 0 first (take (2 * half) bytes) < 65536
    by_length (yes l) (yes odd) = absurd (no_both (rw (eq-eqb (length bytes % 2) 1 odd, lt-ltb (length bytes) (2 * half) l) at h))
      where
        no_both : true ≡ false → ⊥
        no_both e = let o : ◌≡◌ {A = ℕ} 0 1 = cc in omega arith
    by_length (yes l) (no even) = even-alone first (take (2 * half) bytes) (lit< tt) (ap (λ (l : List ℕ). length l % 2) (take_all (2 * half) bytes (omega arith)) ∙ omega arith)
    by_length (no l) odd = even-alone first (take (2 * half) bytes) (lit< tt) (ap (λ (k : ℕ). k % 2) (length-take-le (2 * half) bytes (omega arith)) ∙ omega arith)
