-- The check, which starts and ends at all ones, goes through exclusive-or up to the check of zeros: that comes in once for each run that is
-- added. So runs that combine to zeros have checks that combine to 0 where they are even in number, to the check of zeros where they are odd.
-- Assumes nothing.
use mathlib.Core.Path.{◌≡◌, refl, sym, ap, ap₂, ◌∙◌}
use mathlib.Core.List.{List, [], ◌∷◌, map}
use Prim.Native.Nat.{ℕ, suc, ◌*◌, ◌%◌, ◌<◌}
use native.Mathlib.Nat.{mul-zero, mul-one, zero-lt-suc}
use native.Mathlib.Omega.{arith}
use lib.ListN.{length, get_or, replicate, length-replicate}
use lib.Bits.{bit_xor, xor_zero_r, xor_self}
use Rattle.xor.specs.Xors.{xors, add_all, combination}
use Rattle.xor.proofs.Bits.{bit_elim, xor-four, xor_assoc, xor_undo, xor_eq, odd-lt}
use Rattle.xor.proofs.Lists.{xors-zeros, length-xors}
use Rattle.castagnoli.specs.Castagnoli.{ones, advance, crc32c}
use Rattle.castagnoli.proofs.Linear.{advance_linear}

-- the check of n zeros
abbrev pub blank : ℕ → ℕ
blank n = crc32c (replicate n 0)

-- two equally long runs
pub crc32c-xors : (a b : List ℕ) → length a ≡ length b → crc32c (xors a b) ≡ bit_xor (bit_xor (crc32c a) (crc32c b)) (blank (length a))
unfolding crc32c
crc32c-xors a b h =
    ap (λ (r : ℕ). bit_xor r ones)
    (ap (advance ones) (sym (xors-zeros (xors a b) (length a)))
    ∙ advance_linear 0 ones (xors a b) z (length-xors a b ∙ sym (length-replicate {A = ℕ} (length a) 0))
    ∙ ap (λ (r : ℕ). bit_xor r (advance ones z)) (advance_linear ones ones a b h))
    ∙ xor_assoc (bit_xor (advance ones a) (advance ones b)) (advance ones z) ones
    ∙ ap (λ (r : ℕ). bit_xor r (bit_xor (advance ones z) ones)) (sym (xor-four (advance ones a) ones (advance ones b) ones ∙ xor_zero_r (bit_xor (advance ones a) (advance ones b))))
  where
    z : List ℕ
    z = replicate (length a) 0

-- numbers combined
abbrev pub together : List ℕ → ℕ
together [] = 0
together (x ∷ l) = bit_xor x (together l)

-- each of the runs is n long
abbrev pub Long : ℕ → List (List ℕ) → Type 0
Long n runs = (i : ℕ) → i < length runs → length (get_or runs i []) ≡ n

-- runs added to one
crc32c-all : (n : ℕ) (a : List ℕ) (runs : List (List ℕ)) → length a ≡ n → Long n runs
    → crc32c (add_all a runs) ≡ bit_xor (crc32c a) (bit_xor (together (map crc32c runs)) (blank n * (length runs % 2)))
unfolding add_all
crc32c-all n a [] h l = sym (ap (bit_xor (crc32c a)) (mul-zero (blank n)) ∙ xor_zero_r (crc32c a))
crc32c-all n a (b ∷ runs) h l =
    crc32c-all n (xors a b) runs (length-xors a b ∙ h) (λ i g. l (suc i) (omega arith))
    ∙ ap (λ (x : ℕ). bit_xor x (bit_xor t (c * p))) (crc32c-xors a b (h ∙ sym (l 0 (zero-lt-suc (length runs)))) ∙ ap (λ (k : ℕ). bit_xor (bit_xor (crc32c a) (crc32c b)) (blank k)) h)
    ∙ xor-four (bit_xor (crc32c a) (crc32c b)) c t (c * p)
    ∙ ap₂ bit_xor (xor_assoc (crc32c a) (crc32c b) t) turned
    ∙ xor_assoc (crc32c a) (bit_xor (crc32c b) t) (c * (suc (length runs) % 2))
  where
    t : ℕ
    t = together (map crc32c runs)

    c : ℕ
    c = blank n

    p : ℕ
    p = length runs % 2

    turned : bit_xor c (c * p) ≡ c * (suc (length runs) % 2)
    turned =
        bit_elim (λ (q : ℕ). p ≡ q → bit_xor c (c * q) ≡ c * (suc (length runs) % 2))
        (λ e. let one : suc (length runs) % 2 ≡ 1 = omega arith in simp (mul-zero, xor_zero_r, one, mul-one))
        (λ e. let none : suc (length runs) % 2 ≡ 0 = omega arith in simp (mul-one, xor_self, none, mul-zero))
        p (odd-lt (length runs)) refl

-- runs of n bytes that combine to zeros
pub crc32c-combined : (n : ℕ) (runs : List (List ℕ)) → Long n runs → combination n runs ≡ replicate n 0
    → together (map crc32c runs) ≡ blank n * (length runs % 2)
crc32c-combined n runs l e =
    xor_eq t m (sym (xor_undo c (bit_xor t m)) ∙ ap (bit_xor c) (sym (crc32c-all n (replicate n 0) runs (length-replicate {A = ℕ} n 0) l) ∙ ap crc32c e) ∙ xor_self c)
  where
    t : ℕ
    t = together (map crc32c runs)

    c : ℕ
    c = blank n

    m : ℕ
    m = c * (length runs % 2)

-- an even number of them
pub crc32c-even : (n : ℕ) (runs : List (List ℕ)) → Long n runs → combination n runs ≡ replicate n 0 → length runs % 2 ≡ 0
    → together (map crc32c runs) ≡ 0
crc32c-even n runs l e p = crc32c-combined n runs l e ∙ ap (λ (q : ℕ). blank n * q) p ∙ mul-zero (blank n)

-- an odd number of them
pub crc32c-odd : (n : ℕ) (runs : List (List ℕ)) → Long n runs → combination n runs ≡ replicate n 0 → length runs % 2 ≡ 1
    → together (map crc32c runs) ≡ blank n
crc32c-odd n runs l e p = crc32c-combined n runs l e ∙ ap (λ (q : ℕ). blank n * q) p ∙ mul-one (blank n)
