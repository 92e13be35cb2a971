-- The sum is the weighted sum of the words, reduced by 65,535; so it is never zero. Assumes nothing.
use mathlib.Core.Path.{◌≡◌, refl, sym, ap, ◌∙◌}
use mathlib.Core.List.{List, [], ◌∷◌, ◌++◌}
use Prim.Native.Nat.{ℕ, suc, ◌+◌, ◌*◌, ◌%◌, ◌^◌, ◌<◌}
use native.Mathlib.Nat.{mul-one, mul_assoc, add-mul, add_assoc, pow-succ', add-zero, mul-add-mod_self_left}
use native.Mathlib.Omega.{arith}
use lib.ListN.{length}
use Rattle.checksum.specs.Checksum.{words, sums, first, checksum}
use Rattle.checksum.specs.Weights.{weighted, made, reduced}
use Rattle.checksum.proofs.Reduced.{reduced-lt, reduced-pos, reduced_small, reduced-add, reduced-reduced, reduced-mod, reduced-twice, taken-reduced, own}
use Rattle.checksum.proofs.Words.{Words, words_small}

pub made-weighted : (s : ℕ) (ws : List ℕ) → made s ws ≡ s * 2 ^ length ws + weighted ws
unfolding made weighted
made-weighted s [] = sym (add-zero (s * 1) ∙ mul-one s)
made-weighted s (w ∷ ws) =
    let t = 2 ^ length ws in
    let twice : s * 2 * t ≡ s * 2 ^ suc (length ws) = mul_assoc s 2 t ∙ ap (λ (x : ℕ). s * x) (sym (pow-succ' 2 (length ws))) in
    made-weighted (s * 2 + w) ws
    ∙ ap (λ (x : ℕ). x + weighted ws) (add-mul (s * 2) w t ∙ ap (λ (x : ℕ). x + w * t) twice)
    ∙ add_assoc (s * 2 ^ suc (length ws)) (w * t) (weighted ws)

pub made-append : (s : ℕ) (a b : List ℕ) → made s (a ++ b) ≡ made (made s a) b
unfolding made
made-append s [] b = refl
made-append s (w ∷ a) b = made-append (s * 2 + w) a b

-- a start may be reduced first
pub reduced-made : (s : ℕ) (ws : List ℕ) → reduced (made (reduced s) ws) ≡ reduced (made s ws)
unfolding made
reduced-made s [] = reduced-reduced s
reduced-made s (w ∷ ws) =
    sym (reduced-made (reduced s * 2 + w) ws)
    ∙ ap (λ (x : ℕ). reduced (made x ws)) (sym (reduced-add (reduced s * 2) w) ∙ ap (λ (x : ℕ). reduced (x + w)) (reduced-twice s) ∙ reduced-add (s * 2) w)
    ∙ reduced-made (s * 2 + w) ws

-- the sum, exactly
pub sums-made : (s : ℕ) (ws : List ℕ) → s < 65536 → Words ws → sums s ws ≡ reduced (made s ws)
unfolding made sums
sums-made s [] h small = sym (reduced_small s h)
sums-made s (w ∷ ws) h small =
    ap (λ (x : ℕ). sums x ws) (taken-reduced s w h (small 0))
    ∙ sums-made (reduced (s * 2 + w)) ws (reduced-lt (s * 2 + w)) (λ k. small (suc k))
    ∙ reduced-made (s * 2 + w) ws

pub sums-weighted : (s : ℕ) (ws : List ℕ) → s < 65536 → Words ws → sums s ws ≡ reduced (s * 2 ^ length ws + weighted ws)
sums-weighted s ws h small = sums-made s ws h small ∙ ap reduced (made-weighted s ws)

-- it is a sixteen-bit number, and not zero if the start is not
pub sums_lt : (s : ℕ) (ws : List ℕ) → s < 65536 → Words ws → sums s ws < 65536
sums_lt s ws h small = rw (sums-made s ws h small) (reduced-lt (made s ws))

made-pos : (s : ℕ) (ws : List ℕ) → 0 < s → 0 < made s ws
unfolding made
made-pos s [] h = h
made-pos s (w ∷ ws) h = made-pos (s * 2 + w) ws (omega arith)

pub sums-pos : (s : ℕ) (ws : List ℕ) → 0 < s → s < 65536 → Words ws → 0 < sums s ws
sums-pos s ws p h small = rw (sums-made s ws h small) (reduced-pos (made s ws) (made-pos s ws p))

-- ---- the checksum of any run

pub checksum-lt : (bytes : List ℕ) → checksum bytes < 65536
unfolding checksum
checksum-lt bytes = sums_lt first (words bytes) (omega arith) (words_small bytes)

pub never_zero : (bytes : List ℕ) → 0 < checksum bytes
unfolding checksum
never_zero bytes = sums-pos first (words bytes) (omega arith) (omega arith) (words_small bytes)

-- exactly: the start weighs twice what the first word weighs
pub checksum-reduced : (bytes : List ℕ) → checksum bytes ≡ reduced (first * 2 ^ length (words bytes) + weighted (words bytes))
unfolding checksum
checksum-reduced bytes = sums-weighted first (words bytes) (omega arith) (words_small bytes)

-- modulo 65,535 the start weighs nothing
pub checksum-weighted : (bytes : List ℕ) → checksum bytes % 65535 ≡ weighted (words bytes) % 65535
checksum-weighted bytes =
    ap (λ (x : ℕ). x % 65535) (checksum-reduced bytes)
    ∙ reduced-mod (first * 2 ^ length (words bytes) + weighted (words bytes))
    ∙ mul-add-mod_self_left 65535 (2 ^ length (words bytes)) (weighted (words bytes))

-- and of the sixteen-bit numbers but 0 it is the only one with that remainder
pub checksum-only : (bytes : List ℕ) (x : ℕ) → 0 < x → x < 65536 → x % 65535 ≡ weighted (words bytes) % 65535 → x ≡ checksum bytes
checksum-only bytes x p h e = own x (checksum bytes) (p, h) (never_zero bytes, checksum-lt bytes) (e ∙ sym (checksum-weighted bytes))
