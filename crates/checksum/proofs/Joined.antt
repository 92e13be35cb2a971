-- The machine goes on where it stopped, from every register and every position; and from the start its guard is the checksum.
-- Assumes nothing.
use mathlib.Core.Path.{◌≡◌, refl, sym, ap, ap₂, ◌∙◌}
use mathlib.Core.List.{List, [], ◌∷◌, ◌++◌}
use Prim.Native.Nat.{ℕ, zero, suc, ◌+◌, ◌-◌, ◌*◌, ◌%◌, ◌≤◌, ◌<◌}
use native.Mathlib.Nat.{le_refl, mod-eq_of_lt, mod-mod}
use native.Mathlib.Omega.{arith}
use lib.ListN.{length, get_or, take, drop, length-drop, take-append-drop}
use lib.Seq.{take_all, length-take-le}
use Rattle.checksum.specs.Checksum.{taken, word, words, sums, checksum}
use Rattle.checksum.specs.Machine.{register_of, start, byte_step, advance, guard_of, in_pieces, joined}
use Rattle.checksum.specs.declared.Register.{Register}
use Rattle.checksum.proofs.Reduced.{taken-reduced, reduced-lt}
use Rattle.checksum.proofs.Words.{word_lt}

-- ---- in any cut

pub advance-nil : (at : ℕ) (r : Register) → advance at r [] ≡ r
unfolding advance
advance-nil at r = refl

pub advance-joined : (at : ℕ) (r : Register) (a b : List ℕ) → advance at r (a ++ b) ≡ advance (at + length a) (advance at r a) b
unfolding advance
advance-joined at r [] b = let e : at ≡ at + 0 = omega arith in ap (λ (k : ℕ). advance k r b) e
advance-joined at r (x ∷ a) b =
    let e : suc at + length a ≡ at + suc (length a) = omega arith in
    advance-joined (suc at) (byte_step (at % 2) r x) a b ∙ ap (λ (k : ℕ). advance k (advance (suc at) (byte_step (at % 2) r x) a) b) e

pub pieces-joined : (at : ℕ) (r : Register) (pieces : List (List ℕ)) → in_pieces at r pieces ≡ advance at r (joined pieces)
unfolding in_pieces joined
pieces-joined at r [] = sym (advance-nil at r)
pieces-joined at r (p ∷ pieces) = pieces-joined (at + length p) (advance at r p) pieces ∙ sym (advance-joined at r p (joined pieces))

-- ---- a register stays small

small_step : (p : ℕ) (r : Register) (b : ℕ) → r.value < 65536 → (byte_step p r b).value < 65536
unfolding byte_step
small_step zero r b h = h
small_step (suc p) r b h =
    let w = word r.waiting b in
    rw (taken-reduced r.value w h (word_lt r.waiting b)) (reduced-lt (r.value * 2 + w))

pub advance_small : (at : ℕ) (r : Register) (bytes : List ℕ) → r.value < 65536 → (advance at r bytes).value < 65536
unfolding advance
advance_small at r [] h = h
advance_small at r (b ∷ bytes) h = advance_small (suc at) (byte_step (at % 2) r b) bytes (small_step (at % 2) r b h)

waiting_step : (p : ℕ) (r : Register) (b : ℕ) → (byte_step p r b).waiting < 256
unfolding byte_step
waiting_step zero r b = omega arith
waiting_step (suc p) r b = omega arith

pub waiting_small : (at : ℕ) (r : Register) (bytes : List ℕ) → r.waiting < 256 → (advance at r bytes).waiting < 256
unfolding advance
waiting_small at r [] h = h
waiting_small at r (b ∷ bytes) h = waiting_small (suc at) (byte_step (at % 2) r b) bytes (waiting_step (at % 2) r b)

-- at an even position none waits, if none did where the bytes begin at one
pub none-waits : (at : ℕ) (r : Register) (bytes : List ℕ) → (at % 2 ≡ 0 → r.waiting ≡ 0) → (at + length bytes) % 2 ≡ 0 → (advance at r bytes).waiting ≡ 0
unfolding advance byte_step
none-waits at r [] h even = h (omega arith)
none-waits at r (b ∷ bytes) h even = none-waits (suc at) (byte_step (at % 2) r b) bytes pair (omega arith)
  where
    pair : suc at % 2 ≡ 0 → (byte_step (at % 2) r b).waiting ≡ 0
    pair e = let odd : at % 2 ≡ 1 = omega arith in ap (λ (p : ℕ). (byte_step p r b).waiting) odd

-- ---- two bytes from an even position are a word, and one waits

advance_two : (at : ℕ) (r : Register) (a b : ℕ) (bytes : List ℕ) → at % 2 ≡ 0
    → advance at r (a ∷ b ∷ bytes) ≡ advance (suc (suc at)) (register_of (taken r.value (word a b)) 0) bytes
unfolding advance byte_step word
advance_two at r a b bytes h =
    let odd : suc at % 2 ≡ 1 = omega arith in
    ap₂ (λ (p q : ℕ). advance (suc (suc at)) (byte_step q (byte_step p r a) b) bytes) h odd
    ∙ ap (λ (x : ℕ). advance (suc (suc at)) (register_of (taken r.value (x * 256 + b % 256)) 0) bytes) (mod-mod a 256)

advance-one : (at : ℕ) (r : Register) (a : ℕ) → at % 2 ≡ 0 → advance at r (a ∷ []) ≡ register_of r.value (a % 256)
unfolding advance byte_step
advance-one at r a h = ap (λ (p : ℕ). byte_step p r a) h

-- at an odd position a byte is the pair of the one that waits
advance-pair : (at : ℕ) (r : Register) (b : ℕ) (bytes : List ℕ) → at % 2 ≡ 1
    → advance at r (b ∷ bytes) ≡ advance (suc at) (register_of (taken r.value (word r.waiting b)) 0) bytes
unfolding advance byte_step
advance-pair at r b bytes h = ap (λ (p : ℕ). advance (suc at) (byte_step p r b) bytes) h

-- from an even position its value is the sum of the words
pub advance-sums : (at : ℕ) (r : Register) (bytes : List ℕ) → at % 2 ≡ 0 → (advance at r bytes).value ≡ sums r.value (words bytes)
unfolding sums words
advance-sums at r [] h = ap (λ (s : Register). s.value) (advance-nil at r)
advance-sums at r (a ∷ []) h = ap (λ (s : Register). s.value) (advance-one at r a h)
advance-sums at r (a ∷ b ∷ bytes) h =
    ap (λ (s : Register). s.value) (advance_two at r a b bytes h)
    ∙ advance-sums (suc (suc at)) (register_of (taken r.value (word a b)) 0) bytes (omega arith)

-- from the start the guard is the checksum; a byte that waits is in neither
pub guard-checksum : (bytes : List ℕ) → guard_of (advance 0 start bytes) ≡ checksum bytes
unfolding checksum
guard-checksum bytes = advance-sums 0 start bytes refl

pub pieces-checksum : (pieces : List (List ℕ)) → guard_of (in_pieces 0 start pieces) ≡ checksum (joined pieces)
pieces-checksum pieces = ap (λ (r : Register). guard_of r) (pieces-joined 0 start pieces) ∙ guard-checksum (joined pieces)

-- whole words from an even position: none waits then
pub advance-whole : (at : ℕ) (r : Register) (bytes : List ℕ) → at % 2 ≡ 0 → length bytes % 2 ≡ 0 → 0 < length bytes
    → advance at r bytes ≡ register_of (sums r.value (words bytes)) 0
unfolding sums words
advance-whole at r [] h even some = absurd (omega arith)
advance-whole at r (a ∷ []) h even some = absurd (omega arith)
advance-whole at r (a ∷ b ∷ []) h even some = advance_two at r a b [] h ∙ advance-nil (suc (suc at)) (register_of (taken r.value (word a b)) 0)
advance-whole at r (a ∷ b ∷ c ∷ l) h even some =
    advance_two at r a b (c ∷ l) h ∙ advance-whole (suc (suc at)) (register_of (taken r.value (word a b)) 0) (c ∷ l) (omega arith) (omega arith) (omega arith)

-- after an even number of bytes from the start the register is the checksum, and none waits
pub register-checksum : (bytes : List ℕ) → length bytes % 2 ≡ 0 → advance 0 start bytes ≡ register_of (checksum bytes) 0
unfolding checksum advance sums words
register-checksum [] even = refl
register-checksum (b ∷ bytes) even = advance-whole 0 start (b ∷ bytes) refl even (omega arith)

-- only whether the position is even counts
pub advance-parity : (at by : ℕ) (r : Register) (bytes : List ℕ) → at % 2 ≡ by % 2 → advance at r bytes ≡ advance by r bytes
unfolding advance
advance-parity at by r [] h = refl
advance-parity at by r (b ∷ bytes) h =
    ap (λ (p : ℕ). advance (suc at) (byte_step p r b) bytes) h ∙ advance-parity (suc at) (suc by) (byte_step (by % 2) r b) bytes (omega arith)

-- ---- a run by chunks of n bytes, n even: one more, whose sum is v

pub advance-part : (n : ℕ) (r : Register) (l chunk : List ℕ) (v : ℕ) → n % 2 ≡ 0 → 0 < n → n ≤ length l → chunk ≡ take n l → v ≡ sums r.value (words chunk)
    → advance 0 (register_of v 0) (drop n l) ≡ advance 0 r l
advance-part n r l chunk v whole some fits same e = sym (
    ap (advance 0 r) (sym (take-append-drop n l))
    ∙ advance-joined 0 r part (drop n l)
    ∙ ap (λ (s : Register). advance (0 + length part) s (drop n l)) (advance-whole 0 r part refl (rw long whole) (rw long some) ∙ ap (λ (x : ℕ). register_of x 0) sum)
    ∙ advance-parity (0 + length part) 0 (register_of v 0) (drop n l) (omega (arith, long)))
  where
    part : List ℕ
    part = take n l

    long : length part ≡ n
    long = length-take-le n l fits

    sum : sums r.value (words part) ≡ v
    sum = sym (e ∙ ap (λ (c : List ℕ). sums r.value (words c)) same)

-- ---- by words: two bytes more, a last one, and none

pub advance-two : (r : Register) (l chunk : List ℕ) (v : ℕ) → 1 < length l → chunk ≡ take 2 l → v ≡ taken r.value (word (get_or chunk 0 0) (get_or chunk 1 0))
    → advance 0 (register_of v 0) (drop 2 l) ≡ advance 0 r l
unfolding sums words
advance-two r [] chunk v h e f = absurd (omega arith)
advance-two r (a ∷ []) chunk v h e f = absurd (omega arith)
advance-two r (a ∷ b ∷ l) chunk v h e f =
    advance-part 2 r (a ∷ b ∷ l) (a ∷ b ∷ []) v refl (omega arith) (omega arith) refl
    (f ∙ ap (λ (c : List ℕ). taken r.value (word (get_or c 0 0) (get_or c 1 0))) e)

pub advance-last : (r : Register) (l : List ℕ) (b : ℕ) → 0 < length l → length l < 2 → b ≡ get_or l 0 0 → b < 256 → register_of r.value b ≡ advance 0 r l
advance-last r [] b some h e byte = absurd (omega arith)
advance-last r (a ∷ []) b some h e byte = ap (register_of r.value) (sym (mod-eq_of_lt byte) ∙ ap (λ (x : ℕ). x % 256) e) ∙ sym (advance-one 0 r a refl)
advance-last r (a ∷ c ∷ l) b some h e byte = absurd (omega arith)

-- ---- a piece from any position

-- what is left of a run, as a part of it
pub left_over : (l : List ℕ) (i : ℕ) → take (length l - i) (drop i l) ≡ drop i l
left_over l i = take_all (length l - i) (drop i l) (rw (length-drop i l) (le_refl (length l - i)))

pub advance-empty : (at : ℕ) (r : Register) (l : List ℕ) → length l ≡ 0 → r ≡ advance at r l
advance-empty at r [] h = sym (advance-nil at r)
advance-empty at r (b ∷ l) h = absurd (omega arith)

pub advance-first : (at : ℕ) (r : Register) (l : List ℕ) → at % 2 ≡ 1 → 0 < length l
    → advance 0 (register_of (taken r.value (word r.waiting (get_or l 0 0))) 0) (take (length l - 1) (drop 1 l)) ≡ advance at r l
advance-first at r [] odd h = absurd (omega arith)
advance-first at r (b ∷ l) odd h =
    let s = register_of (taken r.value (word r.waiting b)) 0 in
    ap (advance 0 s) (left_over (b ∷ l) 1) ∙ advance-parity 0 (suc at) s l (omega arith) ∙ sym (advance-pair at r b l odd)
