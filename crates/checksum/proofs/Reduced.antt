-- Sums with the carry wrapped round are sums reduced by 65,535. Assumes nothing.
use mathlib.Core.Path.{◌≡◌, refl, sym, ap, ◌∙◌}
use Prim.Native.Nat.{ℕ, zero, suc, ◌+◌, ◌*◌, ◌/◌, ◌%◌, ◌≤◌, ◌<◌}
use native.Mathlib.Nat.{add_comm, mod-eq_of_lt}
use native.Mathlib.Decide.{dec_le}
use native.Mathlib.Omega.{arith}
use Rattle.checksum.specs.Checksum.{rotated, wrapped, taken}
use Rattle.checksum.specs.Weights.{reduced}

pub reduced-lt : (x : ℕ) → reduced x < 65536
unfolding reduced
reduced-lt zero = omega arith
reduced-lt (suc x) = omega arith

pub reduced-pos : (x : ℕ) → 0 < x → 0 < reduced x
unfolding reduced
reduced-pos zero h = h
reduced-pos (suc x) h = omega arith

pub reduced_small : (x : ℕ) → x < 65536 → reduced x ≡ x
unfolding reduced
reduced_small zero h = refl
reduced_small (suc x) h = omega arith

pub reduced-reduced : (x : ℕ) → reduced (reduced x) ≡ reduced x
reduced-reduced x = reduced_small (reduced x) (reduced-lt x)

pub reduced-mod : (x : ℕ) → reduced x % 65535 ≡ x % 65535
unfolding reduced
reduced-mod zero = refl
reduced-mod (suc x) = omega arith

-- the sums: sixteen bits, and not zero
abbrev pub Sum : ℕ → Type 0
Sum s = (0 < s) × (s < 65536)

-- each has a remainder of its own
pub own : (s t : ℕ) → Sum s → Sum t → s % 65535 ≡ t % 65535 → s ≡ t
own s t hs ht e = go (dec_le 65535 s) (dec_le 65535 t)
  where
    full : (x : ℕ) → Sum x → 65535 ≤ x → x ≡ 65535
    full x h l = omega arith

    go : Dec (65535 ≤ s) → Dec (65535 ≤ t) → s ≡ t
    go (yes l) (yes m) = full s hs l ∙ sym (full t ht m)
    go (yes l) (no m) =
        let z : s % 65535 ≡ 0 = ap (λ (x : ℕ). x % 65535) (full s hs l) in
        let n : t % 65535 ≡ t = mod-eq_of_lt (omega arith) in
        omega arith
    go (no l) (yes m) =
        let z : t % 65535 ≡ 0 = ap (λ (x : ℕ). x % 65535) (full t ht m) in
        let n : s % 65535 ≡ s = mod-eq_of_lt (omega arith) in
        omega arith
    go (no l) (no m) = sym (mod-eq_of_lt (omega arith)) ∙ e ∙ mod-eq_of_lt (omega arith)

-- the carry wrapped round, at any number
pub reduced-wrapped : (x : ℕ) → reduced (wrapped x) ≡ reduced x
unfolding reduced wrapped
reduced-wrapped zero = refl
reduced-wrapped (suc x) = go (suc x % 65536 + suc x / 65536) refl
  where
    go : (y : ℕ) → y ≡ suc x % 65536 + suc x / 65536 → reduced y ≡ suc (x % 65535)
    go zero e = absurd (omega arith)
    go (suc y) e = omega arith

-- a part may be reduced first
pub reduced-add : (x y : ℕ) → reduced (reduced x + y) ≡ reduced (x + y)
unfolding reduced
reduced-add zero y = refl
reduced-add (suc x) y = go (suc (x % 65535) + y) (suc x + y) refl refl
  where
    go : (p q : ℕ) → p ≡ suc (x % 65535) + y → q ≡ suc x + y → reduced p ≡ reduced q
    go zero q e f = absurd (omega arith)
    go (suc p) zero e f = absurd (omega arith)
    go (suc p) (suc q) e f = omega arith

pub reduced-add_right : (x y : ℕ) → reduced (x + reduced y) ≡ reduced (x + y)
reduced-add_right x y = ap reduced (add_comm x (reduced y)) ∙ reduced-add y x ∙ ap reduced (add_comm y x)

pub reduced-twice : (x : ℕ) → reduced (reduced x * 2) ≡ reduced (x * 2)
reduced-twice x =
    let e : reduced x * 2 ≡ reduced x + reduced x = omega arith in
    let f : x + x ≡ x * 2 = omega arith in
    ap reduced e ∙ reduced-add x (reduced x) ∙ reduced-add_right x x ∙ ap reduced f

-- sixteen doublings are none
pub reduced_sixteen : (x y : ℕ) → reduced (x * 65536 + y) ≡ reduced (x + y)
unfolding reduced
reduced_sixteen x y = go (x * 65536 + y) (x + y) refl refl
  where
    go : (p q : ℕ) → p ≡ x * 65536 + y → q ≡ x + y → reduced p ≡ reduced q
    go zero zero e f = refl
    go zero (suc q) e f = absurd (omega arith)
    go (suc p) zero e f = absurd (omega arith)
    go (suc p) (suc q) e f = omega arith

-- wrapping once is enough below 131,071
pub wrapped_small : (x : ℕ) → x < 131071 → wrapped x ≡ reduced x
unfolding wrapped
wrapped_small x h = sym (reduced_small (x % 65536 + x / 65536) (omega arith)) ∙ reduced-wrapped x

-- rotating is doubling
rotated-reduced : (s : ℕ) → s < 65536 → rotated s ≡ reduced (s * 2)
unfolding rotated wrapped
rotated-reduced s h =
    let e : s % 32768 * 2 + s / 32768 ≡ wrapped (s * 2) = omega arith in
    e ∙ wrapped_small (s * 2) (omega arith)

-- one word
pub taken-reduced : (s w : ℕ) → s < 65536 → w < 65536 → taken s w ≡ reduced (s * 2 + w)
unfolding taken
taken-reduced s w hs hw =
    let few : reduced (s * 2) < 65536 = reduced-lt (s * 2) in
    ap (λ (x : ℕ). wrapped (x + w)) (rotated-reduced s hs) ∙ wrapped_small (reduced (s * 2) + w) (omega arith) ∙ reduced-add (s * 2) w

-- three times are enough below 2 ^ 41
thrice_first : (x : ℕ) → x ≤ 2199023255552 → wrapped x ≤ 33619967
unfolding wrapped
thrice_first x h = omega arith

second : (x : ℕ) → x ≤ 33619967 → wrapped x ≤ 66047
unfolding wrapped
second x h = omega arith

third : (x : ℕ) → x ≤ 66047 → wrapped x < 65536
unfolding wrapped
third x h = omega arith

pub thrice_second : (x : ℕ) → x ≤ 2199023255552 → wrapped (wrapped x) ≤ 66047
thrice_second x h = second (wrapped x) (thrice_first x h)

pub thrice_lt : (x : ℕ) → x ≤ 2199023255552 → wrapped (wrapped (wrapped x)) < 65536
thrice_lt x h = third (wrapped (wrapped x)) (thrice_second x h)

pub thrice : (x : ℕ) → x ≤ 2199023255552 → wrapped (wrapped (wrapped x)) ≡ reduced x
thrice x h =
    sym (reduced_small (wrapped (wrapped (wrapped x))) (thrice_lt x h))
    ∙ reduced-wrapped (wrapped (wrapped x)) ∙ reduced-wrapped (wrapped x) ∙ reduced-wrapped x
