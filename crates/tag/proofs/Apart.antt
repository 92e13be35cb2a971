-- What the reference tag's four bytes cost on shelves of more than 4,294,967,296 blocks, exactly: in methods 1 and 2 a block that is good at
-- its place is good at another too exactly if both are data or both parity and their block numbers differ by a multiple of 4,294,967,296.
-- In method 3 there is no other place (`large-one-place`). Assumes nothing.
use mathlib.Core.Path.{◌≡◌, sym, ap, ◌∙◌}
use mathlib.Core.Bool.{true}
use mathlib.Core.List.{List}
use mathlib.Core.Logic.{◌≢◌, ◌↔◌, ◌⊎◌, inl, inr}
use Prim.Native.Nat.{ℕ, ◌+◌, ◌-◌, ◌*◌, ◌/◌, ◌%◌, ◌≤◌, ◌<◌}
use native.Mathlib.Decide.{dec_lt}
use native.Mathlib.Nat.{add-mul, add_comm, div-add-mod', mul-add-mod_self_right}
use native.Mathlib.Omega.{arith}
use Rattle.format.specs.Formats.{reference_of}
use Rattle.format.proofs.References.{low_told}
use Rattle.layout.specs.Places.{is_parity, block_named}
use Rattle.layout.specs.declared.Array.{Array}
use Rattle.tag.specs.Apart.{Apart}
use Rattle.tag.specs.Blocks.{format_at}
use Rattle.tag.specs.Tags.{reference_due, good}
use Rattle.tag.proofs.Elsewhere.{good_where}

-- ---- numbers that leave the same rest are those that differ by a multiple

-- of the two, the one with no fewer whole n is so many n further
further : (n x y : ℕ) → x % n ≡ y % n → x / n ≤ y / n → y ≡ x + (y / n - x / n) * n
further n x y e h =
    let q = y / n - x / n in
    let more : y / n ≡ x / n + q = omega arith in
    let wide : y / n * n ≡ x / n * n + q * n = ap (λ (z : ℕ). z * n) more ∙ add-mul (x / n) q n in
    omega (arith, e, wide, div-add-mod' x n, div-add-mod' y n)

past : (n x k : ℕ) → (x + k * n) % n ≡ x % n
past n x k = ap (λ (z : ℕ). z % n) (add_comm x (k * n)) ∙ mul-add-mod_self_right k n x

pub apart_exactly : (n x y : ℕ) → (x % n ≡ y % n) ↔ Apart n x y
apart_exactly n x y = (λ e. by_size (dec_lt (y / n) (x / n)) e, λ h. back h.times h.either)
  where
    by_size : Dec (y / n < x / n) → x % n ≡ y % n → Apart n x y
    by_size (yes l) e = record { times = x / n - y / n; either = inl (further n y x (sym e) (omega arith)) }
    by_size (no g) e = record { times = y / n - x / n; either = inr (further n x y e (omega arith)) }

    back : (k : ℕ) → (x ≡ y + k * n) ⊎ (y ≡ x + k * n) → x % n ≡ y % n
    back k (inl e) = ap (λ (z : ℕ). z % n) e ∙ past n y k
    back k (inr e) = sym (ap (λ (z : ℕ). z % n) e ∙ past n x k)

-- ---- the cost

pub good-elsewhere : (a : Array) (s m t k : ℕ) (block : List ℕ) → a.method ≢ 3 → good a s m block ≡ true
    → (good a t k block ≡ true) ↔ ((is_parity a s m ≡ is_parity a t k) × Apart 4294967296 (block_named a s m) (block_named a t k))
unfolding reference_due
good-elsewhere a s m t k block small h =
    let x = block_named a s m in
    let y = block_named a t k in
    let where-good = good_where a s m t k block h in
    let rests = apart_exactly 4294967296 x y in
    let told : (b : ℕ) → reference_of (format_at a) b ≡ b % 4294967296 = λ b. low_told a.method b small in (
      λ g. ((where-good.0 g).0, rests.0 (sym (told x) ∙ (where-good.0 g).1 ∙ told y)),
      λ both. where-good.1 (both.0, told x ∙ rests.1 both.1 ∙ sym (told y)),
    )
