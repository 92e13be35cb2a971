-- Which guard is due at a place: a carried one as it is, else that of the block's own data. Assumes nothing.
use mathlib.Core.Path.{◌≡◌, refl, ap, ◌∙◌}
use mathlib.Core.Bool.{Bool, true, false, cond, ◌&&◌}
use Prim.Native.Nat.{ℕ, ◌<◌}
use borrow.Author.Tests.{ne_eqb, eq-eqb}
use mathlib.Core.Logic.{◌≢◌}
use Rattle.layout.specs.Places.{parity_member, is_parity}
use Rattle.layout.specs.declared.Array.{Array}
use Rattle.tag.specs.Blocks.{format_at}
use Rattle.tag.specs.Tags.{carried, guard_due}

module _ (a : Array) (stripe member : ℕ) where
  -- ---- where a guard is carried

  pub carried-parity : (format_at a).carries ≡ true → member ≡ parity_member a stripe → carried a stripe member ≡ true
  carried-parity c p = rw (c, eq-eqb member (parity_member a stripe) p)

  pub carried-carries : carried a stripe member ≡ true → (format_at a).carries ≡ true
  carried-carries = first (format_at a).carries
    where
      first : (x : Bool) → (x && is_parity a stripe member) ≡ true → x ≡ true
      first true e = refl
      first false e = e

  pub own_data : member ≢ parity_member a stripe → carried a stripe member ≡ false
  own_data p = ap (λ (x : Bool). (format_at a).carries && x) (ne_eqb member (parity_member a stripe) p) ∙ never (format_at a).carries
    where
      never : (x : Bool) → (x && false) ≡ false
      never true = refl
      never false = refl

  pub own_plain : (format_at a).carries ≡ false → carried a stripe member ≡ false
  own_plain c = rw c

  -- ---- which it is

  module _ (x y : ℕ) where
    pub guard-carried : carried a stripe member ≡ true → guard_due a stripe member x y ≡ x
    unfolding guard_due
    guard-carried h = rw h

    pub guard-own : carried a stripe member ≡ false → guard_due a stripe member x y ≡ y
    unfolding guard_due
    guard-own h = rw h

    pub guard-due_small : (most : ℕ) → x < most → y < most → guard_due a stripe member x y < most
    unfolding guard_due
    guard-due_small most h k = by_case (carried a stripe member)
      where
        by_case : (c : Bool) → cond c x y < most
        by_case true = h
        by_case false = k

    -- the same, by what a parity's guard is and what every other's
    pub guard_by_kind : cond (is_parity a stripe member) (cond (format_at a).carries x y) y ≡ guard_due a stripe member x y
    unfolding guard_due
    guard_by_kind = by_case (is_parity a stripe member) (format_at a).carries
      where
        by_case : (p c : Bool) → cond p (cond c x y) y ≡ cond (c && p) x y
        by_case true true = refl
        by_case true false = refl
        by_case false true = refl
        by_case false false = refl

    pub guard_alike : cond (is_parity a stripe member) x x ≡ x
    guard_alike = by_case (is_parity a stripe member)
      where
        by_case : (p : Bool) → cond p x x ≡ x
        by_case true = refl
        by_case false = refl
