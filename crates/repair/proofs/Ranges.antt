-- What comes now: how many bytes it has, and which bytes may be held of it. Assumes nothing.
use mathlib.Core.Path.{◌≡◌, refl, ap, ◌∙◌}
use mathlib.Core.Bool.{Bool, true, false, cond}
use mathlib.Core.Logic.{◌≢◌}
use mathlib.Core.List.{List}
use Prim.Native.Nat.{ℕ, ◌≤◌, ◌<◌}
use native.Mathlib.Omega.{arith}
use borrow.Author.Tests.{eqb-true, eqb-false, eq-eqb, ne_eqb}
use lib.Dec.{eqb}
use lib.ListN.{take}
use Rattle.layout.specs.Arrays.{stripe_refusal}
use Rattle.layout.specs.declared.Array.{Array}
use Rattle.layout.proofs.Ranges.{stripe_sound}
use Rattle.format.specs.Formats.{most_stripe}
use Rattle.format.proofs.Sizes.{block-times}
use Rattle.tag.specs.Blocks.{format_at}
use Rattle.stripe.specs.Stripes.{stripe_length}
use Rattle.lines.specs.Headers.{header_size}
use Rattle.repair.specs.declared.Repair.{Repair}
use Rattle.repair.specs.Feeding.{size_now}

-- ---- the size

module _ (r : Repair) (held : List ℕ) where
  pub header-size_now : r.stage ≡ 0 → size_now r held ≡ header_size (take r.have held)
  unfolding size_now
  header-size_now e = rw (eq-eqb r.stage 0 e)

  pub stripe-size_now : r.stage ≡ 1 → size_now r held ≡ cond (eqb (stripe_refusal r.array r.stripe) 0) (stripe_length r.array) 0
  unfolding size_now
  stripe-size_now e = rw (ne_eqb r.stage 0 (λ z. omega arith), eq-eqb r.stage 1 e)

  pub no_size_now : r.stage ≢ 0 → r.stage ≢ 1 → size_now r held ≡ 0
  unfolding size_now
  no_size_now e f = rw (ne_eqb r.stage 0 e, ne_eqb r.stage 1 f)

-- a stripe of an array has no more bytes than sixteen blocks of any format
pub stripe_bounded : (a : Array) (stripe : ℕ) → stripe_refusal a stripe ≡ 0 → stripe_length a ≤ most_stripe
stripe_bounded a stripe sound = let range = (stripe_sound a stripe sound).array in omega (arith, block-times (format_at a) a.members, range.many)

-- ---- bytes are lacking

-- within the stripes, where bytes are lacking, the stripe is one of the array
pub lacking_here : (r : Repair) (held : List ℕ) → r.have < size_now r held → r.stage ≢ 0 → r.stripe < r.array.stripes
lacking_here r held short f = by_stage (eqb r.stage 1) refl (eqb (stripe_refusal r.array r.stripe) 0) refl
  where
    by_stage : (t : Bool) → eqb r.stage 1 ≡ t → (u : Bool) → eqb (stripe_refusal r.array r.stripe) 0 ≡ u → r.stripe < r.array.stripes
    by_stage true e true z = (stripe_sound r.array r.stripe (eqb-true (stripe_refusal r.array r.stripe) 0 z)).here
    by_stage true e false z =
        let none : size_now r held ≡ 0 = stripe-size_now r held (eqb-true r.stage 1 e) ∙ ap (λ (u : Bool). cond u (stripe_length r.array) 0) z in absurd (omega arith)
    by_stage false e u z = let none = no_size_now r held f (eqb-false r.stage 1 e) in absurd (omega arith)
