-- Where a block can be good: at places of one kind, parity or data, with one reference tag. Where every block number of an array fits the
-- reference field that is one place only. Assumes nothing.
use mathlib.Core.Path.{◌≡◌, refl, sym, ap, ◌∙◌}
use mathlib.Core.Bool.{Bool, true, false, cond}
use mathlib.Core.List.{List}
use Prim.Native.Nat.{ℕ, ◌+◌, ◌*◌, ◌^◌, ◌≤◌, ◌<◌}
use native.Mathlib.Nat.{add-mul, lt_of_lt_of_le}
use native.Mathlib.Omega.{arith}
use Rattle.format.proofs.Sizes.{scale-some}
use Rattle.format.proofs.References.{reference_injective, eight_told}
use Rattle.layout.specs.Arrays.{block_count}
use Rattle.layout.specs.Places.{is_parity, block_named, owner_refusal}
use Rattle.layout.specs.Ranges.{Sound}
use Rattle.layout.specs.declared.Array.{Array}
use Rattle.layout.proofs.Ranges.{place_sound}
use Rattle.layout.proofs.Blocks.{block-count_small}
use Rattle.layout.proofs.Bijection.{named_sound, named_injective}
use Rattle.tag.specs.Blocks.{format_at}
use Rattle.tag.specs.Tags.{application_due, reference_due, due, found_in, good}
use Rattle.tag.specs.declared.Fields.{Fields}
use Rattle.tag.proofs.Cases.{good-due}

-- the mark in the application tag tells the kind
pub marks : (x y : Bool) (v scale : ℕ) → 0 < scale → (cond x 0x8000 0 + v) * scale ≡ (cond y 0x8000 0 + v) * scale → x ≡ y
marks true true v scale h e = refl
marks true false v scale h e = absurd (omega (arith, add-mul 0x8000 v scale, add-mul 0 v scale))
marks false true v scale h e = absurd (omega (arith, add-mul 0x8000 v scale, add-mul 0 v scale))
marks false false v scale h e = refl

module _ (a : Array) (s m t k : ℕ) where
  -- what is due at a place tells its kind and its reference tag
  pub due-kind : (g h : ℕ) → due a s m g ≡ due a t k h → is_parity a s m ≡ is_parity a t k
  unfolding due application_due
  due-kind g h same = marks (is_parity a s m) (is_parity a t k) a.volume (format_at a).scale (scale-some (format_at a)) (ap (λ (f : Fields). f.application) same)

  pub due_reference : (g h : ℕ) → due a s m g ≡ due a t k h → reference_due a s m ≡ reference_due a t k
  unfolding due
  due_reference g h same = ap (λ (f : Fields). f.reference) same

  -- so does a block that is good at it
  pub good-kind : (block : List ℕ) → good a s m block ≡ true → good a t k block ≡ true
      → (is_parity a s m ≡ is_parity a t k) × (reference_due a s m ≡ reference_due a t k)
  good-kind block g h =
      let stored = (found_in a block).guard in
      let same = sym (good-due a s m block g) ∙ good-due a t k block h in
      (due-kind stored stored same, due_reference stored stored same)

  -- and where the field holds every block number of the array, the kind and the reference tag tell the place
  module _ (here : owner_refusal a s m ≡ 0) (there : owner_refusal a t k ≡ 0) (held : block_count a ≤ 256 ^ (2 * (format_at a).quarter)) where
    pub place-told : is_parity a s m ≡ is_parity a t k → reference_due a s m ≡ reference_due a t k → (s ≡ t) × (m ≡ k)
    unfolding reference_due
    place-told kind same =
        named_injective a s m t k here there kind
        (reference_injective (format_at a) (block_named a s m) (block_named a t k) (lt_of_lt_of_le (named_sound a s m here).here held) (lt_of_lt_of_le (named_sound a t k there).here held) same)

    pub one_place : (block : List ℕ) → good a s m block ≡ true → good a t k block ≡ true → (s ≡ t) × (m ≡ k)
    one_place block g h = let both = good-kind block g h in place-told both.0 both.1

-- it does so in every array of method 3
pub large-held : (a : Array) → Sound a → a.method ≡ 3 → block_count a ≤ 256 ^ (2 * (format_at a).quarter)
large-held a h three = rw (eight_told a.method three) (omega (arith, block-count_small a h))

pub large-one-place : (a : Array) (s m t k : ℕ) → a.method ≡ 3 → owner_refusal a s m ≡ 0 → owner_refusal a t k ≡ 0 → (block : List ℕ)
    → good a s m block ≡ true → good a t k block ≡ true → (s ≡ t) × (m ≡ k)
large-one-place a s m t k three here there = one_place a s m t k here there (large-held a (place_sound a s m here).stripe.array three)
