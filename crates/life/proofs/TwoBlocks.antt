-- Two blocks of one stripe lie on two members, at two indices, and neither is the parity's. Assumes nothing.
use mathlib.Core.Path.{◌≡◌, sym, ap₂, ◌∙◌, subst}
use mathlib.Core.Logic.{◌≢◌}
use Prim.Native.Nat.{ℕ, ◌<◌}
use Rattle.layout.specs.Places.{parity_member, stripe_of, index_of, member_of, index_at}
use Rattle.layout.specs.Ranges.{SoundStripe}
use Rattle.layout.specs.declared.Array.{Array}
use Rattle.layout.proofs.Members.{index_of_member}
use Rattle.layout.proofs.Bijection.{parity_no_block}
use Rattle.life.proofs.Reading.{own_below}
use Rattle.life.proofs.Keeping.{one_index}

module _ (a : Array) (block other : ℕ) (sound : SoundStripe a (stripe_of a block)) (two : block ≢ other) (beside : stripe_of a other ≡ stripe_of a block) where
  pub second_in : member_of a other < a.members
  second_in = own_below a other (subst (SoundStripe a) (sym beside) sound)

  pub second_data : member_of a other ≢ parity_member a (stripe_of a block)
  second_data = subst (λ (s : ℕ). member_of a other ≢ parity_member a s) beside (parity_no_block a other)

  pub indices_apart : index_of a other ≢ index_of a block
  indices_apart q = two (sym (one_index a other block beside q))

  pub members-apart : member_of a other ≢ member_of a block
  members-apart q =
      indices_apart
      (sym (index_of_member a (stripe_of a other) (index_of a other)) ∙ ap₂ (index_at a) beside q ∙ index_of_member a (stripe_of a block) (index_of a block))
