-- `stripe::serving::carried_into` meets its contract.
-- Assumes nothing.
use Rattle.std.proofs.Common.{Option, Some, None, is_some}
use mathlib.Core.Path.{◌≡◌, refl, sym, ap, ◌∙◌}
use mathlib.Core.Bool.{Bool, true, not, cond}
use Prim.Native.Nat.{ℕ}
use lib.Seq.{sets}
use Rattle.tag.specs.Blocks.{format_at}
use Rattle.stripe.specs.Stripes.{others_data}
use Rattle.stripe.proofs.Pieces.{sets-whole}
use Rattle.stripe.proofs.Rebuilds.{some-made}
use Rattle.stripe.proofs.Rows.{length-others_data}
use Rattle.stripe.proofs.serving.carried_into.Goals as goal

-- a guard is told, or none is
some-told : (made : Option ℕ) → is_some made ≡ true → (g : ℕ) × (made ≡ Some g)
some-told (Some g) e = (g, refl)
some-told None e = cc

pub returns-clause-out_after : goal.returns-clause-out_after
returns-clause-out_after c =
    let a = c.args in
    let h = a.held.now in
    let F = format_at h.stripe.array in
    let n = h.stripe.array.members in
    let whole = others_data F n a.member h.bytes.now in
    let fit = (some-made _ _ c.made_piece.ensures.guard_value (some-told c.made_piece.result (c.is_none.ensures ∙ ap not c.if-is_none.false)).1).0 in
    c.put.ensures ∙ ap (sets a.out.now 0) c.made_piece.ensures.piece_after
    ∙ sets-whole a.out.now whole (c.requires.out_len ∙ sym (length-others_data F n a.member h.bytes.now))
    ∙ ap (λ (b : Bool). cond b whole a.out.now) (sym fit)
