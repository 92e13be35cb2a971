-- `stripe::rebuilding::rebuild_carried` meets its contract.
-- Assumes nothing.
use Rattle.std.proofs.Common.{Option, Some, None, Err, ok_or, is_some}
use mathlib.Core.Path.{◌≡◌, refl, sym, ap, ◌∙◌}
use mathlib.Core.Bool.{Bool, false, cond}
use mathlib.Core.List.{List}
use Prim.Native.Nat.{ℕ}
use lib.ListN.{length}
use Rattle.refusal.specs.Refusals.{number}
use Rattle.refusal.specs.declared.Refusal.{Refusal}
use Rattle.refusal.specs.declared.Refusal.TheVariants.{Bad}
use Rattle.tag.specs.Blocks.{format_at}
use Rattle.tag.specs.Tags.{tagged_by}
use Rattle.stripe.specs.Jobs.{with_block, rebuilt}
use Rattle.stripe.proofs.Rebuilds.{some-made, made_again}
use Rattle.stripe.proofs.Rows.{length-others_data}
use Rattle.stripe.proofs.rebuilding.rebuild_carried.Goals as goal

-- no guard is told as bad blocks
told_bad : (made : Option ℕ) (refusal : Refusal) → is_some made ≡ false → Err refusal ≡ ok_or made Bad → number refusal ≡ 9
told_bad (Some g) refusal n e = cc
told_bad None refusal n e = let bad : refusal ≡ Bad = cc in ap number bad

pub write_block-requires-clause-content_len : goal.write_block-requires-clause-content_len
write_block-requires-clause-content_len c =
    let s = c.args.stripe in
    ap length c.made_piece.ensures.piece_after ∙ length-others_data (format_at s.array) s.array.members c.args.member c.args.bytes.now

pub returns-clause-bytes_after : goal.returns-clause-bytes_after
returns-clause-bytes_after c =
    let a = c.args in
    let s = a.stripe in
    let F = format_at s.array in
    let fit = some-made _ _ c.made_piece.ensures.guard_value c.in_ok-guard.ensures.ok_part in
    made_again s.array s.number a.member a.bytes.now c.in_ok-guard.guard _ c.write_block.new.bytes refl fit.1
    (c.write_block.ensures ∙ ap (λ (l : List ℕ). with_block F a.bytes.now a.member (tagged_by s.array s.number a.member c.in_ok-guard.guard l)) c.made_piece.ensures.piece_after)
    ∙ ap (λ (b : Bool). cond b (rebuilt s.array s.number a.member a.bytes.now) a.bytes.now) (sym fit.0)
