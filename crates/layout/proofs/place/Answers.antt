-- `place` answers `place_numbers`. Assumes nothing.
use Rattle.std.proofs.Common.{[], ◌∷◌, sym, arith}
use Rattle.std.proofs.lemmas.Result.{err_from_is_err_and}
use Rattle.layout.specs.Places.{place_numbers}
use Rattle.layout.proofs.Answers.{answer_reason}
use Rattle.layout.proofs.Ranges.{block_sound}
use Rattle.layout.proofs.Blocks.{index_in_stripe}
use Rattle.layout.proofs.Numbers.{place-numbers}
use Rattle.layout.proofs.place.Goals as goal

pub returns-in_err-check_block : goal.returns-in_err-check_block
unfolding place_numbers
returns-in_err-check_block c =
    let p = err_from_is_err_and c.from_residual.result c.from_residual.ensures.1 in
    rw (p.1, p.2) (answer_reason _ _ (_ ∷ _ ∷ []) c.in_err-check_block.ensures)

pub member_at-member-requires : goal.member_at-member-requires
member_at-member-requires c =
    let h = block_sound _ _ (sym c.in_ok-check_block.ensures) in
    rw c.index_of-index.ensures (omega (arith, index_in_stripe c.args.array c.args.block h.array))

pub returns : goal.returns
returns c =
    rw (place-numbers _ _ (sym c.in_ok-check_block.ensures), c.member_at-member.ensures, c.index_of-index.ensures, c.stripe_of-stripe.ensures)
