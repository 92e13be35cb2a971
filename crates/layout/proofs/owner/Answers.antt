-- `owner` answers `owner_numbers`: told by what its stripe is found by. Assumes nothing.
use Rattle.std.proofs.Common.{[], ◌∷◌, sym, ◌∙◌}
use Rattle.std.proofs.lemmas.Result.{err_from_is_err_and}
use Rattle.layout.specs.Places.{owner_numbers}
use Rattle.layout.proofs.Answers.{answer_reason}
use Rattle.layout.proofs.Seats.{beside_owner}
use Rattle.layout.proofs.owner.Goals as goal

pub returns-in_err-check_place : goal.returns-in_err-check_place
unfolding owner_numbers
returns-in_err-check_place c =
    let p = err_from_is_err_and c.from_residual.result c.from_residual.ensures.1 in
    rw (p.1, p.2) (answer_reason _ _ (_ ∷ _ ∷ []) c.in_err-check_place.ensures)

pub returns : goal.returns
returns c =
    let a = c.args in
    c.owner_beside.ensures
    ∙ beside_owner a.array a.stripe a.member (sym c.in_ok-check_place.ensures) c.seat_of.result c.seat_of.ensures
