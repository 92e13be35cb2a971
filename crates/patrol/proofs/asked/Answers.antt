-- `patrol::asked` meets its contract. Assumes nothing.
use mathlib.Core.Path.{sym, ap, ◌∙◌}
use Rattle.std.proofs.lemmas.Result.{err_from_is_err_and}
use Rattle.refusal.proofs.Passing.{number-some}
use Rattle.patrol.specs.Patrols.{refused_by}
use Rattle.patrol.proofs.Rows.{request_takes}
use Rattle.patrol.proofs.Answers.{request_refused, request_sees}
use Rattle.patrol.proofs.asked.Goals as goal

pub returns-in_err-check_request : goal.returns-in_err-check_request
returns-in_err-check_request c =
    let a = c.args in
    let p = err_from_is_err_and c.from_residual.result c.from_residual.ensures.1 in
    let told = c.in_err-check_request.ensures in
    rw (p.1, p.2) (ap refused_by told ∙ sym (request_refused a.state a.stripe a.bytes.now (λ e. number-some _ (told ∙ e))))

pub look-requires : goal.look-requires
look-requires c = let a = c.args in request_takes a.state a.stripe _ (sym c.in_ok-check_request.ensures)

pub returns : goal.returns
returns c = let a = c.args in c.look.ensures ∙ sym (request_sees a.state a.stripe a.bytes.now (sym c.in_ok-check_request.ensures))
