-- `patrol::begin` meets its contract. Assumes nothing.
use mathlib.Core.Path.{sym, ap, ◌∙◌}
use Rattle.refusal.proofs.Passing.{number-some}
use Rattle.layout.specs.declared.Array.{Array}
use Rattle.patrol.specs.Patrols.{patrol_at}
use Rattle.patrol.proofs.Answers.{begun, not-begun}
use Rattle.patrol.proofs.begin.Goals as goal

pub returns-in-Ok : goal.returns-in-Ok
returns-in-Ok c =
    record {
      refusal_value = c.in-Ok.ensures;
      state_value = sym (begun c.args.array (sym c.in-Ok.ensures));
    }

pub returns-in-Err : goal.returns-in-Err
returns-in-Err c =
    let told = c.in-Err.ensures in
    record {
      refusal_value = told;
      state_value = ap (λ (x : Array). patrol_at x 0) c.no_array.ensures ∙ sym (not-begun c.args.array (λ e. number-some _ (told ∙ e)));
    }
