-- `patrol::turn` meets its contract: refused, busy or idle. Assumes nothing.
use mathlib.Core.Path.{◌≡◌, sym, ap, ◌∙◌}
use mathlib.Core.Bool.{true}
use lib.ListN.{length}
use Rattle.refusal.proofs.Passing.{number-some}
use Rattle.patrol.specs.Patrols.{patrol_at, turn_refusal, refused_by}
use Rattle.patrol.proofs.Rows.{turn-fit, turn_takes}
use Rattle.patrol.proofs.Answers.{turn_refused, turn_stays, busy_sees, busy_stays, idle_sees, idle_moves}
use Rattle.patrol.proofs.turn.Goals as goal

pub returns-in-Err : goal.returns-in-Err
returns-in-Err c =
    let a = c.args in
    let told = c.in-Err.ensures in
    record {
      seen_value = ap refused_by told ∙ sym (turn_refused a.state a.idle a.bytes.now (λ e. number-some _ (told ∙ e)));
      state_value = sym (turn_stays a.state a.idle a.bytes.now (λ e. number-some _ (told ∙ e)));
    }

pub following-next-requires : goal.following-next-requires
following-next-requires c = let a = c.args in (turn-fit a.state a.idle (length a.bytes.now) (sym c.in_default.ensures)).here

pub returns-then-not-idle : goal.returns-then-not-idle
returns-then-not-idle c =
    let a = c.args in
    let none : turn_refusal a.state a.idle (length a.bytes.now) ≡ 0 = sym c.in_default.ensures in
    let busy = c.if-not-idle.true in record {
      seen_value = rw busy (sym (busy_sees a.state a.bytes.now (rw busy at none)));
      state_value = rw busy (sym (busy_stays a.state a.bytes.now (length a.bytes.now)));
    }

pub look-seen-requires : goal.look-seen-requires
look-seen-requires c =
    let a = c.args in
    let none : turn_refusal a.state a.idle (length a.bytes.now) ≡ 0 = sym c.in_default.ensures in
    turn_takes a.state (length a.bytes.now) (rw c.if-not-idle.false at none)

pub returns : goal.returns
returns c =
    let a = c.args in
    let none : turn_refusal a.state a.idle (length a.bytes.now) ≡ 0 = sym c.in_default.ensures in
    let idle : turn_refusal a.state true (length a.bytes.now) ≡ 0 = rw c.if-not-idle.false at none in record {
      seen_value = rw c.if-not-idle.false (c.look-seen.ensures ∙ sym (idle_sees a.state a.bytes.now idle));
      state_value = rw c.if-not-idle.false (ap (patrol_at a.state.array) c.following-next.ensures ∙ sym (idle_moves a.state a.bytes.now idle));
    }
