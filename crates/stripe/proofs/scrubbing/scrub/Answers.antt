-- `stripe::scrubbing::scrub` meets its contract.
-- Assumes nothing.
use Rattle.std.proofs.lemmas.Result.{err_from_is_err_and}
use mathlib.Core.Path.{sym, ap, ◌∙◌}
use mathlib.Core.List.{[], ◌∷◌}
use Prim.Native.Nat.{ℕ}
use lib.ListN.{length}
use Rattle.refusal.proofs.Passing.{number-some}
use Rattle.stripe.proofs.Scrubs.{scrub_sound, scrub_refused}
use Rattle.stripe.proofs.scrubbing.scrub.Goals as goal

pub returns-in_err-check_scrub : goal.returns-in_err-check_scrub
returns-in_err-check_scrub c =
    let a = c.args in
    let e = c.in_err-check_scrub.ensures in
    let p = err_from_is_err_and c.from_residual.result c.from_residual.ensures.1 in
    rw (p.1, p.2) (ap (λ (n : ℕ). 0 ∷ n ∷ 0 ∷ 0 ∷ 0 ∷ 0 ∷ []) e ∙ sym (scrub_refused a.array a.stripe a.bytes.now (λ z. number-some _ (e ∙ z))))

pub at-stripe-requires : goal.at-stripe-requires
at-stripe-requires c = let a = c.args in (scrub_sound a.array a.stripe (length a.bytes.now) (sym c.in_ok-check_scrub.ensures)).0

pub invariant_of-judged : goal.invariant_of-judged
invariant_of-judged c =
    let a = c.args in record { whole = rw c.at-stripe.ensures.array_kept (scrub_sound a.array a.stripe (length a.bytes.now) (sym c.in_ok-check_scrub.ensures)).1 }
