-- `intent::recovering::remake` meets its contract. Assumes nothing.
use mathlib.Core.Path.{refl, sym, ap, ◌∙◌}
use mathlib.Core.List.{[], ◌∷◌}
use Prim.Native.Nat.{ℕ}
use native.Mathlib.Numerals.{add-one}
use Rattle.refusal.proofs.Passing.{number-some}
use Rattle.stripe.specs.InPart.{first_amiss}
use Rattle.intent.specs.Records.{written}
use Rattle.intent.proofs.Calling.{remade-done, remade-not}
use Rattle.intent.proofs.recovering.remake.Goals as goal

pub returns-in-Err : goal.returns-in-Err
returns-in-Err c =
    let a = c.args in
    let not_made = remade-not a.array a.stripe c.parity_member-parity.result a.bytes.now c.requires.bytes_value c.parity_member-parity.ensures (λ e. number-some _ (c.in-Err.ensures.value ∙ e)) in
    let same = c.rebuild.ensures.bytes_after ∙ not_made.1 in
    let off = not_made.0 in record {
      result_value = rw off (ap (λ (m : ℕ). 1 ∷ 0 ∷ 2 ∷ m ∷ []) (c.first_amiss.ensures ∙ ap (first_amiss a.array a.stripe) same));
      bytes_after = rw off same;
      log_after = rw off refl;
    }

pub rewrite-requires : goal.rewrite-requires
rewrite-requires c = rw (add-one c.args.stripe) c.requires.nonzero

pub returns-in-Ok : goal.returns-in-Ok
returns-in-Ok c =
    let a = c.args in
    let made = remade-done a.array a.stripe c.parity_member-parity.result a.bytes.now c.requires.bytes_value c.parity_member-parity.ensures (sym c.in-Ok.ensures.value) in
    let on = made.0 in record {
      result_value = rw on refl;
      bytes_after = rw on (c.rebuild.ensures.bytes_after ∙ made.1);
      log_after = rw on (c.rewrite.ensures ∙ ap (λ (k : ℕ). written k 0 a.log.now) (add-one a.stripe));
    }
