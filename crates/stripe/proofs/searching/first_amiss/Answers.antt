-- `stripe::searching::first_amiss` meets its contract. Assumes nothing.
use Rattle.std.proofs.Common.{◌≡◌, ℕ, true, false, ◌≢◌, Result, Ok, Err, length, sym, ap₂, ◌∙◌}
use Rattle.std.specs.Result.{is_err}
use borrow.Author.Tests.{eq-eqb, ne_eqb}
use Rattle.refusal.specs.Refusals.{told}
use Rattle.refusal.specs.declared.Refusal.{Refusal}
use Rattle.refusal.proofs.Passing.{number-some}
use Rattle.layout.specs.declared.Array.{Array}
use Rattle.verdict.specs.Verdicts.{lowest}
use Rattle.stripe.specs.Tables.{table}
use Rattle.stripe.specs.Verdicts.{scrub_refusal}
use Rattle.stripe.specs.InPart.{amiss, first_amiss}
use Rattle.stripe.proofs.Scrubs.{scrub_sound}
use Rattle.stripe.proofs.searching.first_amiss.Goals as goal

-- an error tells a number that is some, and where there is none nothing is refused
told-some : {T : Type 0} (r : Result T Refusal) → is_err r ≡ true → told r ≢ 0
told-some (Ok x) e = cc
told-some (Err refusal) e = number-some refusal

told_none : {T : Type 0} (r : Result T Refusal) (n : ℕ) → is_err r ≡ false → told r ≡ n → n ≡ 0
told_none (Ok x) n e t = sym t
told_none (Err refusal) n e t = cc

pub returns-then-is_err : goal.returns-then-is_err
unfolding first_amiss
returns-then-is_err c =
    let a = c.args in
    rw (ne_eqb (scrub_refusal a.array a.stripe (length a.bytes.now)) 0 (λ z. told-some c.check_scrub.result (sym c.is_err.ensures.value ∙ c.if-is_err.true) (c.check_scrub.ensures ∙ z)))

pub at-stripe-requires : goal.at-stripe-requires
at-stripe-requires c =
    let a = c.args in
    (scrub_sound a.array a.stripe (length a.bytes.now) (told_none c.check_scrub.result _ (sym c.is_err.ensures.value ∙ c.if-is_err.false) c.check_scrub.ensures)).0

pub invariant_of-find_amiss : goal.invariant_of-find_amiss
invariant_of-find_amiss c =
    let a = c.args in
    let taken = told_none c.check_scrub.result _ (sym c.is_err.ensures.value ∙ c.if-is_err.false) c.check_scrub.ensures in record { whole = rw c.at-stripe.ensures.array_kept (scrub_sound a.array a.stripe (length a.bytes.now) taken).1 }

pub returns : goal.returns
unfolding first_amiss
returns c =
    let a = c.args in
    let none = told_none c.check_scrub.result _ (sym c.is_err.ensures.value ∙ c.if-is_err.false) c.check_scrub.ensures in
    rw (eq-eqb (scrub_refusal a.array a.stripe (length a.bytes.now)) 0 none)
    (c.find_amiss.ensures ∙ ap₂ (λ (x : Array) (s : ℕ). lowest (table x.members (amiss x s a.bytes.now))) c.at-stripe.ensures.array_kept c.at-stripe.ensures.number_kept)
