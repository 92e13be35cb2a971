-- `tag::check` meets its contract.
-- Assumes nothing.
use mathlib.Core.Path.{refl, sym, ap, ◌∙◌}
use mathlib.Core.List.{◌∷◌}
use Prim.Native.Nat.{ℕ, ◌+◌, ◌≤◌}
use native.Mathlib.Omega.{arith}
use lib.ListN.{length, replicate}
use Rattle.std.specs.Prelude.{Ok}
use Rattle.std.proofs.lemmas.Result.{err_from_is_err_and}
use Rattle.refusal.proofs.Passing.{number-some}
use Rattle.layout.proofs.Seats.{beside_owner}
use Rattle.tag.specs.Blocks.{format_at}
use Rattle.tag.proofs.Checks.{check_sound, check_refused, check_by_steps}
use Rattle.tag.proofs.Owed.{expected-told}
use Rattle.tag.proofs.Within.{found_by_calls}
use Rattle.tag.proofs.check.Goals as goal

pub returns-in_err-check_given : goal.returns-in_err-check_given
returns-in_err-check_given c =
    let e = c.in_err-check_given.ensures in
    let p = err_from_is_err_and c.from_residual.result c.from_residual.ensures.1 in
    rw (p.1, p.2) (ap (λ (n : ℕ). 0 ∷ n ∷ replicate 10 0) e ∙ sym (check_refused _ _ _ _ (λ z. number-some _ (e ∙ z))))

pub slice_bounds-guard-end : goal.slice_bounds-guard-end
slice_bounds-guard-end c =
    let a = c.args in
    let F = format_at a.array in
    let h = check_sound _ _ _ _ (sym c.in_ok-check_given.ensures) in
    omega arith

pub fields_at-found-requires : goal.fields_at-found-requires
fields_at-found-requires c =
    let whole : let a = c.args in (format_at a.array).data_length + (format_at a.array).tag_length ≤ length a.block.now = let F = format_at c.args.array in
    let h = check_sound _ _ _ _ (sym c.in_ok-check_given.ensures) in
    omega (arith, F.block_parts) in
    let F = format_at c.args.array in record {
      quarter_in_bounds = omega (arith, whole, F.tag_quarters, c.data_length-data.ensures, c.quarter.ensures);
      quarter_bound = omega (arith, F.quarter-most, c.quarter.ensures);
    }

pub returns : goal.returns
returns c =
    let a = c.args in
    let accepted = sym c.in_ok-check_given.ensures in
    let place = (check_sound _ _ _ _ accepted).0 in
    let told = c.owner_beside-owned.ensures ∙ beside_owner a.array a.stripe a.member place c.seat_of.result c.seat_of.ensures in
    let due = c.expected_to.ensures ∙ expected-told a.array a.stripe a.member _ c.guard-guard.result (Ok c.owner_beside-owned.result) told c.fields_at-found.result.guard refl in
    let F = format_at a.array in
    let read = found_by_calls F a.block.now c.data_length-data.result c.quarter.result c.quarter.ensures
    c.fields_at-found.result.guard c.fields_at-found.result.application c.fields_at-found.result.reference
    c.fields_at-found.ensures.guard_value c.fields_at-found.ensures.application_value c.fields_at-found.ensures.reference_value in
    c.said.ensures
    ∙ check_by_steps _ _ _ a.block.now accepted
    c.data_length-data.result c.guard-guard.result c.expected_to.result c.fields_at-found.result
    c.data_length-data.ensures c.guard-guard.ensures read due
