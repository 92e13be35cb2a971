-- `scan::Scan::standing` meets its contract. Assumes nothing.
use mathlib.Core.Path.{refl, ap, ◌∙◌}
use native.Mathlib.Omega.{arith}
use lib.ListN.{get_or}
use Rattle.std.specs.Prelude.{Ok}
use Rattle.format.proofs.Laws.{kept_small}
use Rattle.layout.proofs.Ranges.{stripe_sound, sound_place}
use Rattle.layout.proofs.Seats.{beside_owner}
use Rattle.tag.specs.Blocks.{format_at}
use Rattle.tag.proofs.Owed.{expected-told}
use Rattle.scan.specs.Scans.{register_at}
use Rattle.scan.proofs.Judging.{held_by_steps}
use Rattle.scan.proofs.Scan.standing.Goals as goal

pub overflow_cast-register : goal.overflow_cast-register
overflow_cast-register c =
    let s = c.args.self.now in
    let m = c.args.member in
    let fits = c.requires.fit_state in
    let here = c.requires.member_bound in
    let small = kept_small s.array.method (get_or s.at m 0) (get_or s.register m 0) (get_or s.waiting m 0) (fits.narrow m here) c.register_of-register.ensures.waiting_bound (fits.alone m here) in
    omega (arith, c.register_of-register.ensures.value, small)

pub returns : goal.returns
returns c =
    let s = c.args.self.now in
    let m = c.args.member in
    let place = sound_place s.array s.stripe m record { stripe = stripe_sound s.array s.stripe c.requires.fit_state.numbers; here = c.requires.member_bound } in
    let due =
    c.expected_to-expected.ensures
    ∙ expected-told s.array s.stripe m _ c.guard_of-guard.result (Ok c.owner_beside-owned.result)
    (c.owner_beside-owned.ensures ∙ beside_owner s.array s.stripe m place c.args.seat c.requires.seat_value) c.held_fields-found.result.guard refl in
    held_by_steps s.array s.stripe m c.guard_of-guard.result (register_at (format_at s.array) s m) s.tag place
    c.held_fields-found.result c.expected_to-expected.result c.standing.result
    (c.guard_of-guard.ensures ∙ ap (format_at s.array).guard_of c.register_of-register.ensures.value) c.held_fields-found.ensures due c.standing.ensures
