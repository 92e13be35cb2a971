-- What a fill writes lies within the buffer, and it passes what it uses.
use Rattle.std.proofs.Common.{◌≤◌, [], ◌++◌, arith, refl, sym, ◌∙◌, length, take, length-take}
use Rattle.std.proofs.KnownBytes.{Appends-nil, Appends-trans}
use Rattle.std.proofs.lemmas.Bool.{eqb-false}
use Rattle.lines.specs.Lines.{line_room}
use Rattle.report.proofs.FillRuns.{filled_uses, filled_writes}
use Rattle.scrub_report.proofs.Passing.{nothing_passes, fill_goes, fill_passes, rest_of_rest}
use Rattle.scrub_report.proofs.pass.Goals as goal

pub loop-rest-init : goal.loop-rest-init
loop-rest-init g c = λ here room. ([], [], refl, nothing_passes here, Appends-nil _)

pub slice_bounds-write_all-end : goal.slice_bounds-write_all-end
slice_bounds-write_all-end g c = let few = filled_writes _ _ _ c.fill-fed.ensures in omega arith

pub slice_bounds-write_all-end-in-loop-rest : goal.slice_bounds-write_all-end-in-loop-rest
slice_bounds-write_all-end-in-loop-rest g c = let few = filled_writes _ _ _ c.fill-fed.ensures in simp length-take (omega arith)

pub slice_bounds-rest-count : goal.slice_bounds-rest-count
slice_bounds-rest-count g c = let few = filled_uses _ _ _ c.fill-fed.ensures in omega arith

pub slice_bounds-rest-start : goal.slice_bounds-rest-start
slice_bounds-rest-start g c = let few = filled_uses _ _ _ c.fill-fed.ensures in omega arith

pub loop-rest-preserved : goal.loop-rest-preserved
loop-rest-preserved g c = λ here room.
    let (done, said, all, p, written) = c.loop-rest.invariant here room in (
      done ++ take c.fill-fed.result.used c.loop-rest.rest.now,
      said ++ take c.fill-fed.result.written c.fill-fed.new.out,
      rest_of_rest _ done c.loop-rest.rest.now c.fill-fed.result.used all,
      fill_passes _ _ _ c.fill-fed.ensures p,
      Appends-trans _ _ _ _ _ written c.in_ok-write_all.ensures.bytes,
    )

pub returns-then-fed-eq0 : goal.returns-then-fed-eq0
returns-then-fed-eq0 g c = λ here room.
    let (done, said, all, p, written) = c.loop-rest.invariant here room in
    let wide : line_room ≤ length c.loop-rest.lines = omega arith in
    let some = eqb-false _ _ (sym c.is_empty.ensures ∙ c.loop-rest-test.true) in
    let goes = fill_goes _ _ _ c.fill-fed.ensures p.reached wide (omega arith) in
    absurd (omega arith)
