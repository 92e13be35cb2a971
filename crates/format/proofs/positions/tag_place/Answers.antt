-- `format::positions::tag_place` meets its contract, by the part that the position is in. Assumes nothing.
use mathlib.Core.Path.{sym, ap, ◌∙◌}
use native.Mathlib.Omega.{arith}
use Rattle.format.specs.Methods.{format_of}
use Rattle.format.proofs.Ranges.{tag_place_of, tag-place_of, place_small}
use Rattle.format.proofs.positions.tag_place.Goals as goal

pub overflow_add-result : goal.overflow_add-result
overflow_add-result c =
    let a = c.args in
    let F = format_of a.method in
    omega (arith, F.data_most, F.quarter-most, c.quarter-quarter.ensures, place_small F a.position _ (sym c.in-Application.is ∙ c.part_at-part.ensures))

pub overflow_mul-result : goal.overflow_mul-result
overflow_mul-result c =
    let a = c.args in
    let F = format_of a.method in
    omega (arith, F.quarter-most, c.quarter-quarter.ensures)

pub overflow_add-result-in-Reference : goal.overflow_add-result-in-Reference
overflow_add-result-in-Reference c =
    let a = c.args in
    let F = format_of a.method in
    omega (arith, F.data_most, F.quarter-most, c.quarter-quarter.ensures, place_small F a.position _ (sym c.in-Reference.is ∙ c.part_at-part.ensures))

pub returns-in-Data : goal.returns-in-Data
returns-in-Data c =
    let a = c.args in
    let F = format_of a.method in
    ap (tag_place_of F) (sym c.in-Data.is ∙ c.part_at-part.ensures) ∙ tag-place_of F a.position

pub returns-in-Guard : goal.returns-in-Guard
returns-in-Guard c =
    let a = c.args in
    let F = format_of a.method in
    ap (tag_place_of F) (sym c.in-Guard.is ∙ c.part_at-part.ensures) ∙ tag-place_of F a.position

pub returns-in-Application : goal.returns-in-Application
returns-in-Application c =
    let a = c.args in
    let F = format_of a.method in
    rw c.quarter-quarter.ensures (ap (tag_place_of F) (sym c.in-Application.is ∙ c.part_at-part.ensures) ∙ tag-place_of F a.position)

pub returns-in-Reference : goal.returns-in-Reference
returns-in-Reference c =
    let a = c.args in
    let F = format_of a.method in
    rw c.quarter-quarter.ensures (ap (tag_place_of F) (sym c.in-Reference.is ∙ c.part_at-part.ensures) ∙ tag-place_of F a.position)

pub returns-in-Past : goal.returns-in-Past
returns-in-Past c =
    let a = c.args in
    let F = format_of a.method in
    rw c.tag_length-tag.ensures (ap (tag_place_of F) (sym c.in-Past.is ∙ c.part_at-part.ensures) ∙ tag-place_of F a.position)
