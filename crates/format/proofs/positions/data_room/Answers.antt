-- `format::positions::data_room` meets its contract, by the part that the position is in. Assumes nothing.
use mathlib.Core.Path.{sym, ap, ◌∙◌}
use Rattle.format.specs.Methods.{format_of}
use Rattle.format.proofs.Ranges.{room_of, room_of_lem, data_place}
use Rattle.format.proofs.positions.data_room.Goals as goal

pub overflow_sub-result : goal.overflow_sub-result
overflow_sub-result c =
    let a = c.args in
    rw c.data_length-data.ensures
    (data_place (format_of a.method) a.position _ (sym c.in-Data.is ∙ c.part_at-part.ensures))

pub returns-in-Data : goal.returns-in-Data
returns-in-Data c =
    let a = c.args in
    let F = format_of a.method in
    rw c.data_length-data.ensures (ap (room_of F) (sym c.in-Data.is ∙ c.part_at-part.ensures) ∙ room_of_lem F a.position)

pub returns-in-Guard : goal.returns-in-Guard
returns-in-Guard c =
    let a = c.args in
    let F = format_of a.method in
    ap (room_of F) (sym c.in-Guard.is ∙ c.part_at-part.ensures) ∙ room_of_lem F a.position

pub returns-in-Application : goal.returns-in-Application
returns-in-Application c =
    let a = c.args in
    let F = format_of a.method in
    ap (room_of F) (sym c.in-Application.is ∙ c.part_at-part.ensures) ∙ room_of_lem F a.position

pub returns-in-Reference : goal.returns-in-Reference
returns-in-Reference c =
    let a = c.args in
    let F = format_of a.method in
    ap (room_of F) (sym c.in-Reference.is ∙ c.part_at-part.ensures) ∙ room_of_lem F a.position

pub returns-in-Past : goal.returns-in-Past
returns-in-Past c =
    let a = c.args in
    let F = format_of a.method in
    ap (room_of F) (sym c.in-Past.is ∙ c.part_at-part.ensures) ∙ room_of_lem F a.position
