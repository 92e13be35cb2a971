-- `repair::Repair::header_whole` meets its contract. Assumes nothing.
use Rattle.std.proofs.Common.{refl, ap, ◌∙◌}
use Rattle.refusal.proofs.Passing.{number-some}
use Rattle.repair.specs.Repairs.{repair_refusal}
use Rattle.repair.proofs.Doing.{does_same, header_refused, header-accepted}
use Rattle.repair.proofs.Repair.header_whole.Goals as goal

pub returns-in-Ok : goal.returns-in-Ok
returns-in-Ok c =
    let a = c.args in
    let header = c.bytes-header.ensures in
    header-accepted a.used a.self a.held.now (c.in-Ok.ensures ∙ ap repair_refusal header) refl c.requires.held_has header c.array_in.ensures c.put.ensures c.entering.ensures

pub returns-in-Err : goal.returns-in-Err
returns-in-Err c =
    let a = c.args in
    let told = c.in-Err.ensures ∙ ap repair_refusal c.bytes-header.ensures in
    does_same (header_refused a.used a.self a.held.now told (number-some c.in-Err.refusal)) (c.refused.ensures a.held.now a.image.now)
