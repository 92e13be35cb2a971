-- `format::guards` meets its contract. Assumes nothing.
use mathlib.Core.Path.{ap, ◌∙◌}
use Rattle.format.specs.Formats.{Format, guards_of}
use Rattle.format.proofs.Laws.{guards-large}
use Rattle.format.proofs.guards.Goals as goal

pub returns-in-Large : goal.returns-in-Large
returns-in-Large c =
    let a = c.args in
    c.guards.ensures ∙ guards-large 16 a.stride a.bytes.now ∙ ap (λ (F : Format). guards_of F 16 a.stride a.bytes.now) c.in-Large.ensures

pub returns-in_default : goal.returns-in_default
returns-in_default c =
    let a = c.args in
    c.widened.ensures ∙ c.narrow_guards.ensures ∙ ap (λ (F : Format). guards_of F 16 a.stride a.bytes.now) c.kind_of.ensures
