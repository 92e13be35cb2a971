-- `format::guard` meets its contract. Assumes nothing.
use mathlib.Core.Path.{sym, ap, ◌∙◌}
use Rattle.format.specs.Formats.{Format, guard}
use Rattle.format.proofs.Laws.{guard-t10, guard-checksummed, guard_large}
use Rattle.format.proofs.guard.Goals as goal

pub returns-in-Crc : goal.returns-in-Crc
returns-in-Crc c =
    let l = c.args.bytes.now in
    c.from.ensures ∙ c.guard.ensures ∙ sym (guard-t10 l) ∙ ap (λ (F : Format). guard F l) c.in-Crc.ensures

pub returns-in-Checksum : goal.returns-in-Checksum
returns-in-Checksum c =
    let l = c.args.bytes.now in
    c.from-in-Checksum.ensures ∙ c.checksum.ensures ∙ sym (guard-checksummed l) ∙ ap (λ (F : Format). guard F l) c.in-Checksum.ensures

pub returns-in-Large : goal.returns-in-Large
returns-in-Large c =
    let l = c.args.bytes.now in
    c.crc32c.ensures ∙ sym (guard_large l) ∙ ap (λ (F : Format). guard F l) c.in-Large.ensures
