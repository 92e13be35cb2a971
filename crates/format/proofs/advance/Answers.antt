-- `format::advance` meets its contract. Assumes nothing.
use mathlib.Core.Path.{◌≡◌, ap, ◌∙◌}
use lib.ListN.{length}
use Rattle.std.proofs.Common.{rules}
use Rattle.checksum.specs.Machine.{advance as goesOn}
use Rattle.checksum.specs.declared.Register.{Register}
use Rattle.format.specs.Formats.{Format}
use Rattle.format.specs.Packed.{packed}
use Rattle.format.proofs.Past.{run-cut, packed-cut}
use Rattle.format.proofs.advance.Goals as goal

pub returns-in-Crc : goal.returns-in-Crc
returns-in-Crc c =
    let a = c.args in
    let some : ¬ (length a.bytes.now ≡ 0) = λ z. search rules in
    c.from.ensures ∙ c.run.ensures ∙ run-cut a.register a.bytes.now some ∙ ap (λ (F : Format). F.advance a.at a.register a.bytes.now) c.in-Crc.ensures

pub returns-in-Checksum : goal.returns-in-Checksum
returns-in-Checksum c =
    let a = c.args in
    let some : ¬ (length a.bytes.now ≡ 0) = λ z. search rules in
    c.packed.ensures ∙ ap packed (c.advance.ensures ∙ ap (λ (r : Register). goesOn a.at r a.bytes.now) c.unpacked.ensures)
    ∙ packed-cut a.at a.register a.bytes.now some ∙ ap (λ (F : Format). F.advance a.at a.register a.bytes.now) c.in-Checksum.ensures
