use Rattle.std.proofs.Common.{◌∙◌, take, drop, arith, length-take}
use Rattle.tag.proofs.Numbers.{bytes_of_part, bytes_of_rest, number-whole}
use Rattle.lines.proofs.header.number_at.Goals as goal

pub returns : goal.returns
returns c =
    let a = c.args in
    let bytes = bytes_of_part a.count (drop a.at a.header.now) (bytes_of_rest a.at a.header.now (λ k. (c.type_inv.header k).fits)) in
    c.number_of.ensures ∙ rw c.part.ensures (number-whole (take a.count (drop a.at a.header.now)) bytes (simp length-take (omega arith)))
