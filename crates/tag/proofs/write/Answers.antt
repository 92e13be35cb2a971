-- `tag::write` meets its contract. Assumes nothing.
use Rattle.tag.proofs.Within.{written_by_fields}
use Rattle.tag.proofs.write.Goals as goal

pub returns : goal.returns
returns c =
    let a = c.args in
    written_by_fields a.bytes.now a.at a.quarter a.fields c.put_number.new.bytes c.put_number-2.new.bytes c.put_number-3.new.bytes
    c.put_number.ensures c.put_number-2.ensures c.put_number-3.ensures
