-- `scan::Scan::held_fields` meets its contract. Assumes nothing.
use Rattle.tag.specs.Blocks.{format_at}
use Rattle.scan.proofs.Judging.{fields-held}
use Rattle.scan.proofs.Scan.held_fields.Goals as goal

pub returns : goal.returns
returns c =
    let s = c.args.self.now in
    fields-held (format_at s.array) c.args.member c.tag_at.result c.quarter.result s.tag c.tag_at.ensures c.quarter.ensures
    c.fields_at.result c.fields_at.ensures.guard_value c.fields_at.ensures.application_value c.fields_at.ensures.reference_value
