-- `tag::eight_bytes` meets its contract. Assumes nothing.
use Rattle.tag.proofs.Numbers.{high_first}
use Rattle.tag.proofs.eight_bytes.Goals as goal

pub returns : goal.returns
returns c =
    let f = c.args.fields in
    rw (c.to_be_bytes-guard.ensures, c.to_be_bytes-application.ensures, c.to_be_bytes-reference.ensures, ← high_first 2 f.guard, ← high_first 2 f.application, ← high_first 4 f.reference)
