-- `mend::mend` meets its contract. Assumes nothing.
use Rattle.std.proofs.Common.{◌∙◌}
use Rattle.mend.proofs.Deciding.{no_line, line_same, found_mends, found-lists, refused_stays, refused_unlisted}
use Rattle.mend.proofs.mend.Goals as goal

pub returns-in-Err : goal.returns-in-Err
returns-in-Err c =
    let a = c.args in
    let told = c.in-Err.ensures in record {
      bytes_after = refused_stays a.array a.stripe a.bytes.now _ told;
      written = line_same (refused_unlisted a.array a.stripe a.bytes.now _ told) (no_line a.list.now);
    }

pub returns-in-Ok : goal.returns-in-Ok
returns-in-Ok c =
    let a = c.args in
    let told = c.in-Ok.ensures in record {
      bytes_after = c.mend_by.ensures.bytes_after ∙ found_mends a.array a.stripe a.bytes.now _ told;
      written = line_same (found-lists a.array a.stripe a.bytes.now _ told) c.mend_by.ensures.written;
    }
