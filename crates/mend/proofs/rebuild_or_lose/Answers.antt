use Rattle.mend.proofs.Deciding.{no_line, line_same, rebuilt_unlisted, refused_lost}
use Rattle.mend.proofs.rebuild_or_lose.Goals as goal

pub returns-in-Ok : goal.returns-in-Ok
returns-in-Ok c =
    let a = c.args in record {
      bytes_after = c.in-Ok.ensures.bytes_after;
      written = line_same (rebuilt_unlisted a.array a.stripe a.member a.bytes.now c.in-Ok.ensures.value) (no_line a.list.now);
    }

pub returns-in-Err : goal.returns-in-Err
returns-in-Err c =
    let a = c.args in record {
      bytes_after = c.in-Err.ensures.bytes_after;
      written = line_same (refused_lost a.array a.stripe a.member a.bytes.now _ c.in-Err.ensures.value) c.lost_line.ensures;
    }
