-- `mend::mend_by` meets its contract, verdict by verdict. Assumes nothing.
use Rattle.mend.proofs.Deciding.{no_line, line_same, clean_stays, clean_unlisted, bad_rebuilds, bad-listed, left_stays, left-listed}
use mathlib.Core.Path.{◌∙◌}
use Rattle.mend.proofs.mend_by.Goals as goal

pub returns-in-Clean : goal.returns-in-Clean
returns-in-Clean c =
    let a = c.args in
    let is = c.in-Clean.is in record {
      bytes_after = clean_stays a.array a.stripe a.bytes.now is;
      written = line_same (clean_unlisted a.array a.stripe a.bytes.now is) (no_line a.list.now);
    }

pub returns-in-Bad : goal.returns-in-Bad
returns-in-Bad c =
    let a = c.args in
    let is = c.in-Bad.is in record {
      bytes_after = c.rebuild_or_lose.ensures.bytes_after ∙ bad_rebuilds a.array a.stripe a.bytes.now is;
      written = line_same (bad-listed a.array a.stripe a.bytes.now is) c.rebuild_or_lose.ensures.written;
    }

pub returns-in-Unchecked : goal.returns-in-Unchecked
returns-in-Unchecked c =
    let a = c.args in
    let is = c.in-Unchecked.is in record {
      bytes_after = left_stays a.array a.stripe a.bytes.now a.verdict is;
      written = line_same (left-listed a.array a.stripe a.bytes.now a.verdict is) c.stripe_line.ensures;
    }
