-- `stripe::serving::read` meets its contract: what `place` answers is told by its numbers.
-- Assumes nothing.
use Rattle.std.proofs.lemmas.Result.{err_from_is_err_and}
use Rattle.layout.proofs.Ranges.{place_sound, sound_stripe}
use Rattle.stripe.proofs.Served.{placed_at, placed_sound, read_refused, read-served}
use Rattle.stripe.proofs.serving.read.Goals as goal

pub returns-in_err-place : goal.returns-in_err-place
returns-in_err-place c =
    let a = c.args in
    let p = err_from_is_err_and c.from_residual.result c.from_residual.ensures.1 in
    let both = read_refused a.array a.block a.bytes.now a.out.now _ c.in_err-place.ensures in record {
      result_value = rw (p.1, p.2) both.0;
      out_after = both.1;
    }

pub at-requires : goal.at-requires
at-requires c =
    let a = c.args in
    let p = c.in_ok-place.place in
    sound_stripe a.array p.stripe (place_sound a.array p.stripe p.member (placed_sound a.array a.block p.stripe p.member (placed_at a.array a.block p.stripe p.member c.in_ok-place.ensures))).stripe

pub serve-requires : goal.serve-requires
serve-requires c =
    let a = c.args in
    let p = c.in_ok-place.place in
    rw c.at.ensures.array_kept (place_sound a.array p.stripe p.member (placed_sound a.array a.block p.stripe p.member (placed_at a.array a.block p.stripe p.member c.in_ok-place.ensures))).here

pub returns : goal.returns
returns c =
    let a = c.args in
    let p = c.in_ok-place.place in
    let at = placed_at a.array a.block p.stripe p.member c.in_ok-place.ensures in
    let said = rw (c.at.ensures.array_kept, c.at.ensures.number_kept) at c.serve.ensures.result_value in
    let left = rw (c.at.ensures.array_kept, c.at.ensures.number_kept) at c.serve.ensures.out_after in
    let both = read-served a.array a.block a.bytes.now a.out.now p.stripe p.member _ c.serve.new.out at (said, left) in record { result_value = both.0; out_after = both.1 }
