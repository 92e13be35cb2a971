-- The last line lies within the buffer, and it is what is written.
use Rattle.std.proofs.Common.{arith, length-take}
use Rattle.repair.proofs.Within.{closed-within}
use Rattle.repair_image.proofs.Passing.{close_shows}
use Rattle.repair_image.proofs.end.Goals as goal

pub slice_bounds-write_all-end : goal.slice_bounds-write_all-end
slice_bounds-write_all-end g c = let few = closed-within _ _ c.close-last.ensures.value in omega arith

pub slice_bounds-write_all-end-2 : goal.slice_bounds-write_all-end-2
slice_bounds-write_all-end-2 g c = let few = closed-within _ _ c.close-last.ensures.value in simp length-take (omega arith)

pub returns : goal.returns
returns g c = let shown = close_shows _ _ c.close-last.ensures.value c.close-last.ensures.list_after in rw shown at c.in_ok-write_all.ensures.bytes
