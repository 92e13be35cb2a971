-- `repair::feeding::feed` meets its contract. Each step that uses something leads on, and the one that uses nothing is the last. Assumes nothing.
use Rattle.std.proofs.Common.{refl, arith}
use Rattle.repair.proofs.Filled.{none_filled, used-within, written-within, listed-within, image-kept, list-kept, all_filled, more_filled}
use Rattle.repair.proofs.feeding.feed.Goals as goal

pub loop-all-init : goal.loop-all-init
loop-all-init c =
    let a = c.args in
    rw c.silent-all.ensures record { filled = none_filled a.state a.input.now a.held.now a.image.now a.list.now; image_kept = refl; list_kept = refl }

pub overflow_add-all : goal.overflow_add-all
overflow_add-all c = omega (arith, used-within c.loop-all.invariant.filled c.step-more.ensures)

pub overflow_add-all-in-loop-all : goal.overflow_add-all-in-loop-all
overflow_add-all-in-loop-all c = omega (arith, written-within c.loop-all.invariant.filled c.step-more.ensures, c.well_formed.1.1.1.0)

pub overflow_add-all-in-loop-all-2 : goal.overflow_add-all-in-loop-all-2
overflow_add-all-in-loop-all-2 c = omega (arith, listed-within c.loop-all.invariant.filled c.step-more.ensures, c.well_formed.1.1.1.1.0)

pub loop-all-smaller : goal.loop-all-smaller
loop-all-smaller c = omega (arith, c.if-more-eq0.false, used-within c.loop-all.invariant.filled c.step-more.ensures)

pub loop-all-preserved : goal.loop-all-preserved
loop-all-preserved c = record {
  filled = more_filled c.loop-all.invariant.filled c.step-more.ensures c.if-more-eq0.false;
  image_kept = image-kept c.loop-all.invariant.filled c.step-more.ensures;
  list_kept = list-kept c.loop-all.invariant.filled c.step-more.ensures;
}

pub returns-then-more-eq0 : goal.returns-then-more-eq0
returns-then-more-eq0 c = all_filled c.loop-all.invariant.filled c.step-more.ensures c.if-more-eq0.true
