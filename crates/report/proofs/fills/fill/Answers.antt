-- Each call that uses something leads on, and the one that uses nothing is the last.
use Rattle.std.proofs.Common.{refl, arith, rules}
use Rattle.report.proofs.Filled.{none_filled, used-within, written-within, all_filled, more_filled}
use Rattle.report.proofs.fills.fill.Goals as goal

pub loop-filled-init : goal.loop-filled-init
loop-filled-init c = let a = c.args in record { filled = none_filled a.state a.input.now a.work.now a.out.now; long = refl }

pub overflow_add-filled : goal.overflow_add-filled
overflow_add-filled c = omega (arith, used-within c.loop-filled.invariant.filled c.feed-fed.ensures)

pub overflow_add-filled-in-loop-filled : goal.overflow_add-filled-in-loop-filled
overflow_add-filled-in-loop-filled c = omega (arith, written-within c.loop-filled.invariant.filled c.feed-fed.ensures)

pub loop-filled-smaller : goal.loop-filled-smaller
loop-filled-smaller c = omega (arith, c.if-fed-eq0.false, used-within c.loop-filled.invariant.filled c.feed-fed.ensures)

pub loop-filled-preserved : goal.loop-filled-preserved
loop-filled-preserved c = record { filled = more_filled c.loop-filled.invariant.filled c.feed-fed.ensures c.if-fed-eq0.false; long = search rules }

pub returns-then-fed-eq0 : goal.returns-then-fed-eq0
returns-then-fed-eq0 c = all_filled c.loop-filled.invariant.filled c.feed-fed.ensures c.if-fed-eq0.true
