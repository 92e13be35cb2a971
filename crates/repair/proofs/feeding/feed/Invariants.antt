-- `repair::feeding::feed` meets its contract. The invariant is `Filled`; each step that uses something leads on, and the one that uses nothing is
-- the last. The measure is what is left of the input. Assumes nothing.
use Rattle.std.proofs.Common.{◌≡◌, ◌-◌, length}
use Rattle.repair.specs.Feeds.{feed_of}
use Rattle.repair.proofs.Filled.{Filled}
use Rattle.repair.proofs.feeding.feed.Given as goal

abbrev pub invariant-loop-all : goal.invariant-loop-all
invariant-loop-all l = record {
  filled : Filled (feed_of l.fn.state l.input l.initial.held (length l.initial.image) (length l.initial.list)) l.input l.initial.image l.initial.list l.all.state l.held l.image l.list l.all.used l.all.written l.all.listed;
  image_kept : length l.image ≡ length l.initial.image;
  list_kept : length l.list ≡ length l.initial.list;
}

abbrev pub decreases-loop-all : goal.decreases-loop-all
decreases-loop-all l = length l.input - l.all.used
