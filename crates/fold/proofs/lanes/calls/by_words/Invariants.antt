-- `fold::lanes::calls::by_words` meets its contract. The invariant: the bytes still to come, from what the word leaves, give what all give
-- from the register. Assumes nothing.
use mathlib.Core.Path.{◌≡◌}
use Prim.Native.Nat.{◌*◌}
use lib.ListN.{drop}
use Rattle.crc.specs.Guard.{run}
use Rattle.words.specs.Words.{rest}
use Rattle.fold.proofs.lanes.calls.by_words.Given as goal

abbrev pub invariant-loop-next : goal.invariant-loop-next
invariant-loop-next l = run (rest l.word) (drop (8 * l.next-index) (drop 8 l.bytes)) ≡ run l.register l.bytes
