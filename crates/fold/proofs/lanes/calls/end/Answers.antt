-- `fold::lanes::calls::end` meets its contract: the tables are the guard's own.
-- Assumes nothing.
use mathlib.Core.Path.{ap, ◌∙◌}
use mathlib.Core.List.{List}
use Prim.Native.Nat.{ℕ}
use Rattle.words.specs.Words.{act}
use Rattle.nibbles.specs.Nibbles.{nearer, looked}
use Rattle.nibbles.proofs.Ends.{ends}
use borrow.Author.Rules.{rules}
use Rattle.fold.proofs.lanes.calls.end.Goals as goal

pub returns : goal.returns
returns c = c.end.ensures ∙ ap (λ (t : List ℕ). looked 10 t (act nearer c.args.v)) c.requires ∙ ends c.args.v (search rules)
