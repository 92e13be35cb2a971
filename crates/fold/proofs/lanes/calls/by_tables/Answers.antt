-- `fold::lanes::calls::by_tables` meets its contract: the tables are the guard's own.
-- Assumes nothing.
use mathlib.Core.Path.{ap₂, ◌∙◌}
use mathlib.Core.List.{List}
use Prim.Native.Nat.{ℕ}
use native.Mathlib.Omega.{arith}
use Rattle.table.specs.Tables.{look_run}
use Rattle.table.proofs.Looked.{run_by_tables}
use borrow.Author.Rules.{rules}
use Rattle.fold.proofs.lanes.calls.by_tables.Goals as goal

pub returns : goal.returns
returns c =
    let a = c.args in
    c.through.ensures ∙ ap₂ (λ (h l : List ℕ). look_run h l a.register a.bytes.now) c.high_table-high.ensures c.low_table-low.ensures
    ∙ run_by_tables a.register a.bytes.now (search rules) (λ k. omega (arith, c.shared_slice_known-1.given k))
