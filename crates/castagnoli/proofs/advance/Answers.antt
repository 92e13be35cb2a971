-- `castagnoli::advance` meets its contract: the tables are the check's own.
-- Assumes nothing.
use mathlib.Core.Path.{ap₂, ◌∙◌}
use mathlib.Core.List.{List}
use Prim.Native.Nat.{ℕ}
use native.Mathlib.Omega.{arith}
use Rattle.castagnoli.specs.Tables.{look_run}
use Rattle.castagnoli.proofs.Looked.{advance_by_tables}
use Rattle.castagnoli.proofs.advance.Goals as goal

pub returns : goal.returns
returns c =
    let a = c.args in
    c.through.ensures ∙ ap₂ (λ (h l : List ℕ). look_run h l a.register a.bytes.now) c.first_table-first.ensures c.last_table-last.ensures
    ∙ advance_by_tables a.register a.bytes.now (λ k. omega (arith, c.type_inv.bytes k))
