-- `intent::entry_fits` meets its contract. Assumes nothing.
use mathlib.Core.Path.{ap, ◌∙◌}
use Prim.Native.Nat.{ℕ}
use native.Mathlib.Omega.{arith}
use lib.Dec.{eqb}
use Rattle.intent.proofs.Entries.{fits_free, fits-past, fits-once}
use Rattle.intent.proofs.entry_fits.Goals as goal

pub returns-then-entry-eq0 : goal.returns-then-entry-eq0
returns-then-entry-eq0 c = let a = c.args in fits_free a.stripes a.entries.now a.entry c.if-entry-eq0.true

pub returns-then-stripes-entry : goal.returns-then-stripes-entry
returns-then-stripes-entry c = let a = c.args in fits-past a.stripes a.entries.now a.entry c.if-entry-eq0.false c.if-stripes-entry.true

pub returns : goal.returns
returns c =
    let a = c.args in
    ap (λ (k : ℕ). eqb k 1) c.many.ensures ∙ fits-once a.stripes a.entries.now a.entry c.if-entry-eq0.false (omega arith)
