-- `scan::taking::replaced_byte` meets its contract. Assumes nothing.
use mathlib.Core.Path.{◌≡◌, sym, ap, ◌∙◌}
use Prim.Native.Nat.{ℕ}
use native.Mathlib.Omega.{arith}
use lib.ListN.{length, get_or}
use Rattle.std.proofs.Common.{rules}
use Rattle.scan.proofs.Replacing.{set_as_it_is}
use Rattle.scan.proofs.taking.replaced_byte.Goals as goal

pub returns-then-held-from : goal.returns-then-held-from
returns-then-held-from c =
    let a = c.args in
    let long : length a.held ≡ 16 = search rules in
    set_as_it_is a.held a.place a.value (omega (arith, long, c.requires)) (ap (λ (i : ℕ). get_or a.held i 0) (sym c.from.ensures) ∙ c.if-held-from.true)
