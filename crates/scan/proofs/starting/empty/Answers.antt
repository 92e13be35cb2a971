-- `scan::starting::empty` meets its contract.
-- Assumes nothing.
use mathlib.Core.Path.{ap}
use Prim.Native.Nat.{ℕ}
use lib.ListN.{replicate}
use Rattle.format.specs.Formats.{most_tags}
use Rattle.scan.specs.Scans.{empty_scan}
use Rattle.scan.proofs.starting.empty.Goals as goal

pub returns : goal.returns
unfolding empty_scan
returns c =
    let a = c.args in
    ap (λ (x : ℕ). record { array = a.array; stripe = a.stripe; at = replicate 16 0; register = replicate 16 x; waiting = replicate 16 0; tag = replicate most_tags 0 }) c.start.ensures
