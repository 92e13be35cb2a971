-- `report::feeding::no_scan` meets its contract: a start gives no scan for no array, refused or not. Assumes nothing.
use mathlib.Core.Path.{◌≡◌, refl, ap, ◌∙◌}
use mathlib.Core.Bool.{Bool, true, false, cond}
use Prim.Native.Nat.{ℕ}
use lib.Dec.{eqb}
use Rattle.layout.specs.Arrays.{no_array}
use Rattle.layout.specs.declared.Array.{Array}
use Rattle.scan.specs.declared.Scan.{Scan}
use Rattle.scan.specs.Scans.{start_refusal, empty_scan, start_state}
use Rattle.report.proofs.feeding.no_scan.Goals as goal

either : (refused : Bool) (scan : Scan) → cond refused scan scan ≡ scan
either true scan = refl
either false scan = refl

none_started : (size : ℕ) → start_state no_array 0 size ≡ empty_scan no_array 0
unfolding start_state
none_started size = either (eqb (start_refusal no_array 0 size) 0) (empty_scan no_array 0)

pub returns : goal.returns
returns c = c.start.ensures.state_value ∙ ap (λ (a : Array). start_state a 0 1) c.no_array.ensures ∙ none_started 1
