-- What a run of the calls from an accepted start leaves: the state and the buffer are what the accepted bytes make them, and no
-- later call is refused for either.
-- Assumes nothing.
use mathlib.Core.Path.{◌≡◌}
use mathlib.Core.Bool.{true}
use mathlib.Core.List.{List}
use Prim.Native.Nat.{ℕ}
use lib.ListN.{length}
use Rattle.layout.specs.declared.Array.{Array}
use Rattle.tag.specs.Blocks.{format_at}
use Rattle.scan.specs.declared.Scan.{Scan}
use Rattle.scan.specs.History.{Call, begun}
use Rattle.scan.specs.Scans.{fit, start_refusal, start_state, start_work}
use Rattle.scan.specs.Runs.{ScanRun}
use Rattle.scan.specs.CutAnywhere.{history_of}
use Rattle.scan.specs.Holding.{Holds}
use Rattle.scan.proofs.States.{is_fit, work-long}
use Rattle.scan.proofs.Starts.{start_sound, start-holds}
use Rattle.scan.proofs.Traces.{run_holds}

module _ (a : Array) (stripe : ℕ) (old : List ℕ) (accepted : start_refusal a stripe (length old) ≡ 0)
    {s last : Scan} {w left : List ℕ} (started : s ≡ start_state a stripe (length old)) (cleared : w ≡ start_work a stripe old)
    {calls : List Call} {xs : List (List ℕ)} (run : ScanRun s w calls xs last left) where
  -- the array's numbers and the stripe are the start's, and what is held follows from the history after the calls
  pub run-follows_history : Holds a stripe last left (history_of a stripe calls)
  run-follows_history = run_holds a stripe (start_sound a stripe old accepted) (begun a.members) (start-holds a stripe old accepted started cleared) run

  pub run_stays_fit : fit last ≡ true
  run_stays_fit = is_fit a stripe (start_sound a stripe old accepted) last left (history_of a stripe calls) run-follows_history

  pub run_keeps_length : length left ≡ (format_at a).data_length
  run_keeps_length = work-long a stripe (start_sound a stripe old accepted) last left (history_of a stripe calls) run-follows_history
