-- The theorem of the scan: in every run of the calls from an accepted start, each call's answer is the history's.
-- `ScanRun` is the relation of specs/Runs; the history, in specs/History, is kept from the calls alone.
-- Assumes nothing.
use mathlib.Core.Path.{◌≡◌}
use mathlib.Core.List.{List}
use Prim.Native.Nat.{ℕ}
use lib.ListN.{length}
use Rattle.layout.specs.declared.Array.{Array}
use Rattle.tag.specs.Blocks.{format_at}
use Rattle.stripe.specs.Verdicts.{scrub_blocks}
use Rattle.scan.specs.declared.Scan.{Scan}
use Rattle.scan.specs.History.{Call, begun, answers}
use Rattle.scan.specs.Scans.{start_refusal, start_state, start_work}
use Rattle.scan.specs.Runs.{ScanRun}
use Rattle.scan.proofs.Starts.{start_sound, start-holds}
use Rattle.scan.proofs.Traces.{run-answers}

-- for any array, stripe and old buffer that a start accepts, and the state s and the buffer w that it leaves: any calls, with the
-- answers xs that a run of them gives
pub run-answers_as_history : (a : Array) (stripe : ℕ) (old : List ℕ) → start_refusal a stripe (length old) ≡ 0
    → {s last : Scan} {w left : List ℕ} → s ≡ start_state a stripe (length old) → w ≡ start_work a stripe old
    → {calls : List Call} {xs : List (List ℕ)} → ScanRun s w calls xs last left
    → xs ≡ answers (format_at a).block_length a.members (scrub_blocks a stripe) (begun a.members) calls
run-answers_as_history a stripe old accepted started cleared =
    run-answers a stripe (start_sound a stripe old accepted) (begun a.members) (start-holds a stripe old accepted started cleared)

-- Promised.antt goes on from here: the runs are those of the code, by its own promises, and demand 3 stands there whole.
