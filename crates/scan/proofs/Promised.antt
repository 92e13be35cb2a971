-- Demand 3 on the code's own promises. `Learnt` is what the kit makes of a function's `ensures`: all that a caller may count on.
-- From it a call of `piece` or `finish` is a step of a run, and a call of `start` begins one; and of every run CutAnywhere holds.
-- Assumes nothing.
use mathlib.Core.Path.{◌≡◌, sym, ◌∙◌}
use mathlib.Core.List.{List, [], ◌∷◌}
use Prim.Native.Nat.{ℕ}
use Rattle.std.specs.Prelude.{Result}
use contract.Lifetimes.{Lfts}
use borrow.Fn.Kinds.{Dens, ended_of}
use denote.Triple.Clauses.{AtExit}
use Rattle.layout.proofs.Ranges.{stripe_sound}
use Rattle.refusal.specs.Refusals.{told}
use Rattle.refusal.specs.declared.Refusal.{Refusal}
use Rattle.verdict.specs.declared.Verdict.{Verdict}
use Rattle.verdict.specs.Verdicts.{scrubbed_numbers}
use Rattle.scan.specs.declared.Scan.{Scan}
use Rattle.scan.specs.declared.Taken.{Taken}
use Rattle.scan.specs.History.{Call, piece, finish}
use Rattle.scan.specs.Runs.{ScanRun, pieced, finished}
use Rattle.scan.specs.CutAnywhere.{CutAnywhere}
use Rattle.scan.proofs.Starts.{start_sound}
use Rattle.scan.proofs.Theorem.{run-answers_as_history}
use Rattle.scan.proofs.Beside.{answers-cut_anywhere}
use Rattle.scan.proofs.starting.start.Kinds as start-kinds
use Rattle.scan.proofs.starting.start.Reads as start-reads
use Rattle.scan.proofs.taking.piece.Kinds as piece-kinds
use Rattle.scan.proofs.taking.piece.Reads as piece-reads
use Rattle.scan.proofs.finishing.finish.Kinds as finish-kinds
use Rattle.scan.proofs.finishing.finish.Reads as finish-reads

-- A call is its arguments a, its result r, and e, what its borrows hold at the end; both a and e are in the order of the parameters.
-- Of `piece`: .0 the state, .1 .0 the member, .1 .1 .0 the bytes, .1 .1 .1 .0 the work buffer
module _ (κs : Lfts 2) (a : Dens κs piece-kinds.ps) (r : Taken) (e : AtExit (ended_of 2 piece-kinds.ps piece-kinds.r) κs) where
  pub piece_runs : piece-reads.Learnt κs a r e → {calls : List Call} {xs : List (List ℕ)} {last : Scan} {left : List ℕ}
      → ScanRun r.state e.1.1.1.0.now calls xs last left
      → ScanRun a.0 a.1.1.1.0.now (piece a.1.0 a.1.1.0.now ∷ calls) ((told r.answer ∷ []) ∷ xs) last left
  piece_runs promised run = pieced r promised.0 promised.1.0 promised.1.1 run

-- of `finish`: .0 the state, .1 .0 the work buffer, which stays as it is
module _ (κs : Lfts 1) (a : Dens κs finish-kinds.ps) (r : Result Verdict Refusal) (e : AtExit (ended_of 1 finish-kinds.ps finish-kinds.r) κs) where
  pub finish_runs : finish-reads.Learnt κs a r e → {calls : List Call} {xs : List (List ℕ)} {last : Scan} {left : List ℕ}
      → ScanRun a.0 a.1.0.now calls xs last left
      → ScanRun a.0 a.1.0.now (finish ∷ calls) (scrubbed_numbers r ∷ xs) last left
  finish_runs promised run = finished r promised run

-- of `start`: .0 the array, .1 .0 the stripe, .1 .1 .0 the work buffer. It is accepted, and any run of calls goes on from the state and the
-- buffer that it left
pub cut_anywhere : (κs : Lfts 1) (a : Dens κs start-kinds.ps) (r : Taken) (e : AtExit (ended_of 1 start-kinds.ps start-kinds.r) κs)
    → start-reads.Learnt κs a r e → told r.answer ≡ 0
    → {calls : List Call} {xs : List (List ℕ)} {last : Scan} {left : List ℕ} → ScanRun r.state e.1.1.0.now calls xs last left
    → CutAnywhere a.0 a.1.0 calls xs
cut_anywhere κs a r e promised done {calls = calls} {xs = xs} run =
    let accepted = sym promised.0 ∙ done in
    answers-cut_anywhere a.0 a.1.0
    (stripe_sound a.0 a.1.0 (start_sound a.0 a.1.0 a.1.1.0.now accepted)).array calls xs
    (run-answers_as_history a.0 a.1.0 a.1.1.0.now accepted promised.1.0 promised.1.1 run)
