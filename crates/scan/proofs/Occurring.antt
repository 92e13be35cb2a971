-- Every list of calls has a run, from any state and any buffer: what is said of runs is said of every list of calls.
-- Assumes nothing.
use mathlib.Core.Path.{◌≡◌, refl, sym, ap, ◌∙◌}
use mathlib.Core.Bool.{Bool, true, false, not}
use mathlib.Core.List.{List, [], ◌∷◌}
use Prim.Native.Nat.{ℕ, ◌-◌}
use lib.Dec.{eqb, ltb}
use lib.ListN.{length, get_or}
use Rattle.std.specs.Prelude.{Result, Ok, Err}
use Rattle.refusal.specs.Refusals.{number, told}
use Rattle.refusal.specs.declared.Refusal.{Refusal}
use Rattle.refusal.specs.declared.Refusal.TheVariants.{State, Member, Length, Piece, Unfinished}
use Rattle.refusal.proofs.Passing.{number-some}
use Rattle.layout.specs.Answers.{refuse}
use Rattle.verdict.specs.declared.Verdict.{Verdict}
use Rattle.verdict.specs.Verdicts.{scrubbed_numbers}
use Rattle.verdict.proofs.Occurring.{some-verdict}
use Rattle.tag.specs.Blocks.{format_at}
use Rattle.stripe.specs.Verdicts.{standing_members, torn_places}
use Rattle.scan.specs.declared.Scan.{Scan}
use Rattle.scan.specs.declared.Taken.{Taken}
use Rattle.scan.specs.History.{Call, piece, finish}
use Rattle.scan.specs.Scans.{registers_of, held_summary, fit, piece_refusal, piece_state, piece_work, finish_refusal, finish_numbers}
use Rattle.scan.specs.Runs.{Ran, ended, pieced, finished}
use Rattle.scan.specs.Steps.{all_whole}
use Rattle.scan.proofs.Judging.{finish_refused}

-- a number that an answer tells, and one more test
record Told (n : ℕ) : Type 0 where
  given : Result Unit Refusal
  same : told given ≡ n

tested : (flag : Bool) (refusal : Refusal) (n : ℕ) → Told n → Told (refuse flag (number refusal) n)
tested true refusal n t = record { given = Err refusal; same = refl }
tested false refusal n t = t

done : Told 0
done = record { given = Ok tt; same = refl }

some-piece : (s : Scan) (member count length : ℕ) → Told (piece_refusal s member count length)
unfolding piece_refusal
some-piece s member count length =
    tested (not (fit s)) State _
    (tested (not (ltb member s.array.members)) Member _
    (tested (not (eqb length (format_at s.array).data_length)) Length _ (tested (ltb ((format_at s.array).block_length - get_or s.at member 0) count) Piece 0 done)))

some-end : (s : Scan) (length : ℕ) → Told (finish_refusal s length)
unfolding finish_refusal
some-end s length =
    tested (not (fit s)) State _
    (tested (not (eqb length (format_at s.array).data_length)) Length _ (tested (not (all_whole (format_at s.array) s.array.members s.at)) Unfinished 0 done))

record Answered (s : Scan) (w : List ℕ) : Type 0 where
  given : Result Verdict Refusal
  same : scrubbed_numbers given ≡ finish_numbers s w

some-finish : (s : Scan) (w : List ℕ) → Answered s w
unfolding finish_numbers
some-finish s w = let t = some-end s (length w) in go t.given t.same
  where
    go : (r : Result Unit Refusal) → told r ≡ finish_refusal s (length w) → Answered s w
    go (Ok x) e =
        let held = held_summary (format_at s.array) s.array.members (registers_of (format_at s.array) s) s.tag w in
        let v = some-verdict (standing_members s.array s.stripe held) (torn_places (format_at s.array) held) in
        record { given = Ok v.verdict; same = rw (← e) (ap (λ (l : List ℕ). 1 ∷ 0 ∷ l) v.same) }
    go (Err refusal) e =
        record {
          given = Err refusal;
          same = ap (λ (n : ℕ). 0 ∷ n ∷ 0 ∷ 0 ∷ 0 ∷ 0 ∷ []) e ∙ sym (finish_refused s w (λ z. number-some refusal (e ∙ z)));
        }

pub every_list_runs : (calls : List Call) (s : Scan) (w : List ℕ) → Ran s w calls
every_list_runs [] s w = record { xs = []; last = s; left = w; run = ended }
every_list_runs (piece member bytes ∷ calls) s w =
    let t = some-piece s member (length bytes) (length w) in
    let r : Taken = record { answer = t.given; state = piece_state s member bytes (length w) } in
    let rest = every_list_runs calls (piece_state s member bytes (length w)) (piece_work s member bytes w) in
    record { xs = (told r.answer ∷ []) ∷ rest.xs; last = rest.last; left = rest.left; run = pieced r t.same refl refl rest.run }
every_list_runs (finish ∷ calls) s w =
    let r = some-finish s w in
    let rest = every_list_runs calls s w in
    record { xs = scrubbed_numbers r.given ∷ rest.xs; last = rest.last; left = rest.left; run = finished r.given r.same rest.run }
