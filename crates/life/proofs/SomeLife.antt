-- Every list of events has a run, from any bytes: what is said of all runs is not said of none. Assumes nothing.
use mathlib.Core.Path.{◌≡◌, refl}
use mathlib.Core.Bool.{Bool, true, false, cond}
use mathlib.Core.List.{List, [], ◌∷◌}
use Prim.Native.Nat.{ℕ, zero, suc}
use Rattle.std.proofs.Common.{Result, Ok, Err}
use lib.Dec.{eqb}
use lib.ListN.{length}
use Rattle.refusal.specs.Refusals.{number, told}
use Rattle.refusal.specs.declared.Refusal.{Refusal}
use Rattle.refusal.specs.declared.Refusal.TheVariants.{Members, Stripes, Place, Length, Bad, Method, Row}
use Rattle.layout.specs.Answers.{refuse, after, answer}
use Rattle.layout.specs.Arrays.{array_refusal, block_refusal}
use Rattle.layout.specs.Places.{stripe_of, member_of}
use Rattle.layout.specs.declared.Array.{Array}
use Rattle.layout.proofs.Answers.{answer_reason}
use Rattle.tag.specs.Blocks.{format_at}
use Rattle.tag.specs.Tags.{standing_at, kind_of}
use Rattle.stripe.specs.Stripes.{block_of}
use Rattle.stripe.specs.Jobs.{serve_refusal, with_block, update_refusal, update_bytes, read_refusal, read_numbers, read_out, reading_numbers, rebuild_refusal, rebuild_bytes}
use Rattle.stripe.specs.declared.Reading.{Reading}
use Rattle.stripe.specs.declared.Reading.TheVariants.{Stored, Rebuilt, Unchecked}
use Rattle.life.specs.Events.{Event, update, read, rebuild, lose, numbered, unanswered}
use Rattle.life.specs.Runs.{ended, updated, served, rebuilt, lost, Lived}

-- a refusal number is that of some reason, or 0
record Reasoned (n : ℕ) : Type 0 where
  answered : Result Unit Refusal
  same : told answered ≡ n

by_reason : (t : Bool) (reason : Refusal) {n : ℕ} → Reasoned n → Reasoned (refuse t (number reason) n)
by_reason true reason r = record { answered = Err reason; same = refl }
by_reason false reason r = r

by_later : (n : ℕ) {later : ℕ} → Reasoned n → Reasoned later → Reasoned (after n later)
by_later zero r s = s
by_later (suc k) r s = r

none : Reasoned 0
none = record { answered = Ok tt; same = refl }

array_reasoned : (a : Array) → Reasoned (array_refusal a)
unfolding array_refusal
array_reasoned a = by_reason _ Members (by_reason _ Stripes (by_reason _ Method (by_reason _ Row none)))

block_reasoned : (a : Array) (block : ℕ) → Reasoned (block_refusal a block)
unfolding block_refusal
block_reasoned a block = by_later (array_refusal a) (array_reasoned a) (by_reason _ Place none)

read_reasoned : (a : Array) (block : ℕ) (bytes : List ℕ) (outBytes : ℕ) → Reasoned (read_refusal a block bytes outBytes)
unfolding read_refusal serve_refusal
read_reasoned a block bytes outBytes = by_later (block_refusal a block) (block_reasoned a block) (by_reason _ Length (by_reason _ Bad none))

-- the numbers of a read are those of some answer
pub record Said (numbers : List ℕ) : Type 0 where
  pub reading : Result Reading Refusal
  pub same : reading_numbers reading ≡ numbers

said : (refusal how : ℕ) → Reasoned refusal → Said (answer refusal (kind_of how ∷ []))
said refusal how r = by_answer r.answered r.same
  where
    by_kind : (g u : Bool) → Said (1 ∷ 0 ∷ cond g 0 (cond u 2 1) ∷ [])
    by_kind true u = record { reading = Ok Stored; same = refl }
    by_kind false true = record { reading = Ok Unchecked; same = refl }
    by_kind false false = record { reading = Ok Rebuilt; same = refl }

    by_answer : (x : Result Unit Refusal) → told x ≡ refusal → Said (answer refusal (kind_of how ∷ []))
    by_answer (Ok u) e = rw (← e) (by_kind (eqb how 0) (eqb how 8))
    by_answer (Err reason) e = record { reading = Err reason; same = answer_reason reason refusal (kind_of how ∷ []) e }

read_said : (a : Array) (block : ℕ) (bytes : List ℕ) (outBytes : ℕ) → Said (read_numbers a block bytes outBytes)
unfolding read_numbers
read_said a block bytes outBytes =
    said (read_refusal a block bytes outBytes) (standing_at a (stripe_of a block) (member_of a block) (block_of (format_at a) bytes (member_of a block)))
    (read_reasoned a block bytes outBytes)

pub some-life : (a : Array) (stripe : ℕ) (bytes : List ℕ) (events : List Event) → Lived a stripe bytes events
some-life a stripe bytes [] = record { answers = []; last = bytes; run = ended }
some-life a stripe bytes (update block new ∷ events) =
    let number = update_refusal a block (length new) bytes in
    let rest = some-life a stripe (update_bytes a block new bytes) events in
    record { answers = numbered number ∷ rest.answers; last = rest.last; run = updated number refl refl rest.run }
some-life a stripe bytes (read block out ∷ events) =
    let r = read_said a block bytes (length out) in
    let rest = some-life a stripe bytes events in
    record {
      answers = record { numbers = reading_numbers r.reading; left = read_out a block bytes out } ∷ rest.answers;
      last = rest.last;
      run = served r.reading r.same refl rest.run;
    }
some-life a stripe bytes (rebuild member ∷ events) =
    let number = rebuild_refusal a stripe member bytes in
    let rest = some-life a stripe (rebuild_bytes a stripe member bytes) events in
    record { answers = numbered number ∷ rest.answers; last = rest.last; run = rebuilt number refl refl rest.run }
some-life a stripe bytes (lose member block ∷ events) =
    let rest = some-life a stripe (with_block (format_at a) bytes member block) events in
    record { answers = unanswered ∷ rest.answers; last = rest.last; run = lost rest.run }
