-- The theorems on the code's own promises. What a caller learns from the `ensures` of `new`, `feed` and `close`, which the check writes into each
-- function's `Reads`, is a step of a `RepairRun`, or begins one. So what is said of every run is said of the calls: with an `ensures` weakened, these
-- laws are refused. `a` are the arguments, `r` the result, `e` the lent buffers at the end. Assumes nothing.
use mathlib.Core.Path.{◌≡◌, sym, ◌∙◌, subst}
use mathlib.Core.Logic.{◌≢◌}
use mathlib.Core.List.{List, [], ◌++◌}
use Prim.Native.Nat.{ℕ, ◌≤◌, ◌<◌}
use lib.ListN.{length, get_or, take}
use contract.Lifetimes.{Lfts}
use borrow.Fn.Kinds.{Dens, ended_of}
use denote.Triple.Clauses.{AtExit}
use Rattle.lines.specs.Lines.{line_room}
use Rattle.repair.specs.declared.Repair.{Repair}
use Rattle.repair.specs.declared.Fed.{Fed}
use Rattle.repair.specs.Repairs.{Output, and_then, repair_of, image_refusal}
use Rattle.repair.specs.Runs.{RepairRun, closed, fed}
use Rattle.repair.specs.SecondPass.{SecondPass, Ends}
use Rattle.repair.proofs.Theorem.{run-writes_the_repair}
use Rattle.repair.proofs.Refused.{repaired_once, refused_ends}
use Rattle.repair.proofs.feeding.new.Kinds as new-kinds
use Rattle.repair.proofs.feeding.new.Reads as new-reads
use Rattle.repair.proofs.feeding.feed.Kinds as feed-kinds
use Rattle.repair.proofs.feeding.feed.Reads as feed-reads
use Rattle.repair.proofs.feeding.close.Kinds as close-kinds
use Rattle.repair.proofs.feeding.close.Reads as close-reads

-- a call of feed, and then a run from where it ended
module _ (κs : Lfts 4) (a : Dens κs feed-kinds.ps) (r : Fed) (e : AtExit (ended_of 4 feed-kinds.ps feed-kinds.r) κs) where
  pub feed_call_runs : feed-reads.Learnt κs a r e → {rest : List ℕ} {out : Output} → RepairRun r.state e.1.1.0.now rest out
      → RepairRun a.0 a.1.1.0.now (take r.used a.1.0.now ++ rest)
      (and_then (record { image = take r.written e.1.1.1.0.now; list = take r.listed e.1.1.1.1.0.now }) out)
  feed_call_runs p run = fed a.1.0.now a.1.1.1.0.now a.1.1.1.1.0.now r p run

-- a call of close, with room for a line
module _ (κs : Lfts 1) (a : Dens κs close-kinds.ps) (listed : ℕ) (e : AtExit (ended_of 1 close-kinds.ps close-kinds.r) κs) where
  pub close_call_runs : close-reads.Learnt κs a listed e → line_room ≤ length a.1.0.now → {h : List ℕ}
      → RepairRun a.0 h [] (record { image = []; list = take listed e.1.0.now })
  close_call_runs p wide = closed a.1.0.now listed wide p.0 p.1

-- from what new gives
module _ (κs : Lfts 0) (a : Dens κs new-kinds.ps) (r : Repair) (e : AtExit (ended_of 0 new-kinds.ps new-kinds.r) κs) (p : new-reads.Learnt κs a r e) where
  -- what every run writes is the repair of all that it used, however it was cut
  pub calls_write_the_repair : {h image : List ℕ} {out : Output} → RepairRun r h image out → out ≡ repair_of image
  calls_write_the_repair run = run-writes_the_repair p run

  -- a refusal's number ends the list
  pub calls_end_refused : {h image : List ℕ} {out : Output} → RepairRun r h image out → image_refusal image ≢ 0 → Ends out.list (image_refusal image)
  calls_end_refused {h} {image} run refused =
      subst (λ (o : Output). Ends o.list (image_refusal image)) (sym (calls_write_the_repair run)) (refused_ends image refused)

  -- of an image of bytes that is not refused: what is rebuilt is clean, all else is as it was, and a run over what was written writes it again
  module _ {h image : List ℕ} {out : Output} (run : RepairRun r h image out) (whole : image_refusal image ≡ 0) (bytes : (i : ℕ) → get_or image i 0 < 256) where
    pub calls_repair_once : SecondPass image out
    calls_repair_once = subst (SecondPass image) (sym (calls_write_the_repair run)) (repaired_once image bytes whole)

    pub calls_repair_again : {g : List ℕ} {again : Output} → RepairRun r g out.image again → again ≡ out
    calls_repair_again second = calls_write_the_repair second ∙ calls_repair_once.same_again
