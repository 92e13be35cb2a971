-- Each piece that is read is passed; at the end of the input the close ends the report of all that was read.
use Rattle.std.proofs.Common.{[], ◌++◌, take, refl, arith, rules, length-append, length-take}
use Rattle.std.proofs.KnownBytes.{Appends-nil, Appends-trans, Consumes-nil, Consumes-trans}
use Rattle.std.proofs.Math.Nat.{le_trans}
use Rattle.std.proofs.lemmas.Result.{on_ok_weaker}
use Rattle.report.specs.Runs.{begun}
use Rattle.scrub_report.proofs.Passing.{nothing_passes, both_pass, all_passed}
use Rattle.lines.proofs.Reading.{gave_all, gave_many}
use Rattle.scrub_report.proofs.scrub.Goals as goal
use Rattle.scrub_report.proofs.scrub.Goals.{else-loop-test, then-loop-test+in_ok-count+then-count-eq0}

pub loop-init : goal.loop-init
loop-init g c = (
  [],
  [],
  search rules,
  refl,
  search rules,
  rw c.new-state.ensures (nothing_passes (begun (search rules))),
  Consumes-nil _,
  Appends-nil _,
)

pub loop-preserved : goal.loop-preserved
loop-preserved g c =
    let (given, said, long, wide, many, p, read, written) = c.loop.invariant in
    let (told, q, more) = c.in_ok-state.ensures p.reached (rw wide (omega arith)) in
    let piece = take c.in_ok-count.count c.read.new.buf in (
      given ++ piece,
      said ++ told,
      long,
      omega arith,
      simp (length-append, length-take) (omega arith),
      both_pass p q,
      Consumes-trans _ _ _ _ _ read c.in_ok-count.ensures.bytes.0,
      Appends-trans _ _ _ _ _ written more,
    )

pub returns : goal.returns
returns g c =
    let (given, said, long, wide, many, p, read, written) = c.loop.invariant in
    on_ok_weaker _
    (λ last. elim c.loop-test.branch [
      | else-loop-test w ↦ gave_many _ _ given _ _ read (le_trans w.loop-test.false many)
      | then-loop-test+in_ok-count+then-count-eq0 w ↦
          let bytes = w.in_ok-count.ensures.bytes in
          let none = w.if-count-eq0.true in
          let whole = all_passed c.loop.lines long p (rw wide (omega arith)) in
          let told = rw whole at (Appends-trans _ _ _ _ _ written last) in
          gave_all _ _ _ given _ _ _ read none bytes.0 (bytes.1 none (omega arith)) (λ few. told)
    ])
    c.end.ensures
