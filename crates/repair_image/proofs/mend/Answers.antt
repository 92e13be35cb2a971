-- Each piece that is read is passed; at the end of the input the close ends the list of all that was read.
use Rattle.std.proofs.Common.{◌≡◌, [], ◌++◌, take, sym, ap, ◌∙◌, arith, rules, append-nil, length-append, length-take}
use Rattle.std.proofs.KnownBytes.{Appends-nil, Appends-trans, Consumes-nil, Consumes-trans}
use Rattle.std.proofs.Math.Nat.{le_trans}
use Rattle.std.proofs.lemmas.Result.{on_ok_weaker}
use Rattle.repair.specs.Repairs.{Output, nothing, and_then, repair_of}
use Rattle.repair.specs.Runs.{begun}
use Rattle.repair_image.proofs.Passing.{nothing_passes, both_pass, all_passed}
use Rattle.lines.proofs.Reading.{gave_all, gave_many}
use Rattle.repair_image.proofs.mend.Goals as goal
use Rattle.repair_image.proofs.mend.Goals.{else-loop-test, then-loop-test+in_ok-count+then-count-eq0}

pub loop-init : goal.loop-init
loop-init g c = (
  [],
  nothing,
  search rules,
  rw c.new-state.ensures (nothing_passes (begun (search rules))),
  Consumes-nil _,
  Appends-nil _,
  Appends-nil _,
)

pub loop-preserved : goal.loop-preserved
loop-preserved g c =
    let (given, put, many, p, read, written, listed) = c.loop.invariant in
    let (told, q, more, lines) = c.in_ok-state.ensures p.reached in
    let piece = take c.in_ok-count.count c.read.new.buf in (
      given ++ piece,
      and_then put told,
      simp (length-append, length-take) (omega arith),
      both_pass p q,
      Consumes-trans _ _ _ _ _ read c.in_ok-count.ensures.bytes.0,
      Appends-trans _ _ _ _ _ written more,
      Appends-trans _ _ _ _ _ listed lines,
    )

pub returns-clause-image : goal.returns-clause-image
returns-clause-image g c =
    let (given, put, many, p, read, written, listed) = c.loop.invariant in
    on_ok_weaker _
    (λ last. elim c.loop-test.branch [
      | else-loop-test w ↦ gave_many _ _ given _ _ read (le_trans w.loop-test.false many)
      | then-loop-test+in_ok-count+then-count-eq0 w ↦
          let bytes = w.in_ok-count.ensures.bytes in
          let none = w.if-count-eq0.true in
          let whole = all_passed c.loop.buffers.list p (search rules) in
          let image : put.image ≡ (repair_of given).image = sym (append-nil put.image) ∙ ap (λ (o : Output). o.image) whole in
          gave_all _ _ _ given _ _ _ read none bytes.0 (bytes.1 none (omega arith)) (λ few. rw image at written)
    ])
    c.end.ensures

pub returns-clause-list : goal.returns-clause-list
returns-clause-list g c =
    let (given, put, many, p, read, written, listed) = c.loop.invariant in
    on_ok_weaker _
    (λ last. elim c.loop-test.branch [
      | else-loop-test w ↦ gave_many _ _ given _ _ read (le_trans w.loop-test.false many)
      | then-loop-test+in_ok-count+then-count-eq0 w ↦
          let bytes = w.in_ok-count.ensures.bytes in
          let none = w.if-count-eq0.true in
          let whole = all_passed c.loop.buffers.list p (search rules) in
          let told = rw (ap (λ (o : Output). o.list) whole) at (Appends-trans _ _ _ _ _ listed last) in
          gave_all _ _ _ given _ _ _ read none bytes.0 (bytes.1 none (omega arith)) (λ few. told)
    ])
    c.end.ensures
