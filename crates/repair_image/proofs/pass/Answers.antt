-- What a feed writes lies within the buffers, and it passes what it uses.
use Rattle.std.proofs.Common.{◌<◌, [], ◌++◌, arith, rules, refl, sym, ◌∙◌, length, take}
use borrow.Author.Tests.{eqb-false}
use Rattle.std.proofs.KnownBytes.{Appends-nil, Appends-trans}
use Rattle.repair.specs.Repairs.{nothing, and_then}
use Rattle.repair.proofs.FeedRuns.{fed-uses, fed-writes, fed-lists}
use Rattle.repair_image.proofs.Passing.{nothing_passes, cut_further, feed_goes, feed_passes}
use Rattle.repair_image.proofs.pass.Goals as goal

pub loop-rest-init : goal.loop-rest-init
loop-rest-init g c = (search rules, search rules, ([], refl, λ here. (nothing, nothing_passes here, Appends-nil _, Appends-nil _)))

pub shared_ref_as_front-put_out : goal.shared_ref_as_front-put_out
shared_ref_as_front-put_out g c = let few = fed-writes _ _ _ c.feed-fed.ensures in omega arith

pub shared_ref_as_front-put_out-in-loop-rest : goal.shared_ref_as_front-put_out-in-loop-rest
shared_ref_as_front-put_out-in-loop-rest g c = let few = fed-lists _ _ _ c.feed-fed.ensures in omega arith

pub slice_bounds-rest-count : goal.slice_bounds-rest-count
slice_bounds-rest-count g c = let few = fed-uses _ _ _ c.feed-fed.ensures in omega arith

pub slice_bounds-rest-start : goal.slice_bounds-rest-start
slice_bounds-rest-start g c = let few = fed-uses _ _ _ c.feed-fed.ensures in omega arith

pub loop-rest-preserved : goal.loop-rest-preserved
loop-rest-preserved g c =
    let (wide, room, rest) = c.loop-rest.invariant in
    let (done, cut, passes) = rest in (
      search rules,
      search rules,
      (
        done ++ take c.feed-fed.result.used c.loop-rest.rest.now,
        cut_further done c.loop-rest.rest.now c.feed-fed.result.used cut,
        λ here.
            let (put, p, written, listed) = passes here in
            let more = c.in_ok-put_out.ensures in (
              and_then put (record { image = take c.feed-fed.result.written c.feed-fed.new.image; list = take c.feed-fed.result.listed c.feed-fed.new.list }),
              feed_passes _ _ _ c.feed-fed.ensures p,
              Appends-trans _ _ _ _ _ written more.image,
              Appends-trans _ _ _ _ _ listed more.list,
            ),
      ),
    )

pub returns-then-fed-eq0 : goal.returns-then-fed-eq0
returns-then-fed-eq0 g c = λ here.
    let (wide, room, rest) = c.loop-rest.invariant in
    let (done, cut, passes) = rest in
    let (put, p, written, listed) = passes here in
    let some : 0 < length c.loop-rest.rest.now = omega (arith, eqb-false (length c.loop-rest.rest.now) 0 (sym c.is_empty.ensures ∙ c.loop-rest-test.true)) in
    let goes = feed_goes _ _ _ c.feed-fed.ensures p.reached (search rules) (search rules) some in
    absurd (omega arith)
