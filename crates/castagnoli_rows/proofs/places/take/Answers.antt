-- `castagnoli_rows::places::take` meets its contract.
-- Assumes nothing.
use mathlib.Core.Path.{subst, ◌∙◌}
use Prim.Native.Nat.{ℕ, ◌*◌, ◌<◌}
use Rattle.castagnoli_rows.specs.Folds.{Taken}
use Rattle.castagnoli_rows.proofs.Chunks.{taken_more, chunk_next, chunk_within, chunks_all}
use Rattle.castagnoli_rows.proofs.places.take.Goals as goal

pub loop-k-preserved : goal.loop-k-preserved
loop-k-preserved g c =
    let at = c.loop-k in
    let b = c.args.b.now in
    let fold = g.P.Places in
    let n = g.row.N in
    let m = g.row.M in
    let some : 0 < g.row.C = c.requires.chunks.0 in (
      c.chunk.ensures.long ∙ at.invariant.0,
      λ head ready.
          subst (λ (x : ℕ). Taken fold.places n m head b c.chunk.new.w x) (chunk_next g.row.C at.k)
          (taken_more fold.places fold.reach n m g.row.C head b at.w c.chunk.new.w (g.row.C * at.k) g.met.P.Places.within c.requires.chunks.2
          (chunk_within g.row.C at.k m some c.loop-k-test.true) c.chunk.ensures (at.invariant.1 head ready)),
    )

pub returns : goal.returns
returns g c = λ head ready.
    let at = c.loop-k in
    let r = c.requires.chunks in
    subst (λ (x : ℕ). Taken g.P.Places.places g.row.N g.row.M head c.args.b.now at.w x)
    (chunks_all g.row.C at.k g.row.M r.0 r.1 at.auto.k-end c.loop-k-test.false) (at.invariant.1 head ready)
