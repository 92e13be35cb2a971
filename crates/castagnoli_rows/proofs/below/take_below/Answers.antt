-- `castagnoli_rows::below::take_below` meets its contract.
-- Assumes nothing.
use mathlib.Core.Path.{subst, ◌∙◌}
use Prim.Native.Nat.{ℕ, ◌*◌}
use Rattle.castagnoli_rows.specs.Folds.{Fit, Taken}
use borrow.Author.Rules.{rules}
use Rattle.castagnoli_rows.proofs.Chunks.{taken_more_below, chunk_next, chunk_within, chunks_all}
use Rattle.castagnoli_rows.proofs.below.take_below.Goals as goal

pub loop-k-preserved : goal.loop-k-preserved
loop-k-preserved g c =
    let at = c.loop-k in
    let b = c.args.b.now in
    let fold = g.P.PlacesBelow in
    let n = g.row.N in
    let m = g.row.M in
    let fit : Fit g.row.R g.row.C n m b c.args.w.now = search rules in (
      c.chunk.ensures.long ∙ at.invariant.0,
      λ head ready.
          subst (λ (x : ℕ). Taken fold.places n m head b c.chunk.new.w x) (chunk_next g.row.C at.k)
          (taken_more_below fold.places g.row.R n m g.row.C head b at.w c.chunk.new.w (g.row.C * at.k) g.met.P.PlacesBelow.within fit.apart
          (chunk_within g.row.C at.k m fit.some c.loop-k-test.true) c.chunk.ensures (at.invariant.1 head ready)),
    )

pub returns-clause-taken : goal.returns-clause-taken
returns-clause-taken g c = λ fit head ready.
    let at = c.loop-k in
    subst (λ (x : ℕ). Taken g.P.PlacesBelow.places g.row.N g.row.M head c.args.b.now at.w x)
    (chunks_all g.row.C at.k g.row.M fit.some fit.whole at.auto.k-end c.loop-k-test.false) (at.invariant.1 head ready)
