-- `stripe::combined` meets its contract. The invariant: the rows put so far are those of the combination.
-- Assumes nothing.
use mathlib.Core.Path.{◌≡◌, sym, ap, ◌∙◌}
use mathlib.Core.List.{List}
use Prim.Native.Nat.{ℕ, ◌+◌, ◌*◌}
use native.Mathlib.Omega.{arith}
use lib.Seq.{sets}
use Rattle.format.specs.Methods.{format_of}
use Rattle.stripe.specs.Tables.{span}
use Rattle.stripe.specs.Stripes.{others_data}
use Rattle.stripe.proofs.Pieces.{span_none, put-more}
use Rattle.stripe.proofs.Rows.{length-others_data}
use Rattle.stripe.proofs.combined.Goals as goal

pub loop-k-init : goal.loop-k-init
loop-k-init c =
    let a = c.args in
    ap (sets a.out.now a.to) (sym (span_none a.from (others_data (format_of a.method) a.members a.skip a.bytes.now)))

pub loop-k-preserved : goal.loop-k-preserved
loop-k-preserved c =
    let a = c.args in
    let F = format_of a.method in
    let whole = others_data F a.members a.skip a.bytes.now in
    let at = c.loop-k.k * 128 in
    let next : at + 128 ≡ (c.loop-k.k + 1) * 128 = omega arith in
    c.put.ensures ∙ ap (sets c.loop-k.out (a.to + at)) c.row-row.ensures ∙ ap (λ (l : List ℕ). sets l (a.to + at) (span (a.from + at) 128 whole)) c.loop-k.invariant
    ∙ put-more whole a.out.now a.to a.from at 128 (omega (arith, length-others_data F a.members a.skip a.bytes.now))
    ∙ ap (λ (n : ℕ). sets a.out.now a.to (span a.from n whole)) next
