-- `stripe::serving::combined_into` meets its contract. The invariant: the pieces put out so far are those of the combination.
-- Assumes nothing.
use mathlib.Core.Path.{sym, ap, ◌∙◌}
use mathlib.Core.List.{List}
use Prim.Native.Nat.{ℕ, ◌*◌}
use native.Mathlib.Omega.{arith}
use lib.Seq.{sets}
use Rattle.format.specs.Formats.{piece_length}
use Rattle.format.specs.Methods.{format_of}
use Rattle.stripe.specs.Tables.{span}
use Rattle.stripe.specs.Stripes.{others_data}
use Rattle.stripe.proofs.Pieces.{piece_next, span_none, span-all, front-next, sets-whole}
use Rattle.stripe.proofs.Rows.{length-others_data}
use Rattle.stripe.proofs.serving.combined_into.Goals as goal

pub loop-k-init : goal.loop-k-init
loop-k-init c =
    let a = c.args in
    ap (sets a.out.now 0) (sym (span_none 0 (others_data (format_of a.method) a.members a.skip a.bytes.now)))

pub loop-k-preserved : goal.loop-k-preserved
loop-k-preserved c =
    let a = c.args in
    let F = format_of a.method in
    let whole = others_data F a.members a.skip a.bytes.now in
    let at = c.loop-k.k * piece_length in
    c.combined.ensures ∙ ap (λ (l : List ℕ). sets l at (span at piece_length whole)) c.loop-k.invariant
    ∙ front-next whole a.out.now at piece_length (omega (arith, length-others_data F a.members a.skip a.bytes.now))
    ∙ ap (λ (n : ℕ). sets a.out.now 0 (span 0 n whole)) (piece_next c.loop-k.k)

pub returns : goal.returns
returns c =
    let a = c.args in
    let F = format_of a.method in
    let whole = others_data F a.members a.skip a.bytes.now in
    let long = length-others_data F a.members a.skip a.bytes.now in
    c.loop-k.invariant ∙ ap (sets a.out.now 0) (span-all whole (c.loop-k.k * piece_length) (omega (arith, F.data_pieces, long))) ∙ sets-whole a.out.now whole (c.requires.out_len ∙ sym long)
