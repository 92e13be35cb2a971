-- `stripe::make_data` meets its contract. The invariant: the pieces put so far are those of the combination, which does not look at where they are put.
-- Assumes nothing.
use mathlib.Core.Path.{◌≡◌, sym, ap, ap₂, ◌∙◌}
use mathlib.Core.List.{List}
use Prim.Native.Nat.{ℕ, ◌+◌, ◌*◌, ◌≤◌}
use native.Mathlib.Omega.{arith}
use lib.ListN.{length}
use lib.Seq.{sets}
use Rattle.format.specs.Formats.{piece_length}
use Rattle.format.specs.Methods.{format_of}
use Rattle.stripe.specs.Tables.{span}
use Rattle.stripe.specs.Stripes.{others_data}
use Rattle.stripe.proofs.Pieces.{piece_next, piece_fits, span_none, span-all, put_next, piece-whole, others_same}
use Rattle.stripe.proofs.Rows.{length-others_data}
use Rattle.stripe.proofs.make_data.Goals as goal

pub loop-k-init : goal.loop-k-init
loop-k-init c =
    let a = c.args in
    let F = format_of a.method in
    ap (sets a.bytes.now (F.block_length * a.member)) (sym (span_none 0 (others_data F a.members a.member a.bytes.now)))

pub loop-k-preserved : goal.loop-k-preserved
loop-k-preserved c =
    let a = c.args in
    let F = format_of a.method in
    let whole = others_data F a.members a.member a.bytes.now in
    let place = F.block_length * a.member in
    let at = c.loop-k.k * piece_length in
    let piece = c.combined.new.out in
    let fits : at + piece_length ≤ F.data_length = piece_fits F c.loop-k.k (omega arith) in
    let room : at + piece_length ≤ length whole = omega (arith, length-others_data F a.members a.member a.bytes.now) in
    let made : piece ≡ span at piece_length whole =
    c.combined.ensures
    ∙ ap (λ (l : List ℕ). sets c.loop-k.piece 0 (span at piece_length l)) (others_same F a.members a.member at a.bytes.now c.loop-k.bytes (omega arith) c.loop-k.invariant)
    ∙ piece-whole whole c.loop-k.piece at c.loop-k-test.array_long room in
    c.put.ensures
    ∙ ap₂ (λ (l : List ℕ) (to : ℕ). sets l (to + at) piece) c.loop-k.invariant c.block_at-to.ensures
    ∙ ap (sets (sets a.bytes.now place (span 0 at whole)) (place + at)) made
    ∙ put_next whole a.bytes.now place at piece_length (omega arith)
    ∙ ap (λ (n : ℕ). sets a.bytes.now place (span 0 n whole)) (piece_next c.loop-k.k)

pub returns : goal.returns
returns c =
    let a = c.args in
    let F = format_of a.method in
    let whole = others_data F a.members a.member a.bytes.now in
    c.loop-k.invariant ∙ ap (sets a.bytes.now (F.block_length * a.member)) (span-all whole (c.loop-k.k * piece_length) (omega (arith, F.data_pieces, length-others_data F a.members a.member a.bytes.now)))
