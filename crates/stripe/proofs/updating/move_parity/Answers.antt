-- `stripe::updating::move_parity` meets its contract. The invariant: the pieces put so far are those of the parity's new data.
-- Assumes nothing.
use mathlib.Core.Path.{◌≡◌, refl, sym, ap, ap₂, ◌∙◌}
use mathlib.Core.List.{List}
use Prim.Native.Nat.{ℕ, ◌+◌, ◌*◌, ◌≤◌}
use native.Mathlib.Omega.{arith}
use lib.ListN.{length}
use lib.Seq.{sets}
use Rattle.xor.specs.Xors.{xors}
use Rattle.format.specs.Formats.{piece_length}
use Rattle.format.specs.Methods.{format_of}
use Rattle.tag.specs.Blocks.{data_of}
use Rattle.stripe.specs.Tables.{span}
use Rattle.stripe.specs.Stripes.{block_of}
use Rattle.stripe.proofs.Pieces.{piece_next, piece_fits, span_none, span-all, put_next, moved, moved-next}
use Rattle.stripe.proofs.Updates.{length_moved}
use Rattle.stripe.proofs.updating.move_parity.Goals as goal

pub loop-k-init : goal.loop-k-init
loop-k-init c =
    let a = c.args in
    let F = format_of a.method in
    ap (sets a.bytes.now (F.block_length * a.parity)) (sym (span_none 0 (moved F a.parity a.member a.bytes.now a.content.now)))

pub loop-k-preserved : goal.loop-k-preserved
loop-k-preserved c =
    let a = c.args in
    let F = format_of a.method in
    let whole = moved F a.parity a.member a.bytes.now a.content.now in
    let place = F.block_length * a.parity in
    let at = c.loop-k.k * piece_length in
    let piece = c.moved_piece.new.piece in
    let fits : at + piece_length ≤ F.data_length = piece_fits F c.loop-k.k (omega arith) in
    let long : length whole ≡ F.data_length = length_moved F a.parity a.bytes.now (data_of F (block_of F a.bytes.now a.member)) a.content.now c.requires.method_in_bounds in
    let room : at + piece_length ≤ length whole = omega arith in
    let made : piece ≡ span at piece_length whole =
    c.moved_piece.ensures
    ∙ ap₂ (λ (x y : ℕ). xors (xors (span (x + at) piece_length c.loop-k.bytes) (span (y + at) piece_length c.loop-k.bytes)) (span at piece_length a.content.now)) c.block_at-to.ensures c.block_at-old.ensures
    ∙ moved-next F a.parity a.member at a.bytes.now a.content.now c.requires.member_nonzero fits whole c.loop-k.bytes refl long c.loop-k.invariant in
    c.put.ensures
    ∙ ap₂ (λ (l : List ℕ) (to : ℕ). sets l (to + at) piece) c.loop-k.invariant c.block_at-to.ensures
    ∙ ap (sets (sets a.bytes.now place (span 0 at whole)) (place + at)) made
    ∙ put_next whole a.bytes.now place at piece_length (omega arith)
    ∙ ap (λ (n : ℕ). sets a.bytes.now place (span 0 n whole)) (piece_next c.loop-k.k)

pub returns : goal.returns
returns c =
    let a = c.args in
    let F = format_of a.method in
    let whole = moved F a.parity a.member a.bytes.now a.content.now in
    let long : length whole ≡ F.data_length = length_moved F a.parity a.bytes.now (data_of F (block_of F a.bytes.now a.member)) a.content.now c.requires.method_in_bounds in
    c.loop-k.invariant ∙ ap (sets a.bytes.now (F.block_length * a.parity)) (span-all whole (c.loop-k.k * piece_length) (omega (arith, F.data_pieces)))
