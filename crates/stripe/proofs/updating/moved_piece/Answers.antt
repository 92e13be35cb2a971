-- `stripe::updating::moved_piece` meets its contract.
-- Assumes nothing.
use mathlib.Core.Path.{sym, ap, ap₂, ◌∙◌}
use lib.Seq.{sets}
use Rattle.format.specs.Formats.{piece_length}
use Rattle.xor.specs.Xors.{xors}
use Rattle.stripe.specs.Tables.{span}
use Rattle.stripe.proofs.Pieces.{sets-whole}
use Rattle.stripe.proofs.Rows.{lent-span, length-span}
use Rattle.stripe.proofs.updating.moved_piece.Goals as goal

pub returns : goal.returns
returns c =
    let a = c.args in
    let first = c.put.ensures ∙ ap (sets a.piece.now 0) (lent-span a.parity piece_length a.bytes.now)
    ∙ sets-whole a.piece.now (span a.parity piece_length a.bytes.now) (c.requires.piece_len ∙ sym (length-span a.parity piece_length a.bytes.now c.requires.piece_length_in_bounds)) in
    let second = c.xor_into.ensures ∙ ap₂ xors first (lent-span a.old piece_length a.bytes.now) in
    c.xor_into-2.ensures ∙ ap₂ xors second (lent-span a.from piece_length a.content.now)
