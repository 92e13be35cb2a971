-- `stripe::scrubbing::first_torn` meets its contract. The invariant: the first place is the one behind what was looked at.
-- Assumes nothing.
use mathlib.Core.Path.{◌≡◌, sym, ap, ◌∙◌}
use mathlib.Core.List.{List}
use Prim.Native.Nat.{ℕ, ◌+◌, ◌*◌, ◌≤◌}
use native.Mathlib.Omega.{arith}
use lib.ListN.{length, drop}
use Rattle.format.specs.Formats.{piece_length}
use Rattle.format.specs.Methods.{format_of}
use Rattle.verdict.specs.Verdicts.{lowest, nonzero}
use Rattle.stripe.specs.Stripes.{others_data}
use Rattle.stripe.proofs.Pieces.{piece_next, piece_fits, piece-whole, first-here, first-later, first_nowhere}
use Rattle.stripe.proofs.Rows.{length-others_data}
use Rattle.stripe.proofs.scrubbing.first_torn.Goals as goal

pub returns-then-place-lt-PIECE : goal.returns-then-place-lt-PIECE
returns-then-place-lt-PIECE c =
    let a = c.args in
    let F = format_of a.method in
    let whole = others_data F a.members a.members a.bytes.now in
    let at = c.loop-k.k * piece_length in
    let fits : at + piece_length ≤ F.data_length = piece_fits F c.loop-k.k (omega arith) in
    let room : at + piece_length ≤ length whole = omega (arith, length-others_data F a.members a.members a.bytes.now) in
    let piece = c.combined.ensures ∙ piece-whole whole c.loop-k.piece at c.loop-k-test.array_long room in
    ap (λ (p : ℕ). at + p) (first-here whole at c.first_nonzero-place.result room (c.first_nonzero-place.ensures ∙ ap (λ (l : List ℕ). lowest (nonzero l)) piece) c.if-place-lt-PIECE.true) ∙ c.loop-k.invariant

pub loop-k-preserved : goal.loop-k-preserved
loop-k-preserved c =
    let a = c.args in
    let F = format_of a.method in
    let whole = others_data F a.members a.members a.bytes.now in
    let at = c.loop-k.k * piece_length in
    let fits : at + piece_length ≤ F.data_length = piece_fits F c.loop-k.k (omega arith) in
    let room : at + piece_length ≤ length whole = omega (arith, length-others_data F a.members a.members a.bytes.now) in
    let piece = c.combined.ensures ∙ piece-whole whole c.loop-k.piece at c.loop-k-test.array_long room in
    ap (λ (n : ℕ). n + lowest (nonzero (drop n whole))) (sym (piece_next c.loop-k.k))
    ∙ first-later whole at c.first_nonzero-place.result room (c.first_nonzero-place.ensures ∙ ap (λ (l : List ℕ). lowest (nonzero l)) piece) (omega arith) ∙ c.loop-k.invariant

pub returns : goal.returns
returns c =
    let a = c.args in
    let F = format_of a.method in
    let whole = others_data F a.members a.members a.bytes.now in
    let at = c.loop-k.k * piece_length in
    let last : c.data_length-data.result ≡ at = omega (arith, F.data_pieces) in
    last ∙ first_nowhere whole at (omega (arith, length-others_data F a.members a.members a.bytes.now)) ∙ c.loop-k.invariant
