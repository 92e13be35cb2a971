-- `stripe::updating::move_parity` meets its contract. The invariant: the pieces put so far are those of the parity's new data.
-- Assumes nothing.
use mathlib.Core.Path.{◌≡◌}
use Prim.Native.Nat.{◌*◌}
use lib.Seq.{sets}
use Rattle.format.specs.Formats.{piece_length}
use Rattle.format.specs.Methods.{format_of}
use Rattle.stripe.specs.Tables.{span}
use Rattle.stripe.proofs.Pieces.{moved}
use Rattle.stripe.proofs.updating.move_parity.Given as goal

abbrev pub invariant-loop-k : goal.invariant-loop-k
invariant-loop-k l =
    l.bytes ≡ sets l.initial.bytes ((format_of l.method).block_length * l.parity) (span 0 (l.k * piece_length) (moved (format_of l.method) l.parity l.member l.initial.bytes l.content))
