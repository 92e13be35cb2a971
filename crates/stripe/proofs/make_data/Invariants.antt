-- `stripe::make_data` meets its contract. The invariant: the pieces put so far are those of the combination, which does not look at where they are put.
-- Assumes nothing.
use mathlib.Core.Path.{◌≡◌}
use Prim.Native.Nat.{◌*◌}
use lib.Seq.{sets}
use Rattle.format.specs.Formats.{piece_length}
use Rattle.format.specs.Methods.{format_of}
use Rattle.stripe.specs.Tables.{span}
use Rattle.stripe.specs.Stripes.{others_data}
use Rattle.stripe.proofs.make_data.Given as goal

abbrev pub invariant-loop-k : goal.invariant-loop-k
invariant-loop-k l =
    l.bytes ≡ sets l.initial.bytes ((format_of l.method).block_length * l.member) (span 0 (l.k * piece_length) (others_data (format_of l.method) l.members l.member l.initial.bytes))
