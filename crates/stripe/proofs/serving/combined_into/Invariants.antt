-- `stripe::serving::combined_into` meets its contract. The invariant: the pieces put out so far are those of the combination.
-- Assumes nothing.
use mathlib.Core.Path.{◌≡◌}
use Prim.Native.Nat.{◌*◌}
use lib.Seq.{sets}
use Rattle.format.specs.Formats.{piece_length}
use Rattle.format.specs.Methods.{format_of}
use Rattle.stripe.specs.Tables.{span}
use Rattle.stripe.specs.Stripes.{others_data}
use Rattle.stripe.proofs.serving.combined_into.Given as goal

abbrev pub invariant-loop-k : goal.invariant-loop-k
invariant-loop-k l =
    l.out ≡ sets l.initial.out 0 (span 0 (l.k * piece_length) (others_data (format_of l.method) l.members l.skip l.bytes))
