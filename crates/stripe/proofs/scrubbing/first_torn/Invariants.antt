-- `stripe::scrubbing::first_torn` meets its contract. The invariant: the first place is the one behind what was looked at.
-- Assumes nothing.
use mathlib.Core.Path.{◌≡◌}
use Prim.Native.Nat.{◌+◌, ◌*◌}
use lib.ListN.{drop}
use Rattle.format.specs.Formats.{piece_length}
use Rattle.format.specs.Methods.{format_of}
use Rattle.verdict.specs.Verdicts.{lowest, nonzero}
use Rattle.stripe.specs.Stripes.{others_data}
use Rattle.stripe.proofs.scrubbing.first_torn.Given as goal

abbrev pub invariant-loop-k : goal.invariant-loop-k
invariant-loop-k l =
    l.k * piece_length + lowest (nonzero (drop (l.k * piece_length) (others_data (format_of l.method) l.members l.members l.bytes))) ≡ lowest (nonzero (others_data (format_of l.method) l.members l.members l.bytes))
