-- `stripe::stored_combined` meets its contract. The invariant: what was combined so far, with the guards of the members still to come, gives what is
-- due. Assumes nothing.
use mathlib.Core.Path.{◌≡◌}
use lib.Bits.{bit_xor}
use lib.ListN.{drop}
use Rattle.format.specs.Methods.{format_of}
use Rattle.verdict.specs.Verdicts.{combined_guards}
use Rattle.stripe.specs.Stripes.{others_guards}
use Rattle.stripe.proofs.Carried.{walked}
use Rattle.stripe.proofs.stored_combined.Given as goal

abbrev pub invariant-loop-member : goal.invariant-loop-member
invariant-loop-member l = bit_xor l.guards (combined_guards (drop l.member (walked (format_of l.method) l.members l.skip l.bytes))) ≡ others_guards (format_of l.method) l.members l.skip l.bytes
