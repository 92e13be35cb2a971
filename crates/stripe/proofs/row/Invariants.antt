-- `stripe::row` meets its contract. The invariant: the rows of the members still to come, added to the row now, give the row due.
-- Assumes nothing.
use mathlib.Core.Path.{◌≡◌}
use lib.ListN.{length, drop}
use Rattle.format.specs.Methods.{format_of}
use Rattle.xor.specs.Xors.{add_all}
use Rattle.stripe.specs.Tables.{span}
use Rattle.stripe.specs.Stripes.{others_data}
use Rattle.stripe.proofs.Rows.{member_rows}
use Rattle.stripe.proofs.row.Given as goal

abbrev pub invariant-loop-member : goal.invariant-loop-member
invariant-loop-member l =
    (length l.row ≡ 128)
    × (add_all l.row (drop l.member (member_rows (format_of l.method) l.at 128 l.members l.skip l.bytes)) ≡ span l.at 128 (others_data (format_of l.method) l.members l.skip l.bytes))
