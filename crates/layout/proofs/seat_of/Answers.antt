-- `seat_of` is `seat_of`. Assumes nothing.
use Rattle.std.proofs.Common.{ℕ, ap₂}
use Rattle.layout.specs.declared.Seat.{Seat}
use Rattle.layout.proofs.seat_of.Goals as goal

abbrev seat : ℕ → ℕ → Seat
seat parity lowest = record { parity = parity; lowest = lowest }

pub returns : goal.returns
returns c = ap₂ seat c.parity_member.ensures c.lowest_block.ensures
