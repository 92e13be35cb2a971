-- The member that `place` answers fits its field. Assumes nothing.
use native.Mathlib.Omega.{arith}
use Rattle.irumbolai.proofs.Members.{member_small}
use Rattle.irumbolai.proofs.places.irumbolai_place.Goals as goal

pub place_answer-requires : goal.place_answer-requires
place_answer-requires c = omega (arith, member_small _ _ c.place.result c.place.ensures)
