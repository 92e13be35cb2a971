-- The number of each reason to refuse, and the number that an answer tells. Assumes nothing.
use Rattle.std.specs.Prelude.{ℕ, Result, Ok, Err}
use Rattle.refusal.specs.declared.Refusal.{Refusal}
use Rattle.refusal.specs.declared.Refusal.TheVariants.{Members, Stripes, Place, State, Member, Length, Piece, Unfinished, Bad, Header, Image, Method, Row, Full, Entered, Record}

abbrev pub number : Refusal → ℕ
number Members = 1
number Stripes = 2
number Place = 3
number State = 4
number Member = 5
number Length = 6
number Piece = 7
number Unfinished = 8
number Bad = 9
number Header = 10
number Image = 11
number Method = 12
number Row = 13
number Full = 14
number Entered = 15
number Record = 16

-- 0 where the call is done
abbrev pub told : {T : Type 0} → Result T Refusal → ℕ
told (Ok x) = 0
told (Err refusal) = number refusal
