-- What C gets: the numbers of each call's answer in the fields of a struct. Assumes nothing.
use Rattle.std.specs.Prelude.{ℕ, ◌-◌, ◌/◌, ◌%◌, ◌<◌, Bool, not, cond, List, [], ◌∷◌, ◌++◌, eqb, get_or, drop, Result, Ok, Err}
use Rattle.layout.specs.Arrays.{array_of}
use Rattle.layout.specs.declared.Placed.{Placed}
use Rattle.refusal.specs.declared.Refusal.{Refusal}
use Rattle.scan.specs.declared.Scan.{Scan}
use Rattle.patrol.specs.declared.Patrol.{Patrol}
use Rattle.irumbolai.specs.declared.SumAnswer.{SumAnswer}
use Rattle.irumbolai.specs.declared.PlaceAnswer.{PlaceAnswer}
use Rattle.irumbolai.specs.declared.OwnerAnswer.{OwnerAnswer}
use Rattle.irumbolai.specs.declared.FieldAnswer.{FieldAnswer}
use Rattle.irumbolai.specs.declared.CheckAnswer.{CheckAnswer}
use Rattle.irumbolai.specs.declared.ReadAnswer.{ReadAnswer}
use Rattle.irumbolai.specs.declared.RecoveryAnswer.{RecoveryAnswer}
use Rattle.irumbolai.specs.declared.VerdictAnswer.{VerdictAnswer}
use Rattle.irumbolai.specs.declared.QuickAnswer.{QuickAnswer}
use Rattle.irumbolai.specs.declared.ScanState.{ScanState}
use Rattle.irumbolai.specs.declared.PatrolState.{PatrolState}

-- the state of a scan that C holds: the array's numbers stand in it one by one
abbrev pub scan_of : ScanState → Scan
scan_of s =
    record {
      array = array_of s.members s.stripes s.volume s.method s.row;
      stripe = s.stripe;
      at = s.at;
      register = s.register;
      waiting = s.waiting;
      tag = s.tag;
    }

-- and of a patrol
abbrev pub patrol_of : PatrolState → Patrol
patrol_of s = record { array = array_of s.members s.stripes s.volume s.method s.row; next = s.next }

-- the numbers of an answer without the flag before them: in a struct, refusal 0 alone says that the call is done
abbrev pub unflagged : List ℕ → List ℕ
unflagged numbers = drop 1 numbers

-- of a verdict's numbers the last, the faults of a bad member, set out field by field: 1 where the field fits; all 0 where no member is bad
abbrev pub fits : ℕ → ℕ → ℕ
fits kind fault = cond (eqb kind 1) (1 - fault) 0

abbrev pub spread : List ℕ → List ℕ
spread l =
    let kind = get_or l 1 0 in
    let faults = get_or l 4 0 in
    get_or l 0 0 ∷ kind ∷ get_or l 2 0 ∷ get_or l 3 0 ∷ fits kind (faults / 4 % 2) ∷ fits kind (faults / 2 % 2) ∷ fits kind (faults % 2) ∷ []

-- what a field of 32 bits does not hold any more; and an answer's numbers of which the fourth (a member or a place) and the fifth (a count) fit
-- such fields
abbrev pub field_end : ℕ
field_end = 4294967296

pub record Small (numbers : List ℕ) : Type 0 where
  pub first : get_or numbers 3 0 < field_end
  pub count : get_or numbers 4 0 < field_end

-- the stripe in an answer of a patrol, 0 where none was looked at: behind the verdict's numbers and a flag
abbrev pub stripe_answered : List ℕ → ℕ
stripe_answered numbers = get_or numbers 7 0

-- a turn is idle by any number but 0
abbrev pub is_idle : ℕ → Bool
is_idle idle = not (eqb idle 0)

-- the member in an answer of `place`, 0 where there is none
abbrev pub member_answered : Result Placed Refusal → ℕ
member_answered (Err refusal) = 0
member_answered (Ok placed) = placed.member

-- the fields of each struct, in the order of the numbers
abbrev pub sum_fields : SumAnswer → List ℕ
sum_fields r = r.refusal ∷ r.guard ∷ []

abbrev pub place_fields : PlaceAnswer → List ℕ
place_fields r = r.refusal ∷ r.stripe ∷ r.member ∷ []

abbrev pub owner_fields : OwnerAnswer → List ℕ
owner_fields r = r.refusal ∷ r.parity ∷ r.block ∷ []

abbrev pub field_numbers : FieldAnswer → List ℕ
field_numbers f = f.found ∷ f.expected ∷ f.fits ∷ []

abbrev pub check_fields : CheckAnswer → List ℕ
check_fields r = r.refusal ∷ r.kind ∷ field_numbers r.guard ++ field_numbers r.application ++ field_numbers r.reference

abbrev pub recovery_fields : RecoveryAnswer → List ℕ
recovery_fields r = r.refusal ∷ r.kind ∷ r.member ∷ []

abbrev pub read_fields : ReadAnswer → List ℕ
read_fields r = r.refusal ∷ r.kind ∷ []

abbrev pub verdict_fields : VerdictAnswer → List ℕ
verdict_fields r = r.refusal ∷ r.kind ∷ r.first ∷ r.count ∷ r.guard_fits ∷ r.application_fits ∷ r.reference_fits ∷ []

abbrev pub quick_fields : QuickAnswer → List ℕ
quick_fields r = r.refusal ∷ r.differs ∷ r.combination ∷ []
