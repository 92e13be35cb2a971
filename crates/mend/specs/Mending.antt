-- What a repair does with one stripe, by the verdict of the full scrub. Assumes nothing.
use Rattle.std.specs.Prelude.{ℕ, Bool, cond, ◌&&◌, List, [], eqb, get_or, drop}
use Rattle.layout.specs.declared.Array.{Array}
use Rattle.stripe.specs.Jobs.{rebuild_refusal, rebuild_bytes}
use Rattle.stripe.specs.Verdicts.{scrub_numbers}
use Rattle.lines.specs.Lines.{stripe_line, lost_line}

-- the verdict in numbers, behind the two that say that the scrub is done; of bytes that are no stripe of the array zeros, as of a clean one
abbrev pub verdict_on : Array → ℕ → List ℕ → List ℕ
verdict_on a stripe bytes = drop 2 (scrub_numbers a stripe bytes)

abbrev pub says_clean : List ℕ → Bool
says_clean verdict = eqb (get_or verdict 0 0) 0

abbrev pub says_bad : List ℕ → Bool
says_bad verdict = eqb (get_or verdict 0 0) 1

-- the lowest bad member, where one is bad
abbrev pub bad_member : List ℕ → ℕ
bad_member verdict = get_or verdict 1 0

-- ---- by the verdict

-- where a member is bad, the stripe with its lowest bad member rebuilt; a rebuild that is refused leaves the bytes as they are
unfoldable pub mended_by : Array → ℕ → List ℕ → List ℕ → List ℕ
mended_by a stripe verdict bytes = cond (says_bad verdict) (rebuild_bytes a stripe (bad_member verdict) bytes) bytes

-- a stripe whose bad member cannot be rebuilt is lost
unfoldable pub lost_unless_rebuilt : Array → ℕ → ℕ → List ℕ → List ℕ
lost_unless_rebuilt a stripe member bytes = cond (eqb (rebuild_refusal a stripe member bytes) 0) [] (lost_line stripe)

-- nothing for a clean stripe and a rebuilt one, the report's line for a torn or an unchecked one
unfoldable pub listed_by : Array → ℕ → List ℕ → List ℕ → List ℕ
listed_by a stripe verdict bytes =
    cond (says_clean verdict) []
    (cond (says_bad verdict) (lost_unless_rebuilt a stripe (bad_member verdict) bytes)
    (stripe_line stripe verdict))

-- ---- of a stripe's bytes: what the image gets for them, what the list gets, and whether they were rebuilt

abbrev pub mended : Array → ℕ → List ℕ → List ℕ
mended a stripe bytes = mended_by a stripe (verdict_on a stripe bytes) bytes

abbrev pub listed : Array → ℕ → List ℕ → List ℕ
listed a stripe bytes = listed_by a stripe (verdict_on a stripe bytes) bytes

abbrev pub is_rebuilt : Array → ℕ → List ℕ → Bool
is_rebuilt a stripe bytes =
    says_bad (verdict_on a stripe bytes) && eqb (rebuild_refusal a stripe (bad_member (verdict_on a stripe bytes)) bytes) 0
