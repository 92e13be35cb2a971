-- Where a report stands, by the bytes that have come, and what it has yet to say: a function of that place and of the bytes to come.
-- Assumes nothing.
use mathlib.Core.Path.{◌≡◌}
use mathlib.Core.List.{List, [], ◌++◌}
use Prim.Native.Nat.{ℕ, ◌-◌, ◌≤◌, ◌<◌}
use lib.ListN.{length, take}
use Rattle.layout.specs.Arrays.{stripe_refusal}
use Rattle.layout.specs.declared.Array.{Array}
use Rattle.stripe.specs.Stripes.{stripe_length}
use Rattle.lines.specs.declared.tally.Tally.{Tally}
use Rattle.lines.specs.Lines.{line_room}
use Rattle.lines.specs.Headers.{header_room, header_size}
use Rattle.report.specs.declared.Report.{Report}
use Rattle.report.specs.Reports.{ending, stripe_lines, report_of}
use Rattle.report.specs.Feeding.{work_length, Step, tally_of}
use Rattle.report.proofs.Scanning.{Scanned}

-- these bytes of the header have come; these bytes of a stripe, and this was counted before it; all stripes; the last line is written
pub data Stage : Type 0 where
  in_header : List ℕ → Stage
  in_stripe : Array → ℕ → Tally → List ℕ → Stage
  behind : Array → Tally → Stage
  over : Stage

-- what is yet to be said, if these bytes are all that is to come
abbrev pub to_say : Stage → List ℕ → List ℕ
to_say (in_header h) bytes = report_of (h ++ bytes)
to_say (in_stripe a stripe t h) bytes = stripe_lines a (a.stripes - stripe) stripe t (h ++ bytes)
to_say (behind a t) bytes = ending a t bytes
to_say over bytes = []

-- no count is above the number of stripes before
pub record Counted (stripe : ℕ) (t : Tally) : Type 0 where
  pub clean : t.clean ≤ stripe
  pub bad : t.bad ≤ stripe
  pub unchecked : t.unchecked ≤ stripe
  pub torn : t.torn ≤ stripe

pub record StandsInHeader (h : List ℕ) (r : Report) (w : List ℕ) : Type 0 where
  pub stage : r.stage ≡ 0
  pub have : r.have ≡ length h
  pub short : length h < header_size h
  pub long : length r.header ≡ header_room
  pub bytes : take (length h) r.header ≡ h
  pub work : length w ≡ work_length

pub record StandsInStripe (a : Array) (stripe : ℕ) (t : Tally) (h : List ℕ) (r : Report) (w : List ℕ) : Type 0 where
  pub stage : r.stage ≡ 1
  pub have : r.have ≡ length h
  pub short : length h < stripe_length a
  pub sound : stripe_refusal a stripe ≡ 0
  pub tally : tally_of r ≡ t
  pub counted : Counted stripe t
  pub work : length w ≡ work_length
  pub scanned : Scanned a stripe h r.scan w

pub record StandsBehind (a : Array) (t : Tally) (r : Report) : Type 0 where
  pub stage : r.stage ≡ 2
  pub array : r.scan.array ≡ a
  pub tally : tally_of r ≡ t

abbrev pub Stands : Stage → Report → List ℕ → Type 0
Stands (in_header h) r w = StandsInHeader h r w
Stands (in_stripe a stripe t h) r w = StandsInStripe a stripe t h r w
Stands (behind a t) r w = StandsBehind a t r
Stands over r w = r.stage ≡ 3

-- a step that uses so many bytes: what was to be said with them and all bytes to come is the step's line, and then what is to be said
-- where the step leads
pub record Leads (before : List ℕ → List ℕ) (used : ℕ) (st : Step) : Type 0 where
  pub to : Stage
  pub stands : Stands to st.state st.work
  pub says : (rest : List ℕ) → before rest ≡ st.line ++ to_say to rest
  pub uses : st.used ≡ used
  pub short : length st.line ≤ line_room
