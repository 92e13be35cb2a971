-- Where a repair stands, by the bytes that have come, and what it has yet to write: a function of that place and of the bytes to come.
-- Assumes nothing.
use mathlib.Core.Path.{◌≡◌}
use mathlib.Core.List.{List, ◌++◌}
use Prim.Native.Nat.{ℕ, ◌-◌, ◌<◌}
use lib.ListN.{length, take}
use Rattle.layout.specs.Arrays.{stripe_refusal}
use Rattle.layout.specs.declared.Array.{Array}
use Rattle.stripe.specs.Stripes.{stripe_length}
use Rattle.lines.specs.Headers.{header_size}
use Rattle.repair.specs.declared.Repair.{Repair}
use Rattle.repair.specs.Repairs.{Output, nothing, and_then, ending, repair_stripes, repair_of}
use Rattle.repair.specs.Feeding.{Step}

-- these bytes of the header have come; these bytes of a stripe; all stripes; it is over
pub data Stage : Type 0 where
  in_header : List ℕ → Stage
  in_stripe : Array → ℕ → List ℕ → Stage
  behind : Stage
  ended : Stage

-- what is yet to be written, if these bytes are all that is to come
abbrev pub to_write : Stage → List ℕ → Output
to_write (in_header h) bytes = repair_of (h ++ bytes)
to_write (in_stripe a stripe h) bytes = repair_stripes a (a.stripes - stripe) stripe (h ++ bytes)
to_write behind bytes = ending bytes
to_write ended bytes = nothing

pub record StandsInHeader (h : List ℕ) (r : Repair) (held : List ℕ) : Type 0 where
  pub stage : r.stage ≡ 0
  pub have : r.have ≡ length h
  pub short : length h < header_size h
  pub bytes : take (length h) held ≡ h

pub record StandsInStripe (a : Array) (stripe : ℕ) (h : List ℕ) (r : Repair) (held : List ℕ) : Type 0 where
  pub stage : r.stage ≡ 1
  pub array : r.array ≡ a
  pub place : r.stripe ≡ stripe
  pub have : r.have ≡ length h
  pub short : length h < stripe_length a
  pub sound : stripe_refusal a stripe ≡ 0
  pub bytes : take (length h) held ≡ h

abbrev pub Stands : Stage → Repair → List ℕ → Type 0
Stands (in_header h) r held = StandsInHeader h r held
Stands (in_stripe a stripe h) r held = StandsInStripe a stripe h r held
Stands behind r held = r.stage ≡ 2
Stands ended r held = r.stage ≡ 3

-- what a step wrote
abbrev pub output_of : Step → Output
output_of step = record { image = step.image; list = step.list }

-- a step that uses so many bytes: what was to be written with them and all bytes to come is what the step wrote, and then what is to be written
-- where the step leads
pub record Leads (before : List ℕ → Output) (used : ℕ) (step : Step) : Type 0 where
  pub to : Stage
  pub stands : Stands to step.state step.held
  pub writes : (rest : List ℕ) → before rest ≡ and_then (output_of step) (to_write to rest)
  pub uses : step.used ≡ used
