-- An update that enters its stripe in the log while it is open, in four stores: enter, data block, parity block, strike out; told after how
-- many of them to stop. And the recovery of a stripe. For each its refusal number, its answer in numbers, and what both lent buffers hold
-- afterwards. Assumes nothing.
use Rattle.std.specs.Prelude.{ℕ, ◌-◌, Bool, not, cond, ◌&&◌, List, [], ◌∷◌, eqb, ltb, length, Result, Ok, Err}
use Rattle.refusal.specs.Refusals.{number}
use Rattle.refusal.specs.declared.Refusal.{Refusal}
use Rattle.layout.specs.Answers.{refuse, after, answer}
use Rattle.layout.specs.Arrays.{stripe_refusal, block_refusal}
use Rattle.layout.specs.Places.{parity_member, stripe_of}
use Rattle.layout.specs.declared.Array.{Array}
use Rattle.tag.specs.Blocks.{format_at}
use Rattle.stripe.specs.Stripes.{stripe_length, others_good}
use Rattle.stripe.specs.Jobs.{unless_refused, update_refusal, rebuilt}
use Rattle.stripe.specs.InPart.{part_bytes, first_amiss}
use Rattle.intent.specs.Records.{log_length, named, entered, struck, log_refusal, entry_refusal}
use Rattle.intent.specs.declared.Recovery.{Recovery}
use Rattle.intent.specs.declared.Recovery.TheVariants.{NotEntered, Recovered, Left}

-- ---- the update

-- of the stripe that is to be updated: refusals 6; 16; 14, 15
unfoldable pub open_refusal : Array → ℕ → ℕ → ℕ → List ℕ → ℕ
open_refusal a stripe newBytes stripeBytes log =
    refuse (not (eqb stripeBytes (stripe_length a) && (eqb newBytes (format_at a).data_length && eqb (length log) log_length))) 6
    (after (log_refusal a log) (entry_refusal stripe log))

-- 1, 2, 12, 13, 3; then those; then 9, as of any update
unfoldable pub recorded_refusal : Array → ℕ → ℕ → List ℕ → List ℕ → ℕ
recorded_refusal a block newBytes bytes log =
    after (block_refusal a block) (after (open_refusal a (stripe_of a block) newBytes (length bytes) log) (update_refusal a block newBytes bytes))

-- the log after so many of the four stores; the stripe then has had one store less
unfoldable pub log_after : ℕ → List ℕ → ℕ → List ℕ
log_after stripe log stores = cond (ltb stores 1) log (cond (ltb stores 4) (entered stripe log) (struck stripe (entered stripe log)))

unfoldable pub recorded_log : Array → ℕ → List ℕ → List ℕ → List ℕ → ℕ → List ℕ
recorded_log a block new bytes log stores = unless_refused (recorded_refusal a block (length new) bytes log) (log_after (stripe_of a block) log stores) log

unfoldable pub recorded_bytes : Array → ℕ → List ℕ → List ℕ → List ℕ → ℕ → List ℕ
recorded_bytes a block new bytes log stores = unless_refused (recorded_refusal a block (length new) bytes log) (part_bytes a block new bytes (stores - 1)) bytes

-- ---- the recovery of a stripe: its parity made from good data members, whatever stands there, and its entry struck out

unfoldable pub recover_refusal : Array → ℕ → ℕ → List ℕ → ℕ
recover_refusal a stripe stripeBytes log =
    after (stripe_refusal a stripe) (refuse (not (eqb stripeBytes (stripe_length a) && eqb (length log) log_length)) 6 (log_refusal a log))

-- no data member is bad or unchecked
abbrev pub data_good : Array → ℕ → List ℕ → Bool
data_good a stripe bytes = others_good a stripe (parity_member a stripe) bytes

-- in numbers: 0 not entered; 1 recovered; 2 left as it is, with the lowest data member that is bad or unchecked
unfoldable pub recover_numbers : Array → ℕ → List ℕ → List ℕ → List ℕ
recover_numbers a stripe bytes log =
    answer (recover_refusal a stripe (length bytes) log)
    (cond (named stripe log) (cond (data_good a stripe bytes) (1 ∷ 0 ∷ []) (2 ∷ first_amiss a stripe bytes ∷ [])) (0 ∷ 0 ∷ []))

abbrev pub recovery_numbers : Result Recovery Refusal → List ℕ
recovery_numbers (Err refusal) = 0 ∷ number refusal ∷ 0 ∷ 0 ∷ []
recovery_numbers (Ok NotEntered) = 1 ∷ 0 ∷ 0 ∷ 0 ∷ []
recovery_numbers (Ok Recovered) = 1 ∷ 0 ∷ 1 ∷ 0 ∷ []
recovery_numbers (Ok (Left member)) = 1 ∷ 0 ∷ 2 ∷ member ∷ []

-- done where none of this stands in the way
unfoldable pub recovers : Array → ℕ → List ℕ → List ℕ → Bool
recovers a stripe bytes log = eqb (recover_refusal a stripe (length bytes) log) 0 && (named stripe log && data_good a stripe bytes)

unfoldable pub recover_bytes : Array → ℕ → List ℕ → List ℕ → List ℕ
recover_bytes a stripe bytes log = cond (recovers a stripe bytes log) (rebuilt a stripe (parity_member a stripe) bytes) bytes

unfoldable pub recover_log : Array → ℕ → List ℕ → List ℕ → List ℕ
recover_log a stripe bytes log = cond (recovers a stripe bytes log) (struck stripe log) log
