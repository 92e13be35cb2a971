-- A life as it runs: each event finds the bytes that the one before it left, and what a call answers and leaves is what its promise says.
-- Assumes nothing.
use Rattle.std.specs.Prelude.{◌≡◌, List, [], ◌∷◌, ℕ, length, Result}
use Rattle.refusal.specs.declared.Refusal.{Refusal}
use Rattle.layout.specs.declared.Array.{Array}
use Rattle.tag.specs.Blocks.{format_at}
use Rattle.stripe.specs.Jobs.{with_block, update_refusal, update_bytes, read_numbers, read_out, reading_numbers, rebuild_refusal, rebuild_bytes}
use Rattle.stripe.specs.declared.Reading.{Reading}
use Rattle.life.specs.Events.{Event, update, read, rebuild, lose, Answer, numbered, unanswered}

-- from the bytes of a stripe, by events with these answers, to the bytes at the end
pub data LifeRun (a : Array) (stripe : ℕ) : List ℕ → List Event → List Answer → List ℕ → Type 0 where
  ended : {bytes : List ℕ} → LifeRun a stripe bytes [] [] bytes
  updated : {bytes next last new : List ℕ} {block : ℕ} {events : List Event} {answers : List Answer} (number : ℕ)
      → number ≡ update_refusal a block (length new) bytes
      → next ≡ update_bytes a block new bytes
      → LifeRun a stripe next events answers last
      → LifeRun a stripe bytes (update block new ∷ events) (numbered number ∷ answers) last
  served : {bytes last out left : List ℕ} {block : ℕ} {events : List Event} {answers : List Answer} (r : Result Reading Refusal)
      → reading_numbers r ≡ read_numbers a block bytes (length out)
      → left ≡ read_out a block bytes out
      → LifeRun a stripe bytes events answers last
      → LifeRun a stripe bytes (read block out ∷ events) (record { numbers = reading_numbers r; left = left } ∷ answers) last
  rebuilt : {bytes next last : List ℕ} {member : ℕ} {events : List Event} {answers : List Answer} (number : ℕ)
      → number ≡ rebuild_refusal a stripe member bytes
      → next ≡ rebuild_bytes a stripe member bytes
      → LifeRun a stripe next events answers last
      → LifeRun a stripe bytes (rebuild member ∷ events) (numbered number ∷ answers) last
  lost : {bytes last block : List ℕ} {member : ℕ} {events : List Event} {answers : List Answer}
      → LifeRun a stripe (with_block (format_at a) bytes member block) events answers last
      → LifeRun a stripe bytes (lose member block ∷ events) (unanswered ∷ answers) last

-- some run of these events
pub record Lived (a : Array) (stripe : ℕ) (bytes : List ℕ) (events : List Event) : Type 0 where
  pub answers : List Answer
  pub last : List ℕ
  pub run : LifeRun a stripe bytes events answers last
