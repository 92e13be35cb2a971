-- The whole life of a stripe, as a single claim about a list of events and the answers that the calls among them gave. Assumes nothing.
use Rattle.std.specs.Prelude.{◌≡◌, cond, ℕ, length, get_or}
use mathlib.Core.List.{List, [], ◌∷◌, ◌++◌, foldl}
use Rattle.layout.specs.Places.{index_of, member_of}
use Rattle.layout.specs.declared.Array.{Array}
use Rattle.tag.specs.Blocks.{format_at}
use Rattle.stripe.specs.Tables.{joined, part}
use Rattle.stripe.specs.Jobs.{sealed}
use Rattle.stripe.specs.Verdicts.{scrub_numbers, clean}
use Rattle.life.specs.Events.{Event, read, Answer, unanswered}
use Rattle.life.specs.Ledger.{opened, whole, is_lost, standing_after, AllAsKept}
use Rattle.life.specs.LastAccepted.{kept_after, last_accepted}

-- a stripe sealed from this content, then these events, which got these answers and left these bytes
pub record WholeLife (a : Array) (stripe : ℕ) (content : List ℕ) (events : List Event) (answers : List Answer) (last : List ℕ) : Type 0 where
  -- every read and every rebuild answers as the ledger says, whole
  pub answered : AllAsKept a (opened a content) whole events answers
  -- so each read into a buffer that fits, after the events `before`, is done: it gives what was last accepted for its block, or, if nothing was,
  -- what was sealed, and says rebuilt where the block's member is lost, stored otherwise
  pub reads : (before later : List Event) (block : ℕ) (out : List ℕ) → events ≡ before ++ (read block out ∷ later) → length out ≡ (format_at a).data_length
      → get_or answers (length before) unanswered
      ≡ record {
        numbers = 1 ∷ 0 ∷ cond (is_lost (foldl standing_after whole before) (member_of a block)) 1 0 ∷ [];
        left = last_accepted block (part (format_at a).data_length content (index_of a block)) before answers;
      }
  -- and where no member is lost at the end, the stripe is the one sealed from what is kept, byte for byte, and scrubs clean
  pub ends : foldl standing_after whole events ≡ whole
      → (last ≡ sealed a stripe (joined (kept_after a (opened a content) events answers))) × (scrub_numbers a stripe last ≡ clean)
