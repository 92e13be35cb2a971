-- The rows of the table of refusals, for the calls of a scan: each number with its row's condition, in plain words, where no earlier row
-- holds; 0 where none does. Assumes nothing.
use Rattle.std.specs.Prelude.{◌≡◌, false, ◌≢◌, ℕ, ◌+◌, ◌^◌, ◌≤◌, ◌<◌, get_or}
use Rattle.layout.specs.Arrays.{stripe_refusal}
use Rattle.layout.specs.declared.Array.{Array}
use Rattle.tag.specs.Blocks.{format_at}
use Rattle.scan.specs.declared.Scan.{Scan}

-- a fit state: its numbers break none of rows 1 to 3 and 12, so that its members are sixteen at most; none of their positions is past the end of a
-- block; no value has more bits than a guard; and no byte waits where none can
pub record FitState (s : Scan) : Type 0 where
  pub numbers : stripe_refusal s.array s.stripe ≡ 0
  pub few : s.array.members ≤ 16
  pub near : (i : ℕ) → i < s.array.members → get_or s.at i 0 ≤ (format_at s.array).block_length
  pub narrow : (i : ℕ) → i < s.array.members → get_or s.register i 0 < 256 ^ (format_at s.array).quarter
  pub alone : (i : ℕ) → i < s.array.members → (format_at s.array).waits (get_or s.at i 0) ≡ false → get_or s.waiting i 0 ≡ 0

-- what a piece that is taken may count on
pub record Accepted (s : Scan) (member pieceBytes workBytes : ℕ) : Type 0 where
  pub state : FitState s
  pub here : member < s.array.members
  pub long : workBytes ≡ (format_at s.array).data_length
  pub room : get_or s.at member 0 + pieceBytes ≤ (format_at s.array).block_length

-- every member stands at the end of its block
abbrev pub AllWhole : Scan → Type 0
AllWhole s = (i : ℕ) → i < s.array.members → get_or s.at i 0 ≡ (format_at s.array).block_length

-- ---- the rows

pub data StartRow (a : Array) (stripe workBytes : ℕ) : ℕ → Type 0 where
  out_of_range : stripe_refusal a stripe ≢ 0 → StartRow a stripe workBytes (stripe_refusal a stripe)
  other_length : stripe_refusal a stripe ≡ 0 → workBytes ≢ (format_at a).data_length → StartRow a stripe workBytes 6
  done : stripe_refusal a stripe ≡ 0 → workBytes ≡ (format_at a).data_length → StartRow a stripe workBytes 0

pub data PieceRow (s : Scan) (member pieceBytes workBytes : ℕ) : ℕ → Type 0 where
  unfit : ¬ FitState s → PieceRow s member pieceBytes workBytes 4
  no_member : FitState s → s.array.members ≤ member → PieceRow s member pieceBytes workBytes 5
  other_length : FitState s → member < s.array.members → workBytes ≢ (format_at s.array).data_length → PieceRow s member pieceBytes workBytes 6
  too_long : FitState s → member < s.array.members → workBytes ≡ (format_at s.array).data_length → (format_at s.array).block_length < get_or s.at member 0 + pieceBytes
      → PieceRow s member pieceBytes workBytes 7
  done : Accepted s member pieceBytes workBytes → PieceRow s member pieceBytes workBytes 0

pub data FinishRow (s : Scan) (workBytes : ℕ) : ℕ → Type 0 where
  unfit : ¬ FitState s → FinishRow s workBytes 4
  other_length : FitState s → workBytes ≢ (format_at s.array).data_length → FinishRow s workBytes 6
  too_early : FitState s → workBytes ≡ (format_at s.array).data_length → ¬ AllWhole s → FinishRow s workBytes 8
  done : FitState s → workBytes ≡ (format_at s.array).data_length → AllWhole s → FinishRow s workBytes 0
