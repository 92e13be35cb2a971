-- Demand 3 as a single claim about a list of calls and the answers that they got: however the blocks of a stripe are cut, the scan answers
-- as the history does, and the quick scrub agrees beside it. Assumes nothing.
use Rattle.std.specs.Prelude.{◌≡◌, false, ◌≢◌, ℕ, suc, length, get_or, replicate}
use mathlib.Core.List.{List, [], ◌∷◌, ◌++◌, map, foldl}
use Rattle.std.specs.Int.Bits.{bit_xor}
use Rattle.xor.specs.Xors.{combination}
use Rattle.crc.specs.Crc.{Bytes, Within}
use Rattle.format.specs.Formats.{guard, blank, spare}
use Rattle.layout.specs.declared.Array.{Array}
use Rattle.tag.specs.Blocks.{format_at, data_of}
use Rattle.stripe.specs.Stripes.{stored_guard}
use Rattle.stripe.specs.Verdicts.{scrub_blocks, quick_of}
use Rattle.scan.specs.History.{Call, piece, finish, begun, kept, answers}

-- the history after calls: the bytes of each member that were taken
abbrev pub history_of : Array → ℕ → List Call → List (List ℕ)
history_of a stripe calls = foldl (kept (format_at a).block_length a.members (scrub_blocks a stripe)) (begun a.members) calls

-- what is handed in are bytes
abbrev pub ByteCalls : List Call → Type 0
ByteCalls [] = Unit
ByteCalls (piece member bytes ∷ calls) = Bytes bytes × ByteCalls calls
ByteCalls (finish ∷ calls) = ByteCalls calls

-- parity is right where the data of all blocks combine to zero; otherwise this is the parity difference
abbrev pub together : Array → List (List ℕ) → List ℕ
together a blocks = combination (format_at a).data_length (map (data_of (format_at a)) blocks)

-- a finish among the calls, after those of `before`, whose answer is a verdict, and not of bad or unchecked members: done, no refusal, its kind
pub record FoundAllGood (calls before : List Call) (xs : List (List ℕ)) : Type 0 where
  pub later : List Call
  pub there : calls ≡ before ++ (finish ∷ later)
  pub kind : ℕ
  pub place : ℕ
  pub count : ℕ
  pub faults : ℕ
  pub answer_is : get_or xs (length before) [] ≡ 1 ∷ 0 ∷ kind ∷ place ∷ count ∷ faults ∷ []
  pub not-bad : kind ≢ 1
  pub not-unchecked : kind ≢ 3

-- the three parts: every answer is the history's; and, where guards are those of the data, at every such finish the quick scrub of the stored
-- guards fits where parity is right, and differs, by the guard of the parity difference, where that lies within as many successive bits as a
-- guard reaches over (by method 1 sixteen, and what is told is that guard as it is, since a block of zeros has guard 0)
pub record CutAnywhere (a : Array) (stripe : ℕ) (calls : List Call) (xs : List (List ℕ)) : Type 0 where
  pub answered : xs ≡ answers (format_at a).block_length a.members (scrub_blocks a stripe) (begun a.members) calls
  pub quick_fits : (format_at a).carries ≡ false → ByteCalls calls → (before : List Call) → FoundAllGood calls before xs
      → together a (history_of a stripe before) ≡ replicate (format_at a).data_length 0
      → quick_of a (map (stored_guard (format_at a)) (history_of a stripe before)) ≡ 1 ∷ 0 ∷ 0 ∷ 0 ∷ []
  pub quick_differs : (format_at a).carries ≡ false → ByteCalls calls → (before : List Call) → FoundAllGood calls before xs
      → together a (history_of a stripe before) ≢ replicate (format_at a).data_length 0
      → Within (format_at a).reach ((format_at a).bits (together a (history_of a stripe before))) ((format_at a).bits (replicate (format_at a).data_length 0))
      → (guard (format_at a) (together a (history_of a stripe before)) ≢ blank (format_at a))
      × (quick_of a (map (stored_guard (format_at a)) (history_of a stripe before))
      ≡ 1 ∷ 0 ∷ 1 ∷ bit_xor (guard (format_at a) (together a (history_of a stripe before))) (spare (format_at a) (suc a.members)) ∷ [])
