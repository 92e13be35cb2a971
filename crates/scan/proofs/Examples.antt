-- Worked examples, computed from the definitions of the history: on small blocks, and on blocks of 520 bytes. Assumes nothing.
use mathlib.Core.Path.{◌≡◌, refl, ap, ◌∙◌}
use mathlib.Core.List.{List, [], ◌∷◌, ◌++◌, map}
use Prim.Native.Nat.{ℕ}
use native.Mathlib.Omega.{arith}
use lib.ListN.{length, get_or, replicate}
use Rattle.layout.specs.declared.Array.{Array}
use Rattle.tag.specs.Blocks.{format_at}
use Rattle.stripe.specs.Formats.{summary_of}
use Rattle.stripe.specs.Verdicts.{scrub_blocks}
use Rattle.scan.specs.History.{Call, piece, finish, begun, answer_to, kept, answers}
use Rattle.scan.proofs.Refusals.{refused_verdict}
use Rattle.scan.proofs.Feeding.{bytes-answers}

-- blocks of five bytes, and a verdict that shows a byte of each of the first two
abbrev shown : List (List ℕ) → List ℕ
shown blocks = get_or (get_or blocks 0 []) 4 0 ∷ get_or (get_or blocks 1 []) 0 0 ∷ 6 ∷ []

-- two members: half of the first block; no third member; too early; too long by one; nothing; the second block; the rest of the
-- first, over the end of its data; one byte past the end; nothing past the end; the verdict, twice
abbrev mixed : List Call
mixed =
    piece 0 (1 ∷ 2 ∷ []) ∷ piece 2 (1 ∷ []) ∷ finish ∷ piece 0 (3 ∷ 4 ∷ 5 ∷ 6 ∷ []) ∷ piece 0 [] ∷ piece 1 (7 ∷ 8 ∷ 9 ∷ 10 ∷ 11 ∷ [])
    ∷ piece 0 (3 ∷ 4 ∷ 5 ∷ []) ∷ piece 0 (1 ∷ []) ∷ piece 0 [] ∷ finish ∷ finish ∷ []

abbrev mixed_answers : List (List ℕ)
mixed_answers =
    (0 ∷ []) ∷ (5 ∷ []) ∷ (0 ∷ 8 ∷ 0 ∷ 0 ∷ 0 ∷ []) ∷ (7 ∷ []) ∷ (0 ∷ []) ∷ (0 ∷ [])
    ∷ (0 ∷ []) ∷ (7 ∷ []) ∷ (0 ∷ []) ∷ (1 ∷ 0 ∷ 5 ∷ 7 ∷ 6 ∷ []) ∷ (1 ∷ 0 ∷ 5 ∷ 7 ∷ 6 ∷ []) ∷ []

history_of_mixed : answers 5 2 shown (begun 2) mixed ≡ mixed_answers
unfolding answer_to kept
history_of_mixed = refl

-- blocks of 520 bytes, three members, and any full scrub: a whole block, one byte more, none more, for the same member; no fourth
-- member; one byte for another
module _ (scrub : List (List ℕ) → List ℕ) where
  past_the_end : answers 520 3 scrub (begun 3) (piece 1 (replicate 520 0) ∷ piece 1 (9 ∷ []) ∷ piece 1 [] ∷ piece 3 [] ∷ piece 0 (9 ∷ []) ∷ [])
      ≡ (0 ∷ []) ∷ (7 ∷ []) ∷ (0 ∷ []) ∷ (5 ∷ []) ∷ (0 ∷ []) ∷ []
  unfolding answer_to kept
  past_the_end = refl

  -- any block in pieces of one byte, and one byte more
  byte_by_byte : (block : List ℕ) → length block ≡ 520
      → answers 520 3 scrub (begun 3) (map (λ x. piece 1 (x ∷ [])) block ++ (piece 1 (9 ∷ []) ∷ [])) ≡ replicate 520 (0 ∷ []) ++ ((7 ∷ []) ∷ [])
  unfolding answer_to
  byte_by_byte block e =
      bytes-answers 520 3 scrub (begun 3) 1 block (piece 1 (9 ∷ []) ∷ []) (omega arith) (omega arith) (omega arith) ∙ rw e

-- too early, with the scrub of the product
early_finish : (a : Array) (stripe : ℕ)
    → answers 520 3 (scrub_blocks a stripe) (begun 3) (piece 0 (9 ∷ []) ∷ finish ∷ []) ≡ (0 ∷ []) ∷ (0 ∷ 8 ∷ 0 ∷ 0 ∷ 0 ∷ 0 ∷ []) ∷ []
unfolding answer_to kept
early_finish a stripe = ap (λ (x : List ℕ). (0 ∷ []) ∷ x ∷ []) (refused_verdict a stripe 7 (summary_of (format_at a) ((9 ∷ []) ∷ [] ∷ [] ∷ [])))
