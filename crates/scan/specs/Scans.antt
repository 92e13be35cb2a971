-- The calls of a scan: for each its refusal number, its answer, and the state and work buffer that it leaves, on any state and any
-- buffer, not only those that a start leads to. Assumes nothing.
use Rattle.std.specs.Prelude.{ℕ, ◌+◌, ◌-◌, ◌*◌, ◌^◌, Bool, not, cond, ◌&&◌, ◌||◌, List, ◌++◌, map, leb, ltb, eqb, length, get_or, take, drop, set, replicate}
use Rattle.std.proofs.lemmas.List.Edits.{sets}
use Rattle.xor.specs.Xors.{xors}
use Rattle.layout.specs.Answers.{refuse, after, answer}
use Rattle.layout.specs.Arrays.{no_array, stripe_refusal}
use Rattle.layout.specs.declared.Array.{Array}
use Rattle.stripe.specs.Tables.{table, all, span}
use Rattle.format.specs.Formats.{Format, most_tags, value_in, waiting_in, register_from}
use Rattle.tag.specs.Blocks.{format_at}
use Rattle.stripe.specs.Formats.{Summary}
use Rattle.stripe.specs.Verdicts.{verdict}
use Rattle.scan.specs.declared.Scan.{Scan}

-- ---- a piece, for a member whose position is p: the part of it that is data, and the part that is tag

module _ (F : Format) where
  unfoldable pub data_of_piece : ℕ → List ℕ → List ℕ
  data_of_piece p bytes = take (F.data_length - p) bytes

  unfoldable pub tag_of_piece : ℕ → List ℕ → List ℕ
  tag_of_piece p bytes = drop (F.data_length - p) bytes

  -- what it makes of the positions, the registers, the tag bytes and the work buffer: the data go into the member's register and,
  -- at its position, into the combination; the tag bytes are stored at their places of the member's tag
  unfoldable pub positions : List ℕ → ℕ → List ℕ → List ℕ
  positions at m bytes = set at m (get_or at m 0 + length bytes)

  unfoldable pub registers : List ℕ → List ℕ → ℕ → List ℕ → List ℕ
  registers at register m bytes = set register m (F.advance (get_or at m 0) (get_or register m F.start) (data_of_piece (get_or at m 0) bytes))

  unfoldable pub tags : List ℕ → List ℕ → ℕ → List ℕ → List ℕ
  tags at tag m bytes = sets tag (F.tag_length * m + (get_or at m 0 - F.data_length)) (tag_of_piece (get_or at m 0) bytes)

  unfoldable pub buffer : List ℕ → List ℕ → ℕ → List ℕ → List ℕ
  buffer at work m bytes = take (get_or at m 0) work ++ xors (drop (get_or at m 0) work) (data_of_piece (get_or at m 0) bytes)

  -- what the registers, tag bytes and work buffer say of a stripe of n members
  unfoldable pub held_summary : ℕ → List ℕ → List ℕ → List ℕ → Summary
  held_summary n register tag work =
      record {
        guards = map F.guard_of (take n register);
        tags = table n (λ m. span (F.tag_length * m) F.tag_length tag);
        combined = work;
      }

-- ---- the registers of a state: a value, and the byte that waits for its pair

abbrev pub register_at : Format → Scan → ℕ → ℕ
register_at F s m = register_from F (get_or s.register m 0) (get_or s.waiting m 0)

unfoldable pub registers_of : Format → Scan → List ℕ
registers_of F s = table 16 (register_at F s)

-- ---- start: the buffer cleared, and a state with nothing taken

unfoldable pub start_refusal : Array → ℕ → ℕ → ℕ
start_refusal a stripe workBytes = after (stripe_refusal a stripe) (refuse (not (eqb workBytes (format_at a).data_length)) 6 0)

unfoldable pub empty_scan : Array → ℕ → Scan
empty_scan a stripe =
    record {
      array = a;
      stripe = stripe;
      at = replicate 16 0;
      register = replicate 16 (format_at a).start;
      waiting = replicate 16 0;
      tag = replicate most_tags 0;
    }

unfoldable pub start_state : Array → ℕ → ℕ → Scan
start_state a stripe workBytes = cond (eqb (start_refusal a stripe workBytes) 0) (empty_scan a stripe) (empty_scan no_array 0)

unfoldable pub start_work : Array → ℕ → List ℕ → List ℕ
start_work a stripe work = cond (eqb (start_refusal a stripe (length work)) 0) (replicate (format_at a).data_length 0) work

-- ---- a state is fit: numbers in range, and of the first n members no position past the end of a block, no value with more bits than a guard has, and
-- no byte waiting where none can

abbrev pub values_fit : Format → ℕ → List ℕ → Bool
values_fit F n register = all (table n (λ m. ltb (get_or register m 0) (256 ^ F.quarter)))

abbrev pub waiting_fit : Format → ℕ → List ℕ → List ℕ → Bool
waiting_fit F n at waiting = all (table n (λ m. eqb (get_or waiting m 0) 0 || F.waits (get_or at m 0)))

-- by the parts of a state that are looked at: all but the tag bytes
abbrev pub fit_by : Array → ℕ → List ℕ → List ℕ → List ℕ → Bool
fit_by a stripe at register waiting =
    eqb (stripe_refusal a stripe) 0
    && all (map (λ p. leb p (format_at a).block_length) (take a.members at))
    && values_fit (format_at a) a.members register
    && waiting_fit (format_at a) a.members at waiting

unfoldable pub fit : Scan → Bool
fit s = fit_by s.array s.stripe s.at s.register s.waiting

-- ---- piece

unfoldable pub piece_refusal : Scan → ℕ → ℕ → ℕ → ℕ
piece_refusal s member pieceBytes workBytes =
    refuse (not (fit s)) 4
    (refuse (not (ltb member s.array.members)) 5
    (refuse (not (eqb workBytes (format_at s.array).data_length)) 6 (refuse (ltb ((format_at s.array).block_length - get_or s.at member 0) pieceBytes) 7 0)))

unfoldable pub advanced : Scan → ℕ → List ℕ → Scan
advanced s member bytes =
    let F = format_at s.array in
    let position = get_or s.at member 0 in
    let after = F.advance position (register_at F s member) (data_of_piece F position bytes) in
    record {
      array = s.array;
      stripe = s.stripe;
      at = positions F s.at member bytes;
      register = set s.register member (value_in F after);
      waiting = set s.waiting member (waiting_in F after);
      tag = tags F s.at s.tag member bytes;
    }

unfoldable pub piece_state : Scan → ℕ → List ℕ → ℕ → Scan
piece_state s member bytes workBytes = cond (eqb (piece_refusal s member (length bytes) workBytes) 0) (advanced s member bytes) s

unfoldable pub piece_work : Scan → ℕ → List ℕ → List ℕ → List ℕ
piece_work s member bytes work =
    cond (eqb (piece_refusal s member (length bytes) (length work)) 0) (buffer (format_at s.array) s.at work member bytes) work

-- ---- finish: the verdict on what the state and the buffer say of the stripe

unfoldable pub finish_refusal : Scan → ℕ → ℕ
finish_refusal s workBytes =
    refuse (not (fit s)) 4
    (refuse (not (eqb workBytes (format_at s.array).data_length)) 6 (refuse (not (all (map (λ p. eqb p (format_at s.array).block_length) (take s.array.members s.at)))) 8 0))

unfoldable pub finish_numbers : Scan → List ℕ → List ℕ
finish_numbers s work =
    answer (finish_refusal s (length work)) (verdict s.array s.stripe (held_summary (format_at s.array) s.array.members (registers_of (format_at s.array) s) s.tag work))
