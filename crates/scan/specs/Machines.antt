-- The scan over any format, as a machine: what it answers to a call and what it holds after, by the functions that the promises of
-- the calls name. Assumes nothing.
use Rattle.std.specs.Prelude.{ℕ, ◌-◌, not, cond, List, [], ◌∷◌, map, ltb, eqb, length, get_or, take, replicate}
use Rattle.layout.specs.Answers.{refuse, answer}
use Rattle.stripe.specs.Tables.{all}
use Rattle.format.specs.Formats.{Format}
use Rattle.stripe.specs.Formats.{Summary, summary_of}
use Rattle.scan.specs.History.{Call, piece, finish}
use Rattle.scan.specs.Holding.{Held}
use Rattle.scan.specs.Scans.{positions, registers, tags, buffer, held_summary}

-- nothing taken yet, with room for `size` members and `room` bytes of tags
abbrev pub fresh : (F : Format) → ℕ → ℕ → Held F
fresh F size room =
    record { at = replicate size 0; register = replicate size F.start; tag = replicate room 0; work = replicate F.data_length 0 }

-- what a piece makes of what is held
abbrev pub taken : (F : Format) → Held F → ℕ → List ℕ → Held F
taken F h m bytes =
    record {
      at = positions F h.at m bytes;
      register = registers F h.at h.register m bytes;
      tag = tags F h.at h.tag m bytes;
      work = buffer F h.at h.work m bytes;
    }

-- the full scrub of whole blocks, for a verdict on their summary
abbrev pub scrub_of : (F : Format) → (Summary → List ℕ) → List (List ℕ) → List ℕ
scrub_of F judge blocks = judge (summary_of F blocks)

module _ (F : Format) (n : ℕ) where
  abbrev pub held_piece_number : Held F → ℕ → List ℕ → ℕ
  held_piece_number h m bytes = refuse (not (ltb m n)) 5 (refuse (ltb (F.block_length - get_or h.at m 0) (length bytes)) 7 0)

  abbrev pub held_finish_number : Held F → ℕ
  held_finish_number h = refuse (not (all (map (λ p. eqb p F.block_length) (take n h.at)))) 8 0

module _ (F : Format) (n : ℕ) (judge : Summary → List ℕ) where
  unfoldable pub held_answer : Held F → Call → List ℕ
  held_answer h (piece m bytes) = held_piece_number F n h m bytes ∷ []
  held_answer h finish = answer (held_finish_number F n h) (judge (held_summary F n h.register h.tag h.work))

  unfoldable pub held_after : Held F → Call → Held F
  held_after h (piece m bytes) = cond (eqb (held_piece_number F n h m bytes) 0) (taken F h m bytes) h
  held_after h finish = h

  -- the machine's answers to a list of calls
  abbrev pub held_answers : Held F → List Call → List (List ℕ)
  held_answers h [] = []
  held_answers h (c ∷ calls) = held_answer h c ∷ held_answers (held_after h c) calls
